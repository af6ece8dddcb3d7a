use Rattle.std.proofs.Common.{arith, List, ℕ, [], ◌∷◌, ◌≡◌, false, Option, Some, None, refl, suc, map}
use Rattle.serde_json.specs.Written.{has_float, items_have_float}
use Rattle.serde_json.specs.View.{items_of}
use Rattle.fq_report.specs.Facts.{facts_of, Facts}
use Rattle.fq_report.specs.Values.{optional_text, count, fields}
use Rattle.fq_pair.specs.Forms.{Form, TwoTexts, InterleavedText}
use Rattle.fq_pair.specs.Inputs.{InputNames}
use Rattle.fq_report.specs.Reports.{inputs_value, outputs_value, pairs_value, counts, length_value, rows_from, named_columns, positions_value, reads_value, removed_value, side_value, sides_value, done_value, step_value, steps_from, report_value}
use Rattle.fq_pair.specs.declared.counts.Counts.{Counts}
use Rattle.fq_report_reads.specs.declared.columns.Columns.{Columns}
use Rattle.fq_report_reads.specs.declared.reads.ReadsTally.{ReadsTally}
use Rattle.fq_report_reads.specs.declared.side.SideTally.{SideTally}
use Rattle.fq_report_pairs.specs.declared.tally.Tally.{Tally}
use Rattle.fq_report.proofs.report.report_text.Goals as goal

-- A report has no float, so its value determines its text.

text_no_float : (text : Option (List ℕ)) → has_float (optional_text text) ≡ false
text_no_float (Some text) = refl
text_no_float None = refl

inputs_no_float : (inputs : InputNames) (form : Form) →
    has_float (inputs_value inputs form) ≡ false
unfolding inputs_value
inputs_no_float inputs TwoTexts = refl
inputs_no_float inputs InterleavedText = refl

outputs_no_float : (f : Facts) → has_float (outputs_value f) ≡ false
unfolding outputs_value
outputs_no_float f = rw (text_no_float f.log) refl

pairs_no_float : (counts : Counts) → has_float (pairs_value counts) ≡ false
unfolding pairs_value
pairs_no_float counts = refl

length_no_float : (reads bases : ℕ) → has_float (length_value reads bases) ≡ false
length_no_float reads bases = grind arith

rows_no_float : (number : ℕ) (rows : List ℕ) →
    items_have_float (items_of (rows_from number rows)) ≡ false
rows_no_float number [] = refl
rows_no_float number (reads ∷ rows) = grind (arith, rows_no_float (suc number) rows)

numbers_no_float : (ns : List ℕ) → items_have_float (items_of (map count ns)) ≡ false
numbers_no_float [] = refl
numbers_no_float (n ∷ ns) = numbers_no_float ns

lists_no_float : (named : List (List ℕ × List ℕ)) →
    has_float (fields (map (λ column. (column.0, counts column.1)) named)) ≡ false
lists_no_float [] = refl
lists_no_float (column ∷ columns) = rw (numbers_no_float column.1) (lists_no_float columns)

positions_no_float : (columns : Columns) → has_float (positions_value columns) ≡ false
unfolding positions_value
positions_no_float columns = lists_no_float (named_columns columns)

reads_no_float : (t : ReadsTally) (columns : Columns) → has_float (reads_value t columns) ≡ false
unfolding reads_value
reads_no_float t columns = simp (rows_no_float, length_no_float, positions_no_float)

side_no_float : (t : SideTally) → has_float (side_value t) ≡ false
unfolding side_value removed_value
side_no_float t = simp (rows_no_float, reads_no_float)

sides_no_float : (t : Tally) → has_float (sides_value t) ≡ false
unfolding sides_value
sides_no_float t = rw (side_no_float t.forward, side_no_float t.reverse) refl

step_no_float : (number : ℕ) (word : List ℕ) (t : Tally) →
    has_float (step_value number word t) ≡ false
unfolding step_value done_value
step_no_float number word t = refl

steps_no_float : (number : ℕ) (words : List (List ℕ)) (t : Tally) →
    items_have_float (items_of (steps_from number words t)) ≡ false
steps_no_float number [] t = refl
steps_no_float number (word ∷ words) t = rw (step_no_float number word t)
    (steps_no_float (suc number) words t)

-- no value of a report is a float
report_no_float : (f : Facts) → has_float (report_value f) ≡ false
unfolding report_value
report_no_float f =
    simp (
      text_no_float,
      inputs_no_float,
      outputs_no_float,
      pairs_no_float,
      sides_no_float,
      steps_no_float,
    )

-- the text is that of the value of the report, which has no float, and a line feed
pub returns : goal.returns
returns c = let none = report_no_float (facts_of c.args.report.now) in grind (arith, none)
