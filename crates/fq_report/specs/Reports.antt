-- The report of a run as JSON: one definition for each object, with its fields in the order of
-- their names.
use Rattle.std.specs.Prelude.{ℕ, suc, ◌==◌, Option, Some, None, if◌then◌else◌}
use Rattle.std.specs.Prelude.{List, [], ◌∷◌, codes, get_or, map}
use Rattle.fq_text.specs.Scores.{encoding_name}
use Rattle.fq_text.specs.Written.{line}
use Rattle.fq_pair.specs.declared.counts.Counts.{Counts}
use Rattle.fq_pair.specs.Forms.{Form, TwoTexts, InterleavedText}
use Rattle.fq_pair.specs.Inputs.{InputNames}
use Rattle.fq_report_reads.specs.declared.columns.Columns.{Columns}
use Rattle.fq_report_reads.specs.declared.reads.ReadsTally.{ReadsTally}
use Rattle.fq_report_reads.specs.declared.steps.StepsTally.{StepsTally}
use Rattle.fq_report_reads.specs.declared.side.SideTally.{SideTally}
use Rattle.fq_report_pairs.specs.declared.tally.Tally.{Tally}
use Rattle.serde_json.specs.Data.{Data, null, boolean, string}
use Rattle.serde_json.specs.Written.{compact_text}
use Rattle.fq_report.specs.Values.{count, optional_text, list, fields}
use Rattle.fq_report.specs.Facts.{Facts}

-- Of the call.

-- the command that takes such inputs
abbrev pub command_of : Form → List ℕ
command_of TwoTexts = codes "PE"
command_of InterleavedText = codes "IL"

-- how the run ended: at a fault of its inputs, or at their end
abbrev pub outcome_of : Option (List ℕ) → List ℕ
outcome_of (Some line) = codes "fault"
outcome_of None = codes "finished"

unfoldable pub inputs_value : InputNames → Form → Data
inputs_value inputs TwoTexts = fields (
    (codes "forward", string inputs.forward)
    ∷ (codes "reverse", string inputs.reverse) ∷ [])
inputs_value inputs InterleavedText = fields (
    (codes "interleaved", string inputs.forward) ∷ [])

unfoldable pub outputs_value : Facts → Data
outputs_value f = fields (
    (codes "forward_paired", string f.forward_paired)
    ∷ (codes "forward_unpaired", string f.forward_unpaired)
    ∷ (codes "reverse_paired", string f.reverse_paired)
    ∷ (codes "reverse_unpaired", string f.reverse_unpaired)
    ∷ (codes "trim_log", optional_text f.log) ∷ [])

-- Of pairs.

unfoldable pub pairs_value : Counts → Data
pairs_value c = fields (
    (codes "both_surviving", count c.both)
    ∷ (codes "dropped", count c.dropped)
    ∷ (codes "forward_only_surviving", count c.forward_only)
    ∷ (codes "input", count c.pairs)
    ∷ (codes "reverse_only_surviving", count c.reverse_only) ∷ [])

-- Of reads.

-- the length of the shortest or the longest of these reads, null if there is no read
abbrev pub length_value : ℕ → ℕ → Data
length_value reads bases = if reads == 0 then null else count bases

-- each number that reads have with the number of these reads, in rising order; the first row is
-- that of this number
abbrev pub rows_from : ℕ → List ℕ → List Data
rows_from number [] = []
rows_from number (reads ∷ rows) =
    if reads == 0 then rows_from (suc number) rows
    else list (count number ∷ count reads ∷ []) ∷ rows_from (suc number) rows

-- the number of each position, from the first on
abbrev pub counts : List ℕ → Data
counts numbers = list (map count numbers)

-- the columns with their names, in the order of these
abbrev pub named_columns : Columns → List (List ℕ × List ℕ)
named_columns columns =
    (codes "a", columns.a)
    ∷ (codes "bases", columns.bases)
    ∷ (codes "c", columns.c)
    ∷ (codes "g", columns.g)
    ∷ (codes "n", columns.n)
    ∷ (codes "q30_bases", columns.q30_bases)
    ∷ (codes "score_sum", columns.score_sum)
    ∷ (codes "t", columns.t) ∷ []

unfoldable pub positions_value : Columns → Data
positions_value columns =
    fields (map (λ column. (column.0, counts column.1)) (named_columns columns))

-- reads, and their bases by position
unfoldable pub reads_value : ReadsTally → Columns → Data
reads_value t columns = fields (
    (codes "bases", count t.bases.bases)
    ∷ (codes "gc_bases", count t.bases.gc)
    ∷ (codes "gc_percents", list (rows_from 0 t.gc_percents))
    ∷ (codes "lengths", list (rows_from 0 t.lengths))
    ∷ (codes "longest", length_value t.reads t.longest)
    ∷ (codes "mean_scores", list (rows_from 0 t.mean_scores))
    ∷ (codes "n_bases", count t.bases.n)
    ∷ (codes "positions", positions_value columns)
    ∷ (codes "q20_bases", count t.bases.at_least_20)
    ∷ (codes "q30_bases", count t.bases.at_least_30)
    ∷ (codes "reads", count t.reads)
    ∷ (codes "score_sum", count t.bases.score_sum)
    ∷ (codes "shortest", length_value t.reads t.shortest) ∷ [])

unfoldable pub removed_value : SideTally → Data
removed_value t = fields (
    (codes "behind", count t.behind)
    ∷ (codes "front", count t.front) ∷ [])

unfoldable pub side_value : SideTally → Data
side_value t = fields (
    (codes "before", reads_value t.before t.positions.before)
    ∷ (codes "paired", reads_value t.paired t.positions.paired)
    ∷ (codes "removed_bases", removed_value t)
    ∷ (codes "removed_behind", list (rows_from 0 t.removed_behind))
    ∷ (codes "removed_front", list (rows_from 0 t.removed_front))
    ∷ (codes "unpaired", reads_value t.unpaired t.positions.unpaired) ∷ [])

-- Of steps.

-- what the step of a number did to the reads of a side
unfoldable pub done_value : ℕ → StepsTally → Data
done_value number t = fields (
    (codes "dropped", count (get_or t.dropped number 0))
    ∷ (codes "shortened", count (get_or t.shortened number 0)) ∷ [])

unfoldable pub step_value : ℕ → List ℕ → Tally → Data
step_value number word t = fields (
    (codes "forward", done_value number t.forward.steps)
    ∷ (codes "reverse", done_value number t.reverse.steps)
    ∷ (codes "step", string word) ∷ [])

-- each step in its place; the first has this number
abbrev pub steps_from : ℕ → List (List ℕ) → Tally → List Data
steps_from number [] t = []
steps_from number (word ∷ words) t = step_value number word t ∷ steps_from (suc number) words t

-- All of it.

unfoldable pub sides_value : Tally → Data
sides_value t = fields (
    (codes "forward", side_value t.forward)
    ∷ (codes "reverse", side_value t.reverse) ∷ [])

unfoldable pub report_value : Facts → Data
report_value f = fields (
    (codes "command", string (command_of f.inputs.form))
    ∷ (codes "encoding", string (encoding_name f.encoding))
    ∷ (codes "fault", optional_text f.fault)
    ∷ (codes "inputs", inputs_value f.inputs f.inputs.form)
    ∷ (codes "name_check", boolean f.check_names)
    ∷ (codes "outcome", string (outcome_of f.fault))
    ∷ (codes "outputs", outputs_value f)
    ∷ (codes "pairs", pairs_value f.counts)
    ∷ (codes "program", string f.program)
    ∷ (codes "reads", sides_value f.tally)
    ∷ (codes "schema", count 2)
    ∷ (codes "steps", list (steps_from 0 f.steps f.tally))
    ∷ (codes "version", string f.version) ∷ [])

-- the text of a report: one line of JSON, without blanks between its parts
abbrev pub text_of : Facts → List ℕ
text_of f = line (compact_text (report_value f))
