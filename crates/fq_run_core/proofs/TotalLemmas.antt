-- The texts, counts and totals of pairs, one list after another.
use Rattle.std.proofs.Common.{◌≡◌, ℕ, ◌+◌, ◌<◌, ◌≤◌, ◌^◌, Bool, List, [], ◌∷◌, ◌++◌, length, filter, refl, ap, arith, true, false, Option, Some, None, sym, ap₂, ◌∙◌}
use Rattle.std.proofs.Math.Nat.{min-eq_left}
use Rattle.std.proofs.lemmas.Grind.{common_steps}
use Rattle.fq_trim.specs.declared.step.Step.{Step}
use Rattle.fq_trim.specs.Sums.{capped_sum}
use Rattle.fq_pair.specs.declared.counts.Counts.{Counts}
use Rattle.fq_pair.specs.declared.out.Out.{Out}
use Rattle.fq_pair.specs.declared.out.Out.TheVariants.{ForwardPaired, ForwardUnpaired, ReversePaired, ReverseUnpaired, Log}
use Rattle.fq_pair.specs.Mates.{Mates}
use Rattle.fq_pair.specs.Summaries.{capped}
use Rattle.fq_pair.specs.Outputs.{Outputs, texts_of, text_of, counts_of, sum_of}
use Rattle.fq_pair.proofs.OutputLaws.{texts_of-append}
use Rattle.fq_report_pairs.specs.declared.tally.Tally.{Tally}
use Rattle.fq_report_pairs.proofs.ResultLemmas.{with_none, with_more}
use Rattle.fq_report_pairs.specs.declared.done.Done.{Done}
use Rattle.fq_report_pairs.specs.Results.{none_counted, tally_with}
use Rattle.fq_run_core.specs.declared.halt.Halt.{Halt}
use Rattle.fq_run_core.specs.declared.reading_end.ReadingEnd.{ReadingEnd}
use Rattle.fq_run_core.specs.declared.total.Total.{Total}
use Rattle.fq_run_core.specs.Choices.{Choices}
use Rattle.fq_run_core.specs.Totals.{total_of, no_total}
use Rattle.fq_run_core.specs.Writing.{IsCounted}

-- The texts and counts of pairs, one list after another.

counts_then : (steps : List Step) (ms ns : List Mates) →
    counts_of steps (ms ++ ns) ≡ sum_of (counts_of steps ms) (counts_of steps ns)
counts_then steps ms ns = ap (λ (t : Outputs). t.counts) (texts_of-append steps ms ns)

-- no pairs have no texts
pub no_text : (steps : List Step) (out : Out) → text_of out (texts_of steps []) ≡ []
no_text steps ForwardPaired = refl
no_text steps ForwardUnpaired = refl
no_text steps ReversePaired = refl
no_text steps ReverseUnpaired = refl
no_text steps Log = refl

-- what has a text has a pair
pub some_pair : (steps : List Step) (out : Out) (block : List Mates) (n : ℕ) →
    n < length (text_of out (texts_of steps block)) → 0 < length block
some_pair steps out [] n some = let none = ap length (no_text steps out) in absurd (omega arith)
some_pair steps out (m ∷ ms) n some = omega arith

fewer : (test : Mates → Bool) (ms : List Mates) → length (filter test ms) ≤ length ms
fewer test [] = omega arith
fewer test (m ∷ ms) = grind (arith, common_steps, fewer test ms)

capped_small : (a b : ℕ) → a + b < 2 ^ 62 → capped_sum a b ≡ a + b
capped_small a b small = min-eq_left (omega arith)

-- the counts of few pairs add up
pub counts_added : (steps : List Step) (ms ns : List Mates) (a b : Counts) →
    a ≡ counts_of steps ms → b ≡ counts_of steps ns → length ms + length ns < 2 ^ 62 →
    capped a b ≡ counts_of steps (ms ++ ns)
counts_added steps ms ns a b first second small =
    grind (arith, common_steps, capped_small, filter, fewer, counts_then)

-- Totals of pairs, one list after another.

-- the total of no pairs is the same whatever the steps are
pub no_total_is : (tallied : Bool) (steps : List Step) →
    no_total tallied ≡ total_of tallied steps []
no_total_is true steps = refl
no_total_is false steps = refl

-- the totals of few pairs add up
pub total_added : (tallied : Bool) (steps : List Step) (ms ns : List Mates) (total then : Total)
    (done : Done) → total ≡ total_of tallied steps ms → done.texts ≡ texts_of steps ns →
    then.counts ≡ capped total.counts done.texts.counts →
    then.tally ≡ tally_with steps total.tally ns →
    length ms + length ns < 2 ^ 62 → then ≡ total_of tallied steps (ms ++ ns)
total_added tallied steps ms ns total then done first texts counts tally small =
    let with : Counts → Option Tally → Total = λ n t. record { counts = n; tally = t } in
    ap₂ with (counts ∙ counts_added steps ms ns total.counts done.texts.counts
    (ap (λ (t : Total). t.counts) first) (ap (λ (t : Outputs). t.counts) texts) small)
    (tally ∙ ap (λ (t : Total). tally_with steps t.tally ns) first
    ∙ ap (λ (t : Option Tally). tally_with steps t ns) (sym (with_none tallied steps ms))
    ∙ with_more steps (none_counted tallied) ms ns ∙ with_none tallied steps (ms ++ ns))

-- a total of pairs counts them, whatever was read and whichever worker stopped
pub is_counted : (c : Choices) (whole : List Mates) (halt : Halt) (why : Option ReadingEnd)
    (broken : Option Out) (total : Total) → total ≡ total_of c.tallied c.steps whole →
    IsCounted c whole halt why broken total
is_counted c whole halt why broken total is = grind (arith, common_steps)

-- if a write failed, nothing is said of the tally
pub is_cut : (c : Choices) (whole : List Mates) (halt : Halt) (why : Option ReadingEnd)
    (failed : Out) (total : Total) → total.counts ≡ counts_of c.steps whole →
    IsCounted c whole halt why (Some failed) total
is_cut c whole halt why failed total is = grind (arith, common_steps)

-- what is counted if no write failed is counted if no outlet failed
pub recounted : (c : Choices) (whole : List Mates) (halt : Halt) (why : Option ReadingEnd)
    (broken failed : Option Out) (total : Total) → (failed ≡ None → broken ≡ None) →
    IsCounted c whole halt why broken total → IsCounted c whole halt why failed total
recounted c whole halt why broken failed total sound counts = grind (arith, common_steps)
