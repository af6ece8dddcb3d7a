-- Each pair goes one way and is counted once.
use Rattle.std.proofs.Common.{◌≡◌, ℕ, ◌+◌, Bool, true, false, not, ◌&&◌, List, [], ◌∷◌, length, filter, count_by, refl, arith}
use Rattle.std.proofs.lemmas.Bool.{cases_Bool}
use Rattle.std.proofs.lemmas.Grind.{common_steps}
use Rattle.fq_trim.specs.declared.step.Step.{Step}
use Rattle.fq_trim.specs.KeptPlaces.{survives}
use Rattle.fq_pair.specs.Mates.{Mates}
use Rattle.fq_pair.specs.Outputs.{counts_of}
use Rattle.fq_law_in_step.specs.InStep.{PairsGoOneWay}

-- 1 for true, and 0 for false
abbrev pub bit : Bool → ℕ
bit true = 1
bit false = 0

ways : (f r : Bool) →
    count_by (λ (way : Bool). way) ((f && r) ∷ (f && not r) ∷ (not f && r) ∷ (not f && not r) ∷ [])
    ≡ 1
ways f r = grind (arith, common_steps, cases_Bool)

-- each pair goes exactly one of the four ways
pub one_way : PairsGoOneWay
one_way steps m = ways (survives steps m.forward) (survives steps m.reverse)

in_one : (f r : Bool) → bit (f && r) + bit (f && not r) + bit (not f && r) + bit (not f && not r)
    ≡ 1
in_one f r = grind (arith, common_steps, cases_Bool)

-- one more pair is one more of those that pass a test, if it passes
pub one_more : (test : Mates → Bool) (m : Mates) (ms : List Mates) →
    length (filter test (m ∷ ms)) ≡ bit (test m) + length (filter test ms)
one_more test m ms = grind (arith, common_steps, cases_Bool)

-- the counts of the four ways add up to the count of the pairs
pub counts_add_up : (steps : List Step) (ms : List Mates) →
    let counts = counts_of steps ms in
    counts.both + counts.forward_only + counts.reverse_only + counts.dropped ≡ counts.pairs
counts_add_up steps [] = refl
counts_add_up steps (m ∷ ms) = grind (arith, common_steps, one_more, in_one, counts_add_up steps ms)
