use Rattle.std.proofs.Common.{◌≡◌, ℕ, zero, suc, List, ◌∷◌, get_or, map, refl, ap, [], sum, arith, ◌≤◌, length, ◌<◌, ◌+◌, false, ◌⊎◌, true, inl, inr, not, ◌∙◌, ◌≢◌, Bool, cond, ◌&&◌, filter}
use Rattle.std.specs.List.{All}
use Rattle.std.proofs.Math.Bool.{and_comm}
use Rattle.std.proofs.lemmas.List.Elements.{All-head, All-tail}
use Rattle.fq_trim.specs.Keeping.{places, kept, scores}
use Rattle.fq_report_reads.specs.Courses.{Course, survives, Part, whole, after, course_of, part_at, alone, course}
use Rattle.fq_trim.specs.KeptPlaces.{is_empty}
use Rattle.fq_trim.specs.declared.step.Step.{Step}
use Rattle.fq_text.specs.Grammar.{Read}
use Rattle.fq_law_in_step.specs.Reports.{ReadsAreDroppedOnce, AddsUp, dropped_by}
use Rattle.fq_report_reads.specs.declared.side.SideTally.{SideTally}
use Rattle.fq_report_reads.specs.SideTallies.{with_read, no_side}
use Rattle.fq_pair.specs.Mates.{Mates}
use Rattle.fq_pair.specs.Outputs.{both_survive, forward_alone, reverse_alone}
use Rattle.fq_law_in_step.proofs.ReportLemmas.{sum-cons, capped_small, sum_one, Fits, side_of, both_sides}
use Rattle.fq_report_reads.proofs.LeftLaws.{not_empty, survives_as_kept}
use Rattle.fq_report_reads.proofs.CourseLemmas.{alone_length}
use Rattle.fq_law_in_step.proofs.CountLemmas.{bit, one_more}
use Rattle.fq_report_reads.proofs.RowLemmas.{length-with_one}
use Rattle.fq_trim.specs.KeptPlaces as of_steps
use Rattle.fq_law_in_step.proofs.reports.reports_add_up.Goals as goal
use Rattle.std.proofs.lemmas.Grind.{common_steps}

-- the numbers at the first places add up to the sum
at_next : (x : ℕ) (xs : List ℕ) (a n : ℕ) → map (λ i. get_or (x ∷ xs) i 0) (places (suc a) n) ≡ map
    (λ i. get_or xs i 0) (places a n)
at_next x xs a zero = refl
at_next x xs a (suc n) = grind (arith, common_steps, at_next x xs (suc a) n)

none_at : (a n : ℕ) → sum (map (λ i. get_or [] i 0) (places a n)) ≡ 0
none_at a zero = refl
none_at a (suc n) = grind (arith, common_steps, sum-cons, none_at (suc a) n)

sum_at : (xs : List ℕ) (n : ℕ) → length xs ≤ n →
    sum (map (λ i. get_or xs i 0) (places 0 n)) ≡ sum xs
sum_at [] n few = none_at 0 n
sum_at (x ∷ xs) zero few = absurd (omega arith)
sum_at (x ∷ xs) (suc n) few = grind (arith, common_steps, at_next, sum-cons, sum_at xs n)

-- Which step drops a read.

-- the read survives and no step has dropped it, or it doesn't and exactly one step has, with a
-- number from `n` on, below `n + m`
record IsDropped (n m : ℕ) (c : Course) : Type 0 where
  by : ℕ
  from : n ≤ by
  below : by < n + m
  gone : survives c.left ≡ false
  dropped : c.dropped ≡ by ∷ []

abbrev Goes : ℕ → ℕ → Course → Type 0
Goes n m c = ((survives c.left ≡ true) × (c.dropped ≡ [])) ⊎ IsDropped n m c

goes_after : (n m : ℕ) (at : List ℕ) (part : Part) (c : Course) →
    (is_empty at ≡ false → Goes (suc n) m c) → Goes n (suc m) (after n at part c)
goes_after n m [] part c on = grind (arith, common_steps)
goes_after n m (start ∷ others) part c on = grind (arith, common_steps)

goes : (n : ℕ) (lists : List (List Step)) (part : Part) →
    (is_empty part.seq ≡ false) ⊎ (0 < length lists) →
    Goes n (length lists) (course_of n lists part)
goes n [] part some = grind (arith, common_steps)
goes n (steps ∷ lists) part some =
    let at = kept steps (scores part.encoding part.qual) in
    goes_after n (length lists) at part (course_of (suc n) lists (part_at at part))
    (λ base. goes (suc n) lists (part_at at part)
    (inl (not_empty (λ (i : ℕ). get_or part.seq i 0) at ∙ base)))

-- steps, each in a list of its own
some_step : (steps : List Step) → steps ≢ [] → 0 < length steps
some_step steps none = grind (arith, common_steps)

by_steps : (steps : List Step) (read : Read) → 0 < length steps →
    Goes 0 (length steps) (course (alone steps) read)
by_steps steps read some = grind (arith, common_steps, alone_length, goes)

once : (n m : ℕ) (c : Course) → Goes n m c → length c.dropped ≡ cond (survives c.left) 0 1
once n m c way = grind (arith, common_steps)

-- a read that survives is dropped by no step, and any other read by exactly one
dropped_once : ReadsAreDroppedOnce
dropped_once steps read some same =
    once 0 (length steps) (course (alone steps) read) (by_steps steps read (some_step steps some))
    ∙ ap (λ (x : Bool). cond x 0 1) (survives_as_kept steps read same)

-- One side.

-- `all` reads were counted: `both` survive with their mate, `only` survive alone, and the others
-- were dropped
record Counts (steps : List Step) (t : SideTally) (all both only : ℕ) : Type 0 where
  before : t.before.reads ≡ all
  paired : t.paired.reads ≡ both
  unpaired : t.unpaired.reads ≡ only
  rows : length t.steps.dropped ≤ length steps
  sum_is : sum t.steps.dropped + both + only ≡ all

one_counted : (steps : List Step) (t : SideTally) (a b o : ℕ) (read : Read) (c : Course)
    (mate : Bool) → Counts steps t a b o → Goes 0 (length steps) c → a < 18446744073709551615 →
    Counts steps (with_read read c mate t) (1 + a) (bit (survives c.left && mate) + b)
    (bit (survives c.left && not mate) + o)
one_counted steps t a b o read c true counts (inl whole) few =
    grind (arith, common_steps, capped_small)
one_counted steps t a b o read c false counts (inl whole) few =
    grind (arith, common_steps, capped_small)
one_counted steps t a b o read c mate counts (inr by) few =
    grind (arith, common_steps, capped_small, sum_one, length-with_one)

module _ (steps : List Step) (some : 0 < length steps) (mine other : Mates → Read)
    (both only : Mates → Bool)
    (both_is : (m : Mates) →
    both m ≡ (of_steps.survives steps (mine m) && of_steps.survives steps (other m)))
    (only_is : (m : Mates) →
    only m ≡ (of_steps.survives steps (mine m) && not (of_steps.survives steps (other m)))) where
  all_counted : (ms : List Mates) (t : SideTally) (a b o : ℕ) → All (Fits mine) ms →
      All (Fits other) ms → a + length ms ≤ 18446744073709551615 → Counts steps t a b o →
      Counts steps (side_of mine other steps t ms) (length ms + a) (length (filter both ms) + b)
      (length (filter only ms) + o)
  all_counted [] t a b o fit fit_mate few counts = grind (arith, common_steps)
  all_counted (m ∷ ms) t a b o fit fit_mate few counts =
      let c = course (alone steps) (mine m) in
      let mate = survives (course (alone steps) (other m)).left in
      let left = survives_as_kept steps (mine m) (All-head (Fits mine) m ms fit) in
      let left_mate = survives_as_kept steps (other m) (All-head (Fits other) m ms fit_mate) in
      let next = one_counted steps t a b o (mine m) c mate counts (by_steps steps (mine m) some)
      (omega arith) in
      let rest = all_counted ms (with_read (mine m) c mate t) (1 + a)
      (bit (survives c.left && mate) + b) (bit (survives c.left && not mate) + o)
      (All-tail (Fits mine) m ms fit) (All-tail (Fits other) m ms fit_mate) (omega arith) next in
      grind (arith, common_steps, one_more, both_is m, only_is m)

adds_up : (steps : List Step) (t : SideTally) (a b o all both only : ℕ) → Counts steps t a b o →
    a ≡ all → b ≡ both → o ≡ only → AddsUp steps t all both only
adds_up steps t a b o all both only c same_a same_b same_o =
    let rows : sum (dropped_by steps t.steps) ≡ sum t.steps.dropped =
    sum_at t.steps.dropped (length steps) c.rows in
    grind (arith, common_steps)

-- a read that survives is dropped by no step, and any other read by exactly one
pub returns-clause-once : goal.returns-clause-once
returns-clause-once c = dropped_once

-- on each side the dropped reads and the survivors add up to the reads before trimming
pub returns-clause-sums : goal.returns-clause-sums
returns-clause-sums c check e steps ms are some few =
    let s = of_steps.survives steps in
    let none : Counts steps no_side 0 0 0 =
    record { before = refl; paired = refl; unpaired = refl; rows = omega arith; sum_is = refl } in
    let sides = both_sides check e steps ms (λ mine other t. (both only : Mates → Bool) →
    ((m : Mates) → both m ≡ (s (mine m) && s (other m))) →
    ((m : Mates) → only m ≡ (s (mine m) && not (s (other m)))) →
    AddsUp steps t (length ms) (length (filter both ms)) (length (filter only ms)))
    (λ mine other fit fit_mate both only both_is only_is.
    adds_up steps (side_of mine other steps no_side ms) _ _ _ _ _ _
    (all_counted steps (some_step steps some) mine other both only both_is only_is ms no_side 0 0 0
    fit fit_mate (omega arith) none) (omega arith) (omega arith) (omega arith)) are in (
      sides.0 (both_survive steps) (forward_alone steps) (λ m. refl) (λ m. refl),
      sides.1 (both_survive steps) (reverse_alone steps)
          (λ m. and_comm (s m.forward) (s m.reverse))
          (λ m. and_comm (not (s m.forward)) (s m.reverse)),
    )
