-- Sums of rows of a report, and its sides.
use Rattle.std.proofs.Common.{◌≡◌, ◌<◌, ◌≤◌, ℕ, ◌+◌, Bool, List, [], ◌∷◌, length, fold, sum, refl, sym, subst, arith}
use Rattle.std.specs.List.{All}
use Rattle.std.proofs.lemmas.List.Elements.{All-weaker}
use Rattle.std.proofs.lemmas.List.Sums.{sum_by-append, sum_by-cons}
use Rattle.std.proofs.lemmas.List.Folds.{sum_by-replicate}
use Rattle.std.proofs.lemmas.Grind.{common_steps}
use Rattle.fq_text.specs.declared.encoding.Encoding.{Encoding}
use Rattle.fq_text.specs.Grammar.{Read}
use Rattle.fq_trim.specs.declared.step.Step.{Step}
use Rattle.fq_trim.specs.Sums.{capped_sum}
use Rattle.fq_pair.specs.Mates.{Mates}
use Rattle.fq_report_reads.specs.declared.side.SideTally.{SideTally}
use Rattle.fq_report_reads.specs.Courses.{alone, course, survives}
use Rattle.fq_report_reads.specs.Rows.{rows_plus, with_one}
use Rattle.fq_report_reads.specs.SideTallies.{no_side, with_read}
use Rattle.fq_report_pairs.specs.declared.tally.Tally.{Tally}
use Rattle.fq_report_pairs.specs.Tallies.{no_tally, with_pair, tally_of}
use Rattle.fq_law_in_step.specs.InStep.{IsPairIn}

-- one more number in front is added to the sum
pub sum-cons : (x : ℕ) (xs : List ℕ) → sum (x ∷ xs) ≡ x + sum xs
sum-cons x xs = sum_by-cons (λ (n : ℕ). n) x xs

-- a small sum is not capped
pub capped_small : (a b : ℕ) → a + b ≤ 18446744073709551615 → capped_sum a b ≡ a + b
capped_small a b few = omega arith

-- rows that are added to others have the sum of both, if 64 bits can hold it
pub sum_plus : (xs ys : List ℕ) → sum xs + sum ys ≤ 18446744073709551615 →
    sum (rows_plus xs ys) ≡ sum xs + sum ys
sum_plus [] ys few = omega arith
sum_plus (x ∷ xs) [] few = omega arith
sum_plus (x ∷ xs) (y ∷ ys) few = grind (arith, common_steps, sum-cons, sum_plus xs ys)

-- one more in a row is one more in the sum
pub sum_one : (row : ℕ) (xs : List ℕ) → sum xs < 18446744073709551615 →
    sum (with_one row xs) ≡ sum xs + 1
sum_one row xs few =
    grind (arith, common_steps, sum_plus xs, sum_by-append, sum_by-replicate)

-- One side.

-- a side after these pairs: `mine` is the read on that side, and `other` its mate
abbrev pub side_of : (Mates → Read) → (Mates → Read) → List Step → SideTally → List Mates →
    SideTally
side_of mine other steps t ms = fold (λ (t : SideTally) (m : Mates). with_read (mine m)
    (course (alone steps) (mine m)) (survives (course (alone steps) (other m)).left) t) t ms

forward_side : (steps : List Step) (ms : List Mates) (t : Tally) →
    (fold (with_pair (alone steps)) t ms).forward
    ≡ side_of (λ m. m.forward) (λ m. m.reverse) steps t.forward ms
forward_side steps [] t = refl
forward_side steps (m ∷ ms) t = forward_side steps ms (with_pair (alone steps) t m)

reverse_side : (steps : List Step) (ms : List Mates) (t : Tally) →
    (fold (with_pair (alone steps)) t ms).reverse
    ≡ side_of (λ m. m.reverse) (λ m. m.forward) steps t.reverse ms
reverse_side steps [] t = refl
reverse_side steps (m ∷ ms) t = reverse_side steps ms (with_pair (alone steps) t m)

-- the read of a pair has as many quality bytes as bases
abbrev pub Fits : (Mates → Read) → Mates → Type 0
Fits mate m = length (mate m).qual ≡ length (mate m).seq

-- what holds of a side of the report of pairs of inputs holds of both sides
pub both_sides : (check : Bool) (e : Encoding) (steps : List Step) (ms : List Mates)
    (P : (Mates → Read) → (Mates → Read) → SideTally → Type 0) →
    ((mine other : Mates → Read) → All (Fits mine) ms → All (Fits other) ms →
    P mine other (side_of mine other steps no_side ms)) →
    All (IsPairIn check e) ms →
    P (λ m. m.forward) (λ m. m.reverse) (tally_of (alone steps) ms).forward
    × P (λ m. m.reverse) (λ m. m.forward) (tally_of (alone steps) ms).reverse
both_sides check e steps ms P holds are =
    let f : Mates → Read = λ m. m.forward in
    let r : Mates → Read = λ m. m.reverse in
    let Pair = IsPairIn check e in
    let fit_f = All-weaker Pair (Fits f) (λ m is. is.forward.lawful.same_len) ms are in
    let fit_r = All-weaker Pair (Fits r) (λ m is. is.reverse.lawful.same_len) ms are in (
      subst (P f r) (sym (forward_side steps ms no_tally)) (holds f r fit_f fit_r),
      subst (P r f) (sym (reverse_side steps ms no_tally)) (holds r f fit_r fit_f),
    )
