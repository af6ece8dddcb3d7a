-- Seats of which one is changed.
use Rattle.std.proofs.Common.{◌≡◌, ℕ, zero, suc, ◌+◌, ◌<◌, ◌≤◌, Bool, true, false, cond, ◌==◌, eqb-true, refl, arith, below_more}
use Rattle.std.proofs.lemmas.Bool.{eqb-false}
use Rattle.fq_law_progress.specs.Model.{Seat, changed}
use Rattle.fq_law_progress.specs.Progress.{seat_left, seats_left}
use Rattle.std.proofs.lemmas.Grind.{common_steps}

-- at each number it is the new seat, or the old one at another number
each_by : (P : ℕ → Seat → Type 0) (j : ℕ) (q : Seat) (seats : ℕ → Seat) (i : ℕ) (b : Bool) →
    (i == j) ≡ b → P j q → ((i ≡ j → ⊥) → P i (seats i)) → P i (cond b q (seats i))
each_by P j q seats i b e here away = grind (arith, common_steps, eqb-false, eqb-true)

-- what holds of the changed seat, and of the old ones at other numbers, holds at each number
pub changed_each : (P : ℕ → Seat → Type 0) (j : ℕ) (q : Seat) (seats : ℕ → Seat) → P j q →
    ((i : ℕ) → (i ≡ j → ⊥) → P i (seats i)) → (i : ℕ) → P i (changed j q seats i)
changed_each P j q seats here away i = each_by P j q seats i (i == j) refl here (away i)

left_outside : (n j : ℕ) (q : Seat) (seats : ℕ → Seat) → n ≤ j →
    seats_left n (changed j q seats) ≡ seats_left n seats
left_outside zero j q seats h = refl
left_outside (suc n) j q seats h = grind (arith, common_steps, left_outside n j q seats)

left_by : (n j : ℕ) (q : Seat) (seats : ℕ → Seat) → j < suc n →
    ((j < n) → seats_left n (changed j q seats) + seat_left (seats j) ≡ seats_left n
    seats + seat_left q)
    → (b : Bool) → (n == j) ≡ b → seats_left (suc n) (changed j q seats) + seat_left (seats j)
    ≡ seats_left (suc n) seats + seat_left q
left_by n j q seats h below true e = grind (arith, common_steps, eqb-true, left_outside)
left_by n j q seats h below false e = grind (arith, common_steps, eqb-false)

-- a seat that is changed changes the sum
pub left_changed : (n j : ℕ) (q : Seat) (seats : ℕ → Seat) → j < n →
    seats_left n (changed j q seats) + seat_left (seats j) ≡ seats_left n seats + seat_left q
left_changed zero j q seats h = absurd (omega arith)
left_changed (suc n) j q seats h = left_by n j q seats h (left_changed n j q seats) (n == j) refl

-- what holds below a number and at it
pub below_next : (P : ℕ → Type 0) (k : ℕ) → ((i : ℕ) → i < k → P i) → P k → (i : ℕ) → i < suc k →
    P i
below_next P k below here i h = below_more P k below here i (omega arith)
