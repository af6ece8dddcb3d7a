-- How many of the first blocks go to each worker.
use Rattle.std.proofs.Common.{◌≡◌, ℕ, zero, suc, ◌+◌, ◌%◌, ◌<◌, ◌≤◌, Bool, true, false, ◌==◌, arith}
use Rattle.std.proofs.Math.Decide.{le_ind}
use Rattle.std.proofs.lemmas.Bool.Decides.{nat_tests}
use Rattle.std.proofs.lemmas.Grind.{common_steps}

-- the worker of a block
abbrev pub turn_at : ℕ → ℕ → ℕ
turn_at workers zero = 0
turn_at workers (suc n) = suc (turn_at workers n) % workers

abbrev bit : Bool → ℕ
bit true = 1
bit false = 0

-- how many of the first blocks go to this worker
abbrev pub share : ℕ → ℕ → ℕ → ℕ
share workers zero j = 0
share workers (suc n) j = share workers n j + bit (j == turn_at workers n)

-- each block goes to one of the workers
pub turn_below : (workers n : ℕ) → 1 ≤ workers → turn_at workers n < workers
turn_below workers n some = grind (arith, common_steps)

bit_same : (j : ℕ) → bit (j == j) ≡ 1
bit_same j = grind (arith, nat_tests)

-- the worker of the next block has one more in its share
pub share_here : (workers n : ℕ) → share workers (suc n) (turn_at workers n) ≡ suc
    (share workers n (turn_at workers n))
share_here workers n = omega (arith, bit_same (turn_at workers n))

grows : (workers m n j : ℕ) → m ≤ n → share workers m j ≤ share workers n j
grows workers m n j h = le_ind (λ k. share workers m j ≤ share workers k j) (omega arith)
    (λ k within below. omega (arith, below)) n h

-- the worker whose block is next has had fewer blocks than after any more
pub share_less : (workers m n : ℕ) → m < n →
    share workers m (turn_at workers m) < share workers n (turn_at workers m)
share_less workers m n h =
    omega (arith, share_here workers m, grows workers (suc m) n (turn_at workers m) h)
