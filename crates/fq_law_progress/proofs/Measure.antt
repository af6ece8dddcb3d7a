-- Each move leaves less to be done.
use Rattle.std.proofs.Common.{◌≡◌, ℕ, zero, suc, ◌+◌, ◌*◌, ◌≤◌, List, [], ◌∷◌, length, refl, arith}
use Rattle.fq_law_progress.specs.Model.{Run, IsRun, State, start}
use Rattle.fq_law_progress.specs.Moves.{Move, after, AreMoves, after_all}
use Rattle.fq_law_progress.specs.Progress.{seats_left, moves_left, MovesLeaveLess, RunsAreShort}
use Rattle.fq_law_progress.proofs.Seats.{left_changed}
use Rattle.std.proofs.lemmas.Grind.{common_steps}

-- every move, in any state, leaves less to be done
pub leaves_less : MovesLeaveLess
leaves_less p s m run may =
    grind (
      arith,
      common_steps,
      left_changed,
    )

-- Runs.

runs_down : (p : Run) (s : State) (moves : List Move) → IsRun p → AreMoves p s moves →
    length moves + moves_left p (after_all p s moves) ≤ moves_left p s
runs_down p s [] run are = omega arith
runs_down p s (m ∷ ms) run are =
    omega (arith, runs_down p (after p s m) ms run are.1, leaves_less p s m run are.0)

new_seats : (n : ℕ) → seats_left n start.seats ≡ 2 * n
new_seats zero = refl
new_seats (suc n) = omega (arith, new_seats n)

-- a run has at most 4 moves a block, 3 a worker, 1 a started thread of these, and 8 more
pub short : RunsAreShort
short p moves run are = omega (arith, runs_down p start moves run are, new_seats p.workers)
