-- What is proved of all runs: none gets stuck, and each ends.
use Rattle.std.specs.Prelude.{◌≡◌, ◌⊎◌, ℕ, zero, suc, ◌+◌, ◌-◌, ◌*◌, ◌<◌, ◌≤◌, Bool, true, false, List, [], ◌∷◌, length}
use Rattle.fq_work.specs.Doing.{Doing, takes, answers, empties, left}
use Rattle.fq_run.specs.Doing.{Dealer, awaits_start, deals, passes_start, closes, Caller, begins, closes_start, writes, drains, awaits_dealer, awaits_workers}
use Rattle.fq_law_progress.specs.Model.{Run, IsRun, Seat, State, start}
use Rattle.fq_law_progress.specs.Moves.{Move, May, after, AreMoves, after_all, is_failure}

-- All threads that were started have returned, and the calling thread has joined them.
pub record HasEnded (p : Run) (s : State) : Type 0 where
  pub caller : s.caller ≡ awaits_workers p.started
  pub dealer : s.dealer ≡ closes p.workers
  pub workers : (j : ℕ) → j < p.started → (s.seats j).doing ≡ left

-- some thread has a move that is no failure
abbrev pub CanGoOn : Run → State → Type 0
CanGoOn p s = (m : Move) × May p s m × (is_failure m ≡ false)

-- Every state that a run can reach is its end, or some thread has a move.
abbrev pub NeverStuck : Type 0
NeverStuck = (p : Run) (moves : List Move) → IsRun p → AreMoves p start moves →
    HasEnded p (after_all p start moves) ⊎ CanGoOn p (after_all p start moves)

-- How much is left to be done: at most this many moves.

-- a block that the worker has in hand must be answered, and the answer taken
abbrev pub doing_left : Doing → ℕ
doing_left takes = 1
doing_left (answers r) = 3
doing_left empties = 1
doing_left left = 0

abbrev pub mark_left : Bool → ℕ
mark_left false = 1
mark_left true = 0

abbrev pub seat_left : Seat → ℕ
seat_left q = 3 * q.blocks + doing_left q.doing + length q.replies + mark_left q.marked

abbrev pub seats_left : ℕ → (ℕ → Seat) → ℕ
seats_left zero seats = 0
seats_left (suc n) seats = seats_left n seats + seat_left (seats n)

abbrev pub dealer_left : Run → Dealer → ℕ
dealer_left p awaits_start = p.workers + 3
dealer_left p deals = p.workers + 2
dealer_left p passes_start = p.workers + 1
dealer_left p (closes k) = p.workers - k

abbrev pub caller_left : Run → Caller → ℕ
caller_left p begins = p.started + 5
caller_left p closes_start = p.started + 4
caller_left p writes = p.started + 3
caller_left p drains = p.started + 2
caller_left p awaits_dealer = p.started + 1
caller_left p (awaits_workers k) = p.started - k

abbrev pub moves_left : Run → State → ℕ
moves_left p s =
    4 * (p.blocks - s.dealt) + seats_left p.workers s.seats
    + dealer_left p s.dealer + caller_left p s.caller

-- Every move, in any state, leaves less to be done.
abbrev pub MovesLeaveLess : Type 0
MovesLeaveLess = (p : Run) (s : State) (m : Move) → IsRun p → May p s m →
    moves_left p (after p s m) < moves_left p s

-- So no run has more moves than these.
abbrev pub RunsAreShort : Type 0
RunsAreShort = (p : Run) (moves : List Move) → IsRun p → AreMoves p start moves →
    length moves ≤ 4 * p.blocks + 3 * p.workers + p.started + 8

-- Without a failure every block is written.

abbrev pub HaveNoFailure : List Move → Type 0
HaveNoFailure [] = Unit {0}
HaveNoFailure (m ∷ ms) = (is_failure m ≡ false) × HaveNoFailure ms

abbrev pub AllIsWritten : Type 0
AllIsWritten = (p : Run) (moves : List Move) → IsRun p → p.started ≡ p.workers →
    AreMoves p start moves → HaveNoFailure moves → HasEnded p (after_all p start moves) →
    (after_all p start moves).written ≡ p.blocks
