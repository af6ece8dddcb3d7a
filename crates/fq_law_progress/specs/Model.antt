-- A run on several threads: what each thread does next, and what lies in the lanes between them.
use Rattle.std.specs.Prelude.{ℕ, ◌≤◌, Bool, false, List, [], ◌==◌, if◌then◌else◌}
use Rattle.fq_work.specs.Doing.{Reply, Doing, takes}
use Rattle.fq_run.specs.Doing.{Caller, begins, Dealer, awaits_start, deals, passes_start, closes}

-- What a run is given.
pub record Run : Type 0 where
  -- how many workers have lanes
  pub workers : ℕ
  -- how many of them, the first ones, the system gave a thread
  pub started : ℕ
  -- how many items a lane of blocks or of replies has room for
  pub depth : ℕ
  -- how many blocks are dealt before reading ends: at the end of the input, at a fault, or because
  -- memory is refused
  pub blocks : ℕ

pub record IsRun (p : Run) : Type 0 where
  pub some_workers : 1 ≤ p.workers
  pub few_threads : p.started ≤ p.workers
  pub some_room : 1 ≤ p.depth

-- a worker, with the lane of its blocks and the lane of its replies
pub record Seat : Type 0 where
  pub blocks : ℕ
  pub doing : Doing
  pub replies : List Reply
  -- whether the collector has taken the mark of the replies
  pub marked : Bool

-- a run at one moment
pub record State : Type 0 where
  -- what the calling thread and the dealer do next
  pub caller : Caller
  pub dealer : Dealer
  -- whether the start item and the mark of the start lane were put
  pub start_item : Bool
  pub start_mark : Bool
  -- how many blocks were dealt, and to which worker the next one goes
  pub dealt : ℕ
  pub deal_turn : ℕ
  -- how many blocks were written, and whose reply is next
  pub written : ℕ
  pub turn : ℕ
  -- the worker of each number
  pub seats : ℕ → Seat

-- the lanes of the first workers, this many, have their mark
abbrev pub closed_lanes : Dealer → ℕ
closed_lanes awaits_start = 0
closed_lanes deals = 0
closed_lanes passes_start = 0
closed_lanes (closes k) = k

-- the same seats, but for the one of this number
abbrev pub changed : ℕ → Seat → (ℕ → Seat) → ℕ → Seat
changed j seat seats i = if i == j then seat else seats i

-- the threads are started, and wait
abbrev pub new_seat : Seat
new_seat = record { blocks = 0; doing = takes; replies = []; marked = false }

abbrev pub start : State
start = record {
  caller = begins;
  dealer = awaits_start;
  start_item = false;
  start_mark = false;
  dealt = 0;
  deal_turn = 0;
  written = 0;
  turn = 0;
  seats = λ i. new_seat;
}
