-- What the calling thread and the dealer do, one move after the other. The contracts of their code
-- and the model of a run's threads share these words.
use Rattle.std.specs.Prelude.{ℕ, suc}

-- what the calling thread does next
pub data Caller : Type 0 where
  -- puts the start item
  begins : Caller
  -- puts the mark of the start lane
  closes_start : Caller
  -- takes the reply in turn, and writes it
  writes : Caller
  -- takes and drops what comes from any lane
  drains : Caller
  -- joins the dealer
  awaits_dealer : Caller
  -- joins a worker. It has joined this many
  awaits_workers : ℕ → Caller

-- a move of it: one wait, which is over, or a step without one
pub data CallerMove : Type 0 where
  began : CallerMove
  closed_start : CallerMove
  -- it closed the start lane without an item, because a thread was refused
  gave_up : CallerMove
  -- it got the reply in turn, and wrote it, or failed to
  wrote : CallerMove
  failed_to_write : CallerMove
  -- it got a stop in its place, or the mark
  heard_stop : CallerMove
  found_mark : CallerMove
  -- it got a reply or a mark from any lane
  dropped : CallerMove
  -- it had the marks of all lanes
  drained : CallerMove
  joined_dealer : CallerMove
  -- it joined the worker of this number
  joined_worker : ℕ → CallerMove

-- what it must be doing to make a move
abbrev pub caller_before : CallerMove → Caller
caller_before began = begins
caller_before closed_start = closes_start
caller_before gave_up = begins
caller_before wrote = writes
caller_before failed_to_write = writes
caller_before heard_stop = writes
caller_before found_mark = writes
caller_before dropped = drains
caller_before drained = drains
caller_before joined_dealer = awaits_dealer
caller_before (joined_worker k) = awaits_workers k

-- what it does after a move
abbrev pub caller_after : CallerMove → Caller
caller_after began = closes_start
caller_after closed_start = writes
caller_after gave_up = awaits_dealer
caller_after wrote = writes
caller_after failed_to_write = drains
caller_after heard_stop = drains
caller_after found_mark = drains
caller_after dropped = drains
caller_after drained = awaits_dealer
caller_after joined_dealer = awaits_workers 0
caller_after (joined_worker k) = awaits_workers (suc k)

-- what the dealer does next
pub data Dealer : Type 0 where
  -- takes the start item, or the mark of the start lane
  awaits_start : Dealer
  -- puts a block
  deals : Dealer
  -- takes the mark of the start lane
  passes_start : Dealer
  -- puts the mark of a lane of blocks. It has put this many
  closes : ℕ → Dealer

pub data DealerMove : Type 0 where
  took_start : DealerMove
  -- it got the mark of the start lane in place of the item
  found_no_start : DealerMove
  put_block : DealerMove
  -- it has read all that it reads
  ended_reading : DealerMove
  passed_start : DealerMove
  -- it closed the lane of this number
  closed : ℕ → DealerMove

abbrev pub dealer_before : DealerMove → Dealer
dealer_before took_start = awaits_start
dealer_before found_no_start = awaits_start
dealer_before put_block = deals
dealer_before ended_reading = deals
dealer_before passed_start = passes_start
dealer_before (closed k) = closes k

abbrev pub dealer_after : DealerMove → Dealer
dealer_after took_start = deals
dealer_after found_no_start = closes 0
dealer_after put_block = deals
dealer_after ended_reading = passes_start
dealer_after passed_start = closes 0
dealer_after (closed k) = closes (suc k)
