-- The moves of the threads. A thread that waits has no move until another has made one.
use Rattle.std.specs.Prelude.{◌≡◌, ℕ, suc, ◌-◌, ◌%◌, ◌<◌, ◌≤◌, Bool, true, false, Option, Some, None, List, [], ◌∷◌, ◌++◌, length, drop}
use Rattle.fq_work.specs.Doing.{Reply, texts, stop, Doing, left, MayMove, does, took, put, emptied, leaves}
use Rattle.fq_run.specs.Doing.{began, closed_start, gave_up, wrote, failed_to_write, heard_stop, found_mark, dropped, drained, joined_dealer, joined_worker, caller_before, caller_after, closes, took_start, found_no_start, put_block, ended_reading, passed_start, closed, dealer_before, dealer_after}
use Rattle.fq_law_progress.specs.Model.{Run, Seat, State, closed_lanes, changed}

pub data Move : Type 0 where
  -- the calling thread, as long as it starts the run
  put_start : Move
  close_start : Move
  give_up : Move
  -- the collector in turn
  write : Move
  fail_to_write : Move
  hear_stop : Move
  find_mark : Move
  -- the collector afterwards, at the lane of one worker
  drop_reply : ℕ → Move
  drop_mark : ℕ → Move
  end_drain : Move
  -- the calling thread at the end
  join_dealer : Move
  join_worker : ℕ → Move
  -- the dealer
  take_start : Move
  find_no_start : Move
  deal : Move
  end_reading : Move
  pass_start : Move
  close_blocks : ℕ → Move
  -- a worker
  take_block : ℕ → Reply → Move
  put_reply : ℕ → Reply → Move
  empty_block : ℕ → Move
  leave : ℕ → Move

-- the reply that comes next in a lane
abbrev pub next_reply : List Reply → Option Reply
next_reply [] = None
next_reply (r ∷ rs) = Some r

-- the mark is what comes next in the lane of the replies
pub record IsAtMark (seat : Seat) : Type 0 where
  pub empty : seat.replies ≡ []
  pub closed : seat.doing ≡ left

-- When a move can be made.
abbrev pub May : Run → State → Move → Type 0
-- All workers have a thread, or some were refused.
May p s put_start = (s.caller ≡ caller_before began) × (p.started ≡ p.workers)
May p s give_up = (s.caller ≡ caller_before gave_up) × (p.started < p.workers)
May p s close_start = s.caller ≡ caller_before closed_start
-- The collector waits for the lane whose turn it is.
May p s write =
    (s.caller ≡ caller_before wrote) × (s.turn < p.workers)
    × (next_reply (s.seats s.turn).replies ≡ Some texts)
May p s fail_to_write =
    (s.caller ≡ caller_before failed_to_write) × (s.turn < p.workers)
    × (next_reply (s.seats s.turn).replies ≡ Some texts)
May p s hear_stop =
    (s.caller ≡ caller_before heard_stop) × (s.turn < p.workers)
    × (next_reply (s.seats s.turn).replies ≡ Some stop)
May p s find_mark =
    (s.caller ≡ caller_before found_mark) × (s.turn < p.workers) × IsAtMark (s.seats s.turn)
-- Afterwards it takes from any lane, until it has the mark of each.
May p s (drop_reply j) =
    (s.caller ≡ caller_before dropped) × (j < p.workers) × (0 < length (s.seats j).replies)
May p s (drop_mark j) =
    (s.caller ≡ caller_before dropped) × (j < p.workers) × ((s.seats j).marked ≡ false)
    × IsAtMark (s.seats j)
May p s end_drain =
    (s.caller ≡ caller_before drained) × ((j : ℕ) → j < p.workers → (s.seats j).marked ≡ true)
-- A thread is joined once it has returned.
May p s join_dealer = (s.caller ≡ caller_before joined_dealer) × (s.dealer ≡ closes p.workers)
May p s (join_worker k) =
    (s.caller ≡ caller_before (joined_worker k)) × (k < p.started) × ((s.seats k).doing ≡ left)
-- The dealer waits for the start lane, and for room in the lane of the worker whose block is next.
May p s take_start = (s.dealer ≡ dealer_before took_start) × (s.start_item ≡ true)
May p s find_no_start =
    (s.dealer ≡ dealer_before found_no_start) × (s.start_item ≡ false) × (s.start_mark ≡ true)
May p s deal =
    (s.dealer ≡ dealer_before put_block) × (s.dealt < p.blocks)
    × (s.deal_turn < p.workers) × ((s.seats s.deal_turn).blocks < p.depth)
May p s end_reading = (s.dealer ≡ dealer_before ended_reading) × (p.blocks ≤ s.dealt)
May p s pass_start = (s.dealer ≡ dealer_before passed_start) × (s.start_mark ≡ true)
May p s (close_blocks k) = (s.dealer ≡ dealer_before (closed k)) × (k < p.workers)
-- A worker waits for a block or the mark, and for room for its reply.
May p s (take_block j reply) =
    (j < p.started) × MayMove (s.seats j).doing (took reply) × (0 < (s.seats j).blocks)
May p s (put_reply j reply) =
    (j < p.started) × MayMove (s.seats j).doing (put reply)
    × (length (s.seats j).replies < p.depth)
May p s (empty_block j) =
    (j < p.started) × MayMove (s.seats j).doing emptied × (0 < (s.seats j).blocks)
May p s (leave j) =
    (j < p.started) × MayMove (s.seats j).doing leaves × ((s.seats j).blocks ≡ 0)
    × (j < closed_lanes s.dealer)

-- the next worker; after the last comes the first
abbrev pub next_turn : Run → ℕ → ℕ
next_turn p turn = suc turn % p.workers

-- A seat after a move.

abbrev pub with_block : Seat → Seat
with_block seat = record seat { blocks = suc seat.blocks }

abbrev pub with_block_taken : Seat → Doing → Seat
with_block_taken seat doing = record seat { blocks = seat.blocks - 1; doing = doing }

abbrev pub with_reply : Seat → Reply → Seat
with_reply seat reply =
    record seat { doing = does (put reply); replies = seat.replies ++ reply ∷ [] }

abbrev pub with_reply_taken : Seat → Seat
with_reply_taken seat = record seat { replies = drop 1 seat.replies }

abbrev pub at_seat : State → ℕ → Seat → State
at_seat s j seat = record s { seats = changed j seat s.seats }

-- What a move leaves.
abbrev pub after : Run → State → Move → State
after p s put_start = record s { caller = caller_after began; start_item = true }
after p s give_up = record s { caller = caller_after gave_up; start_mark = true }
after p s close_start = record s { caller = caller_after closed_start; start_mark = true }
after p s write = record s {
  caller = caller_after wrote;
  written = suc s.written;
  turn = next_turn p s.turn;
  seats = changed s.turn (with_reply_taken (s.seats s.turn)) s.seats;
}
after p s fail_to_write = record s {
  caller = caller_after failed_to_write;
  seats = changed s.turn (with_reply_taken (s.seats s.turn)) s.seats;
}
after p s hear_stop = record s {
  caller = caller_after heard_stop;
  seats = changed s.turn (with_reply_taken (s.seats s.turn)) s.seats;
}
after p s find_mark = record s {
  caller = caller_after found_mark;
  seats = changed s.turn (record (s.seats s.turn) { marked = true }) s.seats;
}
after p s (drop_reply j) =
    at_seat (record s { caller = caller_after dropped }) j (with_reply_taken (s.seats j))
after p s (drop_mark j) =
    at_seat (record s { caller = caller_after dropped }) j (record (s.seats j) { marked = true })
after p s end_drain = record s { caller = caller_after drained }
after p s join_dealer = record s { caller = caller_after joined_dealer }
after p s (join_worker k) = record s { caller = caller_after (joined_worker k) }
after p s take_start = record s { dealer = dealer_after took_start }
after p s find_no_start = record s { dealer = dealer_after found_no_start }
after p s deal = record s {
  dealer = dealer_after put_block;
  dealt = suc s.dealt;
  deal_turn = next_turn p s.deal_turn;
  seats = changed s.deal_turn (with_block (s.seats s.deal_turn)) s.seats;
}
after p s end_reading = record s { dealer = dealer_after ended_reading }
after p s pass_start = record s { dealer = dealer_after passed_start }
after p s (close_blocks k) = record s { dealer = dealer_after (closed k) }
after p s (take_block j reply) = at_seat s j (with_block_taken (s.seats j) (does (took reply)))
after p s (put_reply j reply) = at_seat s j (with_reply (s.seats j) reply)
after p s (empty_block j) = at_seat s j (with_block_taken (s.seats j) (does emptied))
after p s (leave j) = at_seat s j (record (s.seats j) { doing = does leaves })

-- Moves that can be made one after the other, and what they leave.

abbrev pub AreMoves : Run → State → List Move → Type 0
AreMoves p s [] = Unit {0}
AreMoves p s (m ∷ ms) = May p s m × AreMoves p (after p s m) ms

abbrev pub after_all : Run → State → List Move → State
after_all p s [] = s
after_all p s (m ∷ ms) = after_all p (after p s m) ms

-- a write that fails, or a block to which the worker answers by a stop
abbrev pub is_failure : Move → Bool
is_failure fail_to_write = true
is_failure (take_block j stop) = true
is_failure m = false
