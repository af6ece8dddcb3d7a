-- Devices: as contracts see each of them, as the ones in memory are, and as those of the standard
-- library are.
use Rattle.std.specs.Prelude.{ℕ, List, Bool, Option}

-- a feed: whether its bytes are known to the proof, those still to come, and how many read calls
-- have failed
pub record FeedState : Type 0 where
  pub tells : Bool
  pub to_come : List ℕ
  pub failures : ℕ

-- an outlet: the number of the file that it writes, if its bytes are known to the proof, those
-- taken, oldest first, how many writes and flushes have failed, and whether the last of them was a
-- flush that succeeded
pub record OutletState : Type 0 where
  pub file : Option ℕ
  pub taken : List ℕ
  pub failures : ℕ
  pub is_flushed : Bool

-- a feed in memory: the bytes still to come, the most that a read call moves, the number of read
-- calls up to and including the one that fails (0: none does), and the failures so far
pub record Coming : Type 0 where
  pub bytes : List ℕ
  pub cut : ℕ
  pub fails_in : ℕ
  pub failures : ℕ

-- an outlet in memory: the bytes taken, how many it has memory for, the most that a write takes,
-- the number of writes up to and including the one that fails (0: none does), whether flushes fail,
-- the failures so far, and whether it is flushed
pub record Taken : Type 0 where
  pub bytes : List ℕ
  pub room : ℕ
  pub cut : ℕ
  pub fails_in : ℕ
  pub flush_fails : Bool
  pub failures : ℕ
  pub is_flushed : Bool

-- a reader of the standard library as a feed, and its failures so far
pub record Adapted (T : Type 0) : Type 0 where
  pub inner : T
  pub failures : ℕ

-- a writer of the standard library as an outlet, its failures so far, and whether it is flushed
pub record AdaptedWriter (T : Type 0) : Type 0 where
  pub inner : T
  pub failures : ℕ
  pub is_flushed : Bool
