-- The lanes of a run when they are made, one set per worker.
use Rattle.std.specs.Prelude.{◌≡◌, ◌≤◌, ℕ, Bool, false, [], vec_len, vec_capacity}
use Rattle.fq_lane.specs.History.{History, Name}
use Rattle.fq_block.specs.Blocks.{Numbered}
use Rattle.fq_report_pairs.specs.Results.{none_counted}
use Rattle.fq_work.specs.declared.ends.WorkEnds.{WorkEnds}
use Rattle.fq_work.specs.declared.reply.Reply.{Reply}
use Rattle.fq_run.specs.Each.{Each3}
use Rattle.fq_run.specs.declared.lanes.seats.Seats.{Seats}

-- a new lane
abbrev pub fresh : {T : Type 0} → Name → History T
fresh n = record { name = n; items = []; marked = false }

-- for one worker: the lane of blocks, the lane of replies, and the worker's ends of both, all new,
-- and its tally, if one is asked for
pub record Laid (tallied : Bool) (to : History Numbered) (ends : WorkEnds)
    (replies : History Reply) : Type 0 where
  pub to_is : to ≡ fresh to.name
  pub replies_are : replies ≡ fresh replies.name
  pub rx : ends.rx ≡ fresh to.name
  pub tx : ends.tx ≡ fresh replies.name
  pub tally : ends.tally ≡ none_counted tallied

abbrev pub IsLaid : Bool → Seats → Type 0
IsLaid tallied seats = Each3 (Laid tallied) seats.to.items seats.ends.items seats.replies.items

-- there is this number of each
abbrev pub AreFor : ℕ → Seats → Type 0
AreFor workers seats =
    (vec_len seats.to ≡ workers) × (vec_len seats.ends ≡ workers)
    × (vec_len seats.replies ≡ workers)

-- there is room for this number of each
abbrev pub HaveRoom : ℕ → Seats → Type 0
HaveRoom workers seats =
    (workers ≤ vec_capacity seats.to) × (workers ≤ vec_capacity seats.ends)
    × (workers ≤ vec_capacity seats.replies)

-- the room is unchanged
abbrev pub KeepRoom : Seats → Seats → Type 0
KeepRoom old new =
    (vec_capacity new.to ≡ vec_capacity old.to)
    × (vec_capacity new.ends ≡ vec_capacity old.ends)
    × (vec_capacity new.replies ≡ vec_capacity old.replies)
