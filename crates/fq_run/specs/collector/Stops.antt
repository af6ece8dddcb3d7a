-- Which stops came, and how a collector notes them.
use Rattle.std.specs.Prelude.{◌≡◌, ℕ, Bool, true, false, Option, Some, None, List}
use Rattle.std.specs.List.{list_any}
use Rattle.fq_lane.specs.History.{History}
use Rattle.fq_lane.specs.declared.taken.Taken.{Taken}
use Rattle.fq_lane.specs.declared.taken.Taken.TheVariants.{Item}
use Rattle.fq_text.specs.declared.memory.MemoryRefused.{MemoryRefused}
use Rattle.fq_work.specs.declared.reply.Cause.{Cause}
use Rattle.fq_work.specs.declared.reply.Cause.TheVariants.{Gate, Memory}
use Rattle.fq_work.specs.declared.reply.Reply.{Reply}
use Rattle.fq_work.specs.declared.reply.Reply.TheVariants.{Stop}
use Rattle.fq_run.specs.collector.Collecting.{Collects}
use Rattle.fq_run_core.specs.Devices.{OutletStates}
use Rattle.fq_run.specs.lanes.Items.{names_of}
use Rattle.fq_run.specs.declared.collector.Collector.{Collector}
use Rattle.fq_run_core.specs.declared.halt.Halt.{Halt}

-- a witness that memory was refused; all are equal
abbrev pub witness : MemoryRefused
witness = record { made_of_an_error = tt }

-- one more worker stopped
abbrev pub with_stop : Cause → Halt → Halt
with_stop Gate halt = record { gate = true; memory = halt.memory }
with_stop (Memory refused) halt = record { gate = halt.gate; memory = Some refused }

-- what a take adds to the stops
abbrev pub heard_at : Taken Reply → Halt → Halt
heard_at (Item (Stop why)) halt = with_stop why halt
heard_at _ halt = halt

-- a Stop for this cause
abbrev pub is_stop : Cause → Reply → Bool
is_stop Gate (Stop Gate) = true
is_stop (Memory one) (Stop (Memory other)) = true
is_stop why reply = false

-- such a Stop came through one of these lanes
abbrev pub has_come : Cause → List (History Reply) → Bool
has_come why ls = list_any (λ (l : History Reply). list_any (is_stop why) l.items) ls

-- a witness, if there is one
abbrev pub refused_if : Bool → Option MemoryRefused
refused_if true = Some witness
refused_if false = None

abbrev pub stops_of : List (History Reply) → Halt
stops_of ls =
    record { gate = has_come Gate ls; memory = refused_if (has_come (Memory witness) ls) }

-- exactly the stops that came are noted
abbrev pub HearsAll : Collector → Type 0
HearsAll k = k.halt ≡ stops_of k.replies.items

-- More is taken from the lanes, and nothing more is written.
pub record Drains (old new : Collector) : Type 0 where
  pub phase : new.phase ≡ old.phase
  pub names : names_of new.replies.items ≡ names_of old.replies.items
  pub collects : (tallied : Bool) (w : ℕ) (before now : OutletStates) →
      Collects tallied w before now old → Collects tallied w before now new
  pub hears : HearsAll old → HearsAll new
