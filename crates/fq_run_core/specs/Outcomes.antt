-- Which outcome a run has.
use Rattle.std.specs.Prelude.{ℕ, Bool, true, false, ◌||◌, Option, Some, None, is_some, if◌then◌else◌}
use Rattle.fq_text.specs.declared.fault.TextFault.{TextFault}
use Rattle.fq_text.specs.declared.fault.TextFault.TheVariants as text
use Rattle.fq_pair.specs.declared.out.Out.{Out}
use Rattle.fq_pair.specs.declared.side.Side.{Side}
use Rattle.fq_pair.specs.declared.fault.InputFault.{InputFault}
use Rattle.fq_pair.specs.declared.fault.InputFault.TheVariants.{Text, MateMissing, NamesDiffer}
use Rattle.fq_run_core.specs.declared.outcome.Outcome.{Outcome}
use Rattle.fq_run_core.specs.declared.outcome.Outcome.TheVariants.{Spawn, Lane, Gate, Memory, Write, Read, Endless, Input, Finished}
use Rattle.fq_run_core.specs.declared.occurred.Occurred.{Occurred}

-- the place of an outcome in the order of precedence
abbrev pub rank : Outcome → ℕ
rank Spawn = 1
rank Lane = 2
rank Gate = 3
rank Memory = 4
rank (Write out) = 5
rank (Read side) = 6
rank (Endless side) = 7
rank (Input fault) = 8
rank Finished = 9

-- the outcome that a fault in the text of a side leads to
abbrev pub text_outcome : Side → TextFault → Outcome
text_outcome side text.Read = Read side
text_outcome side text.Endless = Endless side
text_outcome side text.OutOfMemory = Memory
text_outcome side fault = Input (Text side fault)

-- the outcome of a run in which nothing occurred but the end of the input, or this fault in it
abbrev pub end_of : Option InputFault → Outcome
end_of None = Finished
end_of (Some (Text side fault)) = text_outcome side fault
end_of (Some (MateMissing side n)) = Input (MateMissing side n)
end_of (Some (NamesDiffer n)) = Input (NamesDiffer n)

-- a pair has names that don't match
abbrev pub is_unmatched : Outcome → Bool
is_unmatched (Input (NamesDiffer n)) = true
is_unmatched _ = false

-- memory was refused
abbrev pub is_memory : Outcome → Bool
is_memory Memory = true
is_memory _ = false

-- the outcome for the outlet that failed, or another outcome if none did
abbrev pub or_write : Option Out → Outcome → Outcome
or_write (Some out) other = Write out
or_write None other = other

-- what occurred; of several, the first in the order of precedence
abbrev pub outcome_of : Occurred → Outcome
outcome_of o =
    if o.gate then Gate
    else (if is_some o.memory || is_memory (end_of o.fault) then Memory
    else or_write o.failed (end_of o.fault))
