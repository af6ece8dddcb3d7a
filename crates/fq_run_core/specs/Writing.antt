-- How the blocks of a run are read and written.
use Rattle.std.specs.Prelude.{◌≡◌, ◌≢◌, Bool, true, false, Option, Some, None, Result, IfOk, List, [], ◌++◌}
use Rattle.std.specs.Option.{option_or}
use Rattle.fq_text.specs.declared.memory.MemoryRefused.{MemoryRefused}
use Rattle.fq_pair.specs.declared.out.Out.{Out}
use Rattle.fq_pair.specs.declared.fault.InputFault.{InputFault}
use Rattle.fq_pair.specs.Mates.{Mates, MateNames}
use Rattle.fq_pair.specs.Outputs.{texts_of, text_of, counts_of}
use Rattle.fq_report_pairs.specs.Results.{tally_if}
use Rattle.fq_run_core.specs.declared.halt.Halt.{Halt}
use Rattle.fq_run_core.specs.declared.occurred.Occurred.{Occurred}
use Rattle.fq_run_core.specs.declared.total.Total.{Total}
use Rattle.fq_run_core.specs.declared.written.Written.{Written}
use Rattle.fq_run_core.specs.declared.reading_end.ReadingEnd.{ReadingEnd}
use Rattle.fq_run_core.specs.declared.reading_end.ReadingEnd.TheVariants as reading
use Rattle.fq_run_core.specs.Choices.{Choices}
use Rattle.fq_text.specs.Devices.{FeedState}
use Rattle.fq_run_core.specs.Devices.{OutletStates, AreFlushed, OutletsTook}
use Rattle.fq_run_core.specs.Fates.{Fate, FlushFailed, failed_outlet, block_begun, part_begun, IsCutShort}
use Rattle.fq_pair.specs.Forms.{Form}
use Rattle.fq_pair.specs.Walks.{SourceState}
use Rattle.fq_run_core.specs.PairsRead.{Reads, fresh_source, feed_in}
use Rattle.fq_run_core.specs.Totals.{no_total}

-- an outlet failed at its flush
abbrev pub is_flush : Fate → Bool
is_flush (FlushFailed out) = true
is_flush _ = false

-- the witness of a reading that stopped because memory was refused
abbrev pub refused_in : Option ReadingEnd → Option MemoryRefused
refused_in (Some (reading.Memory refused)) = Some refused
refused_in _ = None

-- no worker stopped early
abbrev pub no_halt : Halt
no_halt = record { gate = false; memory = None }

-- The counts of a total are those of these pairs. If no worker stopped, no write failed and memory
-- was not refused, so is its tally, if one is asked for.
pub record IsCounted (c : Choices) (whole : List Mates) (halt : Halt) (why : Option ReadingEnd)
    (broken : Option Out) (total : Total) : Type 0 where
  pub counts : total.counts ≡ counts_of c.steps whole
  pub tally : halt ≡ no_halt → broken ≡ None → refused_in why ≡ None →
      total.tally ≡ tally_if c.tallied c.steps whole

-- Pairs were read until reading stopped, and written until a write failed or a worker stopped; the
-- pairs after that were missed.
pub record Passes (c : Choices) (old new : SourceState) (before after : OutletStates)
    (counted : Total) (halt : Halt) (why : Option ReadingEnd) (broken : Option Out) : Type 0 where
  pub whole : List Mates
  pub fate : Fate
  pub missed : List Mates
  pub counts : IsCounted c whole halt why broken counted
  pub reads : Reads old new ((whole ++ block_begun fate) ++ missed) why
  pub took : OutletsTook before after
      (λ out. text_of out (texts_of c.steps whole) ++ part_begun c.steps fate out)
      (failed_outlet fate)
  pub failed : broken ≡ failed_outlet fate
  pub cut_short : IsCutShort c.block_pairs c.steps fate
  pub over : why ≡ None → broken ≢ None
  pub unflushed : is_flush fate ≡ false
  pub missed_none : halt ≡ no_halt → broken ≡ None → missed ≡ []

-- nothing was read or written, for this reason if there is one
abbrev pub nothing_written : Option ReadingEnd → Written
nothing_written why = record { total = no_total false; why = why; failed = None }

-- `Passes` for a run on one thread, in which no worker can stop
abbrev pub HasWritten :
    Choices → SourceState → SourceState → OutletStates → OutletStates → Written → Type 0
HasWritten c old new before after written =
    Passes c old new before after written.total no_halt written.why written.failed

-- `Passes` for a source that is made from these feeds, and the names that it has at the end, unless
-- memory for them was refused
pub record Runs {E : Type 0} (form : Form) (c : Choices) (f r f' r' : FeedState)
    (before after : OutletStates) (counted : Total) (halt : Halt) (why : Option ReadingEnd)
    (broken : Option Out) (names : Result (Option MateNames) E) : Type 0 where
  pub new : SourceState
  pub passes : Passes c (fresh_source form c f r) new before after counted halt why broken
  pub forward : f' ≡ feed_in new.forward
  pub reverse : r' ≡ feed_in new.reverse
  pub held : IfOk names (λ held. held ≡ new.names)

-- if no write had failed, each outlet was flushed, up to the first whose flush failed, and all of
-- them if none failed
abbrev pub FlushesAfter : Option Out → OutletStates → OutletStates → Option Out → Type 0
FlushesAfter (Some failed) before after result = (result ≡ Some failed) × (after ≡ before)
FlushesAfter None before after result =
    OutletsTook before after (λ out. []) result × (result ≡ None → AreFlushed after)

-- what an outcome is made of: how the workers, the reading and the writing ended
abbrev pub fault_in : Option ReadingEnd → Option InputFault
fault_in (Some (reading.Fault fault)) = Some fault
fault_in _ = None

abbrev pub occurred : Halt → Option ReadingEnd → Option Out → Occurred
occurred halt why failed = record {
  gate = halt.gate;
  memory = option_or halt.memory (refused_in why);
  failed = failed;
  fault = fault_in why;
}
