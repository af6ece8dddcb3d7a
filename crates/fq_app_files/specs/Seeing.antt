-- What can be said of the outcome of a run.
use Rattle.std.specs.Prelude.{◌≡◌, ◌≢◌, ℕ, Bool, IsSome, IsTrue, Option, Some, None, Ok, List, unwrap_or}
use Rattle.fq_text.specs.Devices.{FeedState, OutletState}
use Rattle.fq_text.specs.declared.fault.TextFault.{TextFault}
use Rattle.fq_text.specs.Looks.{look_of}
use Rattle.fq_files.specs.Holding.{Holding}
use Rattle.fq_files.specs.States.{Errors, MaySay, TellsWhy}
use Rattle.fq_app_words.specs.Requests.{Asking, InputNames, input_name, output_name}
use Rattle.fq_run_core.specs.Devices.{OutletStates, outlet_at}
use Rattle.fq_run_core.specs.Endings.{failures_in}
use Rattle.fq_text.specs.declared.seen.Look.TheVariants.{Unknown}
use Rattle.fq_text.specs.declared.seen.Seen.{Seen}
use Rattle.fq_text.specs.declared.seen.SystemError.{SystemError}
use Rattle.fq_pair.specs.declared.out.Out.{Out}
use Rattle.fq_pair.specs.declared.out.Out.TheVariants.{ForwardPaired, ForwardUnpaired, ReversePaired, ReverseUnpaired, Log}
use Rattle.fq_pair.specs.declared.side.Side.{Side}
use Rattle.fq_pair.specs.declared.side.Side.TheVariants.{Forward, Reverse}
use Rattle.fq_pair.specs.declared.fault.InputFault.TheVariants.{Text, NamesDiffer}
use Rattle.fq_pair.specs.Mates.{MateNames}
use Rattle.fq_pair.specs.Forms.{names_of_pair}
use Rattle.fq_run_core.specs.Choices.{Choices}
use Rattle.fq_app_files.specs.Judging.{settings_of}
use Rattle.fq_run_core.specs.declared.outcome.Outcome.{Outcome}
use Rattle.fq_run_core.specs.declared.outcome.Outcome.TheVariants.{Write, Read, Input}
use Rattle.fq_run_core.specs.declared.outlets.Outlets.{Outlets}
use Rattle.fq_app_files.specs.Faults.{settled}
use Rattle.fq_app_files.specs.declared.feeds.InputsSeen.{InputsSeen}
use Rattle.fq_app_files.specs.declared.reporting.Reported.{Reported}
use Rattle.fq_app_files.specs.declared.reporting.Reported.TheVariants.{Failed}
use Rattle.fq_app_files.specs.declared.seeing.EndingSeen.{EndingSeen}

-- what the input of a side can say
abbrev pub input_seen : InputsSeen → Side → Seen
input_seen inputs Forward = inputs.forward
input_seen inputs Reverse = inputs.reverse

-- why an output failed, if it did
abbrev pub error_of : Outlets (Option SystemError) → Out → Option SystemError
error_of outlets ForwardPaired = outlets.forward_paired
error_of outlets ForwardUnpaired = outlets.forward_unpaired
error_of outlets ReversePaired = outlets.reverse_paired
error_of outlets ReverseUnpaired = outlets.reverse_unpaired
error_of outlets Log = unwrap_or outlets.log None

-- what an input is said to look like is what its first bytes are, if its feed came back
abbrev pub LookAsTheyAre : InputNames → Holding → (Side → Option FeedState) → InputsSeen → Type 0
LookAsTheyAre names files left said = (side : Side) (bytes : List ℕ) → IsSome (left side) →
    files (input_name names side) ≡ Some bytes → (input_seen said side).look ≡ look_of bytes

-- an error is told of each input that has failed, and of no other
abbrev pub InputsTellWhy : (Side → Option FeedState) → InputsSeen → Type 0
InputsTellWhy left said = (side : Side) →
    TellsWhy (failures_in (left side)) (input_seen said side).error

-- and of each output
abbrev pub OutputsTellWhy : Asking → OutletStates → Outlets (Option SystemError) → Type 0
OutputsTellWhy a outlets errors = (out : Out) (name : List ℕ) (outlet : OutletState) →
    output_name a out ≡ Some name → outlet_at out outlets ≡ Some outlet →
    TellsWhy outlet.failures (error_of errors out)

-- if names that differ ended the run, these are the names of the pair with that number
abbrev pub AreNamesOfPair : Asking → Holding → Outcome → Option MateNames → Type 0
AreNamesOfPair f files outcome names =
    (k : ℕ) (these : MateNames) (c : Choices) (forward reverse : List ℕ) →
    outcome ≡ Input (NamesDiffer k) → names ≡ Some these → settings_of f ≡ Ok c →
    files f.inputs.forward ≡ Some forward → files f.inputs.reverse ≡ Some reverse →
    names_of_pair k f.inputs.form c.encoding forward reverse ≡ Some these

-- what is said of an input whose text has a fault: it looks like its first bytes, and no error is
-- told of it; and names that are told are those that differ
pub record IsSaid (looks : Bool) (f : Asking) (files : Holding) (outcome : Outcome)
    (seen : EndingSeen) : Type 0 where
  pub look : IsTrue looks → (side : Side) (fault : TextFault) (bytes : List ℕ) →
      outcome ≡ Input (Text side fault) → files (input_name f.inputs side) ≡ Some bytes →
      seen.look ≡ look_of bytes
  pub no_error : (side : Side) (fault : TextFault) → outcome ≡ Input (Text side fault) →
      seen.error ≡ None
  pub named : AreNamesOfPair f files outcome seen.unmatched

-- the file that an outcome names: the output that was not written, or the input that could not be
-- read or has a fault
abbrev pub file_of : Asking → Outcome → Option (List ℕ)
file_of a (Write out) = output_name a out
file_of a (Read side) = Some (input_name a.inputs side)
file_of a (Input (Text side fault)) = Some (input_name a.inputs side)
file_of a _ = None

-- An error is told only of the file that the outcome names, and a device of its name may say it.
-- If the outcome is that a device has failed, one is told.
pub record IsItsError (a : Asking) (may_say : Errors)
    (outcome : Outcome) (seen : EndingSeen) : Type 0 where
  pub may : MaySay may_say (file_of a (settled outcome)) seen.error
  pub write : (out : Out) → outcome ≡ Write out → IsSome seen.error
  pub read : (side : Side) → outcome ≡ Read side → IsSome seen.error

-- an error is told of a report that could not be written, and of no other; a device of its name may
-- say it
pub record IsReportError (a : Asking) (may_say : Errors)
    (reported : Reported) (told : Option SystemError) : Type 0 where
  pub may : MaySay may_say a.report told
  pub some : reported ≡ Failed → IsSome told
  pub none : reported ≢ Failed → told ≡ None

-- so it is with each input
abbrev pub InputsMaySay : InputNames → Errors → InputsSeen → Type 0
InputsMaySay names may_say said = (side : Side) →
    MaySay may_say (Some (input_name names side)) (input_seen said side).error

-- and with each output
abbrev pub OutputsMaySay : Asking → Errors → Outlets (Option SystemError) → Type 0
OutputsMaySay a may_say errors = (out : Out) →
    MaySay may_say (output_name a out) (error_of errors out)

abbrev pub nothing_seen : Seen
nothing_seen = record { error = None; look = Unknown }

-- what a device can say, and no names
abbrev pub device_seen : Seen → EndingSeen
device_seen seen = record { error = seen.error; look = seen.look; unmatched = None }

-- what the device can say that the outcome names: the outlet that failed, or the input that could
-- not be read or has a fault; or the names that don't match, if they are the fault
abbrev pub seen_when : Option MateNames → InputsSeen → Outlets (Option SystemError) → Outcome →
    EndingSeen
seen_when names inputs outlets (Write out) =
    device_seen (record { error = error_of outlets out; look = Unknown })
seen_when names inputs outlets (Read side) = device_seen (input_seen inputs side)
seen_when names inputs outlets (Input (Text side fault)) = device_seen (input_seen inputs side)
seen_when names inputs outlets (Input (NamesDiffer k)) =
    record { error = None; look = Unknown; unmatched = names }
seen_when names inputs outlets _ = device_seen nothing_seen
