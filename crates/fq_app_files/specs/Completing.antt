-- What is known after a run, about its files, its devices and its report.
use Rattle.std.specs.Prelude.{◌≡◌, ◌≢◌, ◌⊎◌, ◌<◌, ◌≤◌, ℕ, IsTrue, IsSome, IfSome, Option, Some, Ok, List, [], length}
use Rattle.fq_files.specs.States.{FilesState, KeepsFailed}
use Rattle.fq_text.specs.declared.encoding.Encoding.{Encoding}
use Rattle.fq_text.specs.Devices.{FeedState, OutletState}
use Rattle.fq_pair.specs.declared.side.Side.{Side}
use Rattle.fq_pair.specs.declared.side.Side.TheVariants.{Forward, Reverse}
use Rattle.fq_pair.specs.declared.counts.Counts.{Counts}
use Rattle.fq_run_core.specs.Choices.{Choices}
use Rattle.fq_run_core.specs.declared.outcome.Outcome.{Outcome}
use Rattle.fq_run_core.specs.declared.outcome.Outcome.TheVariants.{Spawn, Lane, Memory, Write, Read, Endless}
use Rattle.fq_run_core.specs.Endings.{ends_whole, failures_in}
use Rattle.fq_app_words.specs.Requests.{Asking, InputNames, input_name, output_name}
use Rattle.fq_app_files.specs.Faults.{settled}
use Rattle.fq_app_files.specs.Judging.{settings_of}
use Rattle.fq_app_files.specs.Trimming.{AreInputsTold, IsEmptyOutlet, KeepsUnnamed, TrimsFiles, WritesReport}
use Rattle.fq_app_files.specs.Leaving.{HoldFirstPairs}
use Rattle.fq_app_files.specs.Reporting.{IsDue, IsNotDue, KeepsOutputs, ReportHeld, TookReport}
use Rattle.fq_app_files.specs.Seeing.{IsItsError, IsSaid}
use Rattle.fq_app_files.specs.declared.account.Account.{Account}
use Rattle.fq_app_files.specs.declared.seeing.EndingSeen.{EndingSeen}
use Rattle.fq_app_files.specs.declared.reporting.Reported.{Reported}
use Rattle.fq_app_files.specs.declared.reporting.Reported.TheVariants as became

-- the feed of this file was handed back, if the run returned it
pub record IsFeedCounted (file : List ℕ)
    (left : Option FeedState) (old new : FilesState) : Type 0 where
  pub failed : 0 < failures_in left → IsTrue (new.has_failed file)
  pub sound : failures_in left ≡ 0 → new.has_failed ≡ old.has_failed
  pub still : KeepsFailed old new

-- the feeds of the inputs were handed back
pub record AreFeedsCounted (inputs : InputNames)
    (left : Side → Option FeedState) (old new : FilesState) : Type 0 where
  pub failed : (side : Side) → 0 < failures_in (left side) →
      IsTrue (new.has_failed (input_name inputs side))
  pub sound : failures_in (left Forward) ≡ 0 → failures_in (left Reverse) ≡ 0 →
      new.has_failed ≡ old.has_failed
  pub still : KeepsFailed old new

-- The failure that is reported is one of the device that the message names: the device of that
-- output or input has failed. An endless input has at least as many bytes as read calls are
-- allowed.
abbrev pub HasFailed : Asking → FilesState → FilesState → Outcome → Type 0
HasFailed a old new (Write out) =
    (name : List ℕ) × (output_name a out ≡ Some name) × IsTrue (new.has_failed name)
HasFailed a old new (Read side) = IsTrue (new.has_failed (input_name a.inputs side))
HasFailed a old new (Endless side) = IsTrue (old.tells (input_name a.inputs side)) →
    (c : Choices) × (bytes : List ℕ) × (settings_of a ≡ Ok c)
    × (old.bytes (input_name a.inputs side) ≡ Some bytes) × (c.max_reads ≤ length bytes)
HasFailed a old new _ = Unit {0}

-- The run has a witness for an outcome that only a refusal or a lane gives: an error of std, or
-- what closing a lane returned.
pub record IsWitnessed (account : Account) : Type 0 where
  pub lane : account.outcome ≡ Lane → IsSome account.unended
  pub memory : account.outcome ≡ Memory → IsSome account.refused
  pub spawn : account.outcome ≡ Spawn → IsSome account.refused

-- a report that could not be written has a device that failed
abbrev pub ReportFailed : Asking → FilesState → Type 0
ReportFailed a files = (name : List ℕ) × (a.report ≡ Some name) × IsTrue (files.has_failed name)

-- The report's outlet was handed back. Given are what was asked for, by names and by files, the
-- run, the outlet before the report was written, what became of the report, and the files before
-- and after.
pub record IsReportStored (a f : Asking) (encoding : Encoding) (account : Account)
    (outlet : Option OutletState) (reported : Reported) (old new : FilesState) : Type 0 where
  pub due : reported ≢ became.NotDue → IsDue account.outcome
  pub not_due : reported ≡ became.NotDue → IsSome a.report → IsNotDue account.outcome
  pub took : IfSome outlet IsEmptyOutlet → WritesReport f old outlet → (file : List ℕ) →
      f.report ≡ Some file → IsTrue (old.tells file) → (bytes : List ℕ)
      × (new.bytes file ≡ Some bytes) × TookReport reported a encoding account [] bytes
  pub others : WritesReport f old outlet → KeepsOutputs f old new
  pub failed : reported ≡ became.Failed → ReportFailed f new
  pub sound : reported ≢ became.Failed → new.has_failed ≡ old.has_failed
  pub still : KeepsFailed old new
  -- If the run ended whole, a report that is written is flushed.
  pub flushed : IsDue account.outcome →
      (reported ≡ became.NotDue) ⊎ (reported ≡ became.Written) →
      new.is_unflushed ≡ old.is_unflushed

-- A run was made. Given are what was asked for, by names and by files, the files before and after
-- it, its outcome, its counts, what became of its report, and what is said of its outcome.
pub record IsCompleted (a f : Asking) (old new : FilesState)
    (outcome : Outcome) (counts : Counts) (reported : Reported) (seen : EndingSeen) : Type 0 where
  -- If it ended whole, all pairs were trimmed.
  pub trims : AreInputsTold f.inputs old.tells → IsTrue (ends_whole outcome) →
      TrimsFiles f old.tells old.bytes new.bytes outcome counts
  -- At every ending except an unconfirmed lane, the files of the outputs hold the texts of the
  -- first pairs.
  pub ended : AreInputsTold f.inputs old.tells →
      outcome ≢ Lane → HoldFirstPairs f old.tells old.bytes new.bytes outcome
  pub rest : KeepsUnnamed f old.bytes new.bytes
  -- If the run ended whole, the report covers the pairs of the inputs; at other endings its file is
  -- empty.
  pub due : reported ≢ became.NotDue → IsDue outcome
  pub not_due : reported ≡ became.NotDue → IsSome a.report → IsNotDue outcome
  pub report : AreInputsTold f.inputs old.tells → (file : List ℕ) → f.report ≡ Some file →
      IsTrue (old.tells file) → ReportHeld reported a f old.bytes new.bytes file
  pub unreported : reported ≡ became.NotDue → (file : List ℕ) → f.report ≡ Some file →
      IsTrue (old.tells file) → new.bytes file ≡ Some []
  -- A failure that is reported is one of the device that the message names. If no failure is
  -- reported, no device has failed.
  pub failed : outcome ≢ Lane → HasFailed f old new outcome
  pub as_it_is : AreInputsTold f.inputs old.tells → settled outcome ≡ outcome
  pub said : AreInputsTold f.inputs old.tells →
      IsSaid old.looks f old.bytes (settled outcome) seen
  pub its_error : IsItsError f old.may_say outcome seen
  pub report_failed : reported ≡ became.Failed → ReportFailed f new
  pub sound : IsTrue (ends_whole outcome) → reported ≢ became.Failed →
      new.has_failed ≡ old.has_failed
  -- If it ended whole, each output was flushed, and so was the report if it was written.
  pub flushed : IsDue outcome → (reported ≡ became.NotDue) ⊎ (reported ≡ became.Written) →
      new.is_unflushed ≡ old.is_unflushed
