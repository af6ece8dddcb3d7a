-- What a call of the program answers, by the status with which it ends.
use Rattle.std.specs.Prelude.{◌≡◌, ◌≢◌, ◌⊎◌, ℕ, ◌++◌, IsTrue}
use Rattle.clap.specs.Kinds.{Kinds}
use Rattle.fq_text.specs.Devices.{OutletState}
use Rattle.fq_files.specs.States.{FilesState}
use Rattle.fq_app_words.specs.Requests.{Asking}
use Rattle.fq_app_files.specs.Trimming.{filed, AreInputsTold, KeepsUnnamed}
use Rattle.fq_app_files.specs.Leaving.{AreUntrimmed}
use Rattle.fq_app_files.specs.Opening.{SparesInputs}
use Rattle.fq_app.specs.Answers.{Device, device_of, AreCalls, AreRefused, IsUnshown, LacksMemory, LacksPrint, NamesDevice, PairsAnswered, TookLines, TookMemoryLine, TookText, print_line}
use Rattle.fq_app.specs.Example.{example_text}
use Rattle.fq_app.specs.FilesInStep.{FilesAreInStep, FilesAreInStepUpTo}

-- What standard output and standard error have taken after any call. At status 0 standard error has
-- taken nothing and standard output the whole text. Unless standard output failed, nothing is
-- printed at statuses other than 0 and 3. If it failed, the status is 3, or 4 with the line for
-- that. Refused memory is reported as such; only a request may have a reason for it.
pub record PrintsByStatus {O E : Type 0} (out_state : O → OutletState) (err_state : E → OutletState)
    (out new_out : O) (err new_err : E) (status : ℕ) : Type 0 where
  pub finished : status ≡ 0 → ((out_state new_out).failures ≡ 0) × (new_err ≡ err)
  pub quiet : status ≢ 0 → status ≢ 3 → (out_state new_out).failures ≡ 0 → new_out ≡ out
  pub failed : (out_state new_out).failures ≢ 0 →
      (status ≡ 3) ⊎ ((status ≡ 4) × TookText (device_of err_state err new_err) print_line)
  pub memory : status ≡ 5 →
      (new_out ≡ out) × TookMemoryLine (device_of err_state err new_err)

-- At status 0 and 3 no device of the files has failed, and each output, the log and the report were
-- flushed after their last write.
pub record StaysSound (old new : FilesState) (status : ℕ) : Type 0 where
  pub sound : (status ≡ 0) ⊎ (status ≡ 3) → new.has_failed ≡ old.has_failed
  pub flushed : (status ≡ 0) ⊎ (status ≡ 3) → new.is_unflushed ≡ old.is_unflushed

-- How a call with a request ends.
pub record RequestAnswered (a : Asking)
    (old new : FilesState) (out err : Device) (status : ℕ) : Type 0 where
  -- The pairs are trimmed, or `err` gets the reason why not.
  pub pairs : PairsAnswered a old new out err status
  -- At status 0 and 3 the files of the outputs that have a name of their own are in step with each
  -- other and with the summary that was printed, and at status 0 no fault ended the pairs. At every
  -- status except 6 each file of an output holds what it held before, or nothing, or these files
  -- are in step for the first pairs, up to the block in which a write failed.
  pub in_step : (status ≡ 0) ⊎ (status ≡ 3) → AreInputsTold (filed old a).inputs old.tells →
      FilesAreInStep (filed old a) old.tells old.bytes new.bytes out status
  pub left_in_step : status ≢ 6 → AreInputsTold (filed old a).inputs old.tells →
      AreUntrimmed (filed old a) old.tells old.bytes new.bytes
      ⊎ FilesAreInStepUpTo (filed old a) old.tells old.bytes new.bytes
  -- At status 4 the line names a file or device that was indeed refused or has failed.
  pub device : status ≡ 4 → NamesDevice a old new out err
  -- Only the files of the outputs and of the report change.
  pub rest : KeepsUnnamed (filed old a) old.bytes new.bytes
  -- If an output or the report leads to an input, no file changes, and the status is neither 0 nor
  -- 3.
  pub spared : SparesInputs (filed old a) ((status ≢ 0) × (status ≢ 3)) old new

-- How `EXAMPLE` ends: it is printed unless standard output, memory or a thread fails.
pub record ExampleAnswered (out err : Device) (status : ℕ) : Type 0 where
  pub ends : (status ≡ 0) ⊎ ((status ≡ 4) ⊎ ((status ≡ 5) ⊎ (status ≡ 6)))
  pub shown : status ≡ 0 → IsTrue out.tells → out.after ≡ out.before ++ example_text
  pub unshown : status ≢ 0 → IsUnshown out err status

-- How arguments end that don't parse, for these reasons: help and the version are printed, and
-- others are refused.
pub record ArgumentsAnswered (kinds : Kinds) (out err : Device) (status : ℕ) : Type 0 where
  pub usage : AreRefused kinds → (status ≡ 1) ⊎ (status ≡ 5)
  pub called : AreCalls kinds → status ≢ 1
  pub help : status ≡ 0 → TookLines out
  pub unprinted : status ≡ 4 → LacksPrint out err status
  pub unread : status ≡ 5 → LacksMemory err status
