-- Files as contracts see them, and what a call leaves as it was.
use Rattle.std.specs.Prelude.{◌≡◌, ◌<◌, ◌⊎◌, ℕ, Bool, false, IsTrue, IsSome, Option, Some, None, List}
use Rattle.fq_files.specs.Holding.{Holding}
use Rattle.fq_text.specs.declared.seen.SystemError.{SystemError}
use Rattle.fq_files.specs.declared.files.Cause.{Cause}
use Rattle.fq_files.specs.declared.files.Cause.TheVariants.{System, Input, Output}

-- some files, each by its key
abbrev pub Keys : Type 0
Keys = List ℕ → Bool

-- some causes for each file
abbrev pub Causes : Type 0
Causes = List ℕ → Cause → Bool

-- some errors of the system for each file
abbrev pub Errors : Type 0
Errors = List ℕ → SystemError → Bool

-- All but the first of these speak of files, not of names.
pub record FilesState : Type 0 where
  -- The key of the file that each name leads to, links followed; if there is none, of the one that
  -- it would lead to. Two names that lead to one file have one key. This never changes.
  pub leads : List ℕ → List ℕ
  -- Whether the bytes of this file are known to the proof. This never changes.
  pub tells : Keys
  -- Whether it is known to the proof what files look like. This never changes.
  pub looks : Bool
  -- The bytes of each file that is there. Of a file whose bytes are not known to the proof only
  -- this is said, that calls for other files leave them.
  pub bytes : Holding
  -- For which causes this file may be refused as an output, if memory isn't, or as an input
  -- although it is there. For the cause `Input` it may be an input already under a name of another
  -- file. This never changes.
  pub refuses : Causes
  -- Which errors of the system a device of this file may say once it has failed, or this file if it
  -- is refused as an input. This never changes.
  pub may_say : Errors
  -- Whether an outlet of this number is one of this file: once it is handed back under a name of
  -- the file, what it has taken is in the file, if the bytes of that are known to the proof, and no
  -- other file has changed. This never changes.
  pub writes : Option ℕ → Keys
  -- Whether this file was opened as an input. It never stops being one; another file becomes one
  -- only if it may be refused for the cause `Input`.
  pub is_open : Keys
  -- Whether a device of this file has failed. A failure may count for other files too; without a
  -- failure nothing counts.
  pub has_failed : Keys
  -- Whether a target of this file was handed back that was not flushed after its last write. It may
  -- count for other files too; without such a target nothing counts.
  pub is_unflushed : Keys

-- this file may be refused as an output for this cause, or it is an input, and that is the cause
abbrev pub MayRefuse : FilesState → List ℕ → Cause → Type 0
MayRefuse files file cause = IsTrue (files.refuses file cause)
    ⊎ ((cause ≡ Input) × IsTrue (files.is_open file))

-- This file may be refused as an input for this cause: it is not there, or it may be refused
-- although it is, and the system may say so by this error; or it is an input already, of which this
-- holds. If the bytes of the file are known, it is no output yet.
pub record MayRefuseInput (files : FilesState) (IsInput : Type 0)
    (file : List ℕ) (cause : Cause) : Type 0 where
  pub missing : (error : SystemError) → cause ≡ System error →
      IsTrue (files.may_say file error)
      × (IsTrue (files.tells file) → (files.bytes file ≡ None) ⊎ IsTrue (files.refuses file cause))
  pub twice : cause ≡ Input → IsInput
  pub no_output : cause ≡ Output → files.tells file ≡ false

-- what is told, if anything is, is an error that a device of this file may say; without a file
-- nothing is told
abbrev pub MaySay : Errors → Option (List ℕ) → Option SystemError → Type 0
MaySay may_say named told = (error : SystemError) → told ≡ Some error →
    (file : List ℕ) × (named ≡ Some file) × IsTrue (may_say file error)

-- an error is told of a device that has failed, and of no other
abbrev pub TellsWhy : ℕ → Option SystemError → Type 0
TellsWhy failures told = (failures ≡ 0 → told ≡ None) × (0 < failures → IsSome told)

-- only which files are inputs has changed
abbrev pub OnlyOpens : FilesState → FilesState → Type 0
OnlyOpens old new = new ≡ record old { is_open = new.is_open }

-- only which files have a device that failed has changed
abbrev pub OnlyFails : FilesState → FilesState → Type 0
OnlyFails old new = new ≡ record old { has_failed = new.has_failed }

-- only bytes have changed
abbrev pub OnlyWrites : FilesState → FilesState → Type 0
OnlyWrites old new = new ≡ record old { bytes = new.bytes }

-- only bytes have changed, and which files have a device that failed or was not flushed
abbrev pub OnlyStores : FilesState → FilesState → Type 0
OnlyStores old new = new ≡ record old {
  bytes = new.bytes;
  has_failed = new.has_failed;
  is_unflushed = new.is_unflushed;
}

-- since then no device has failed, and each target that was handed back was flushed
abbrev pub IsSound : FilesState → FilesState → Type 0
IsSound old new = new ≡ record old { bytes = new.bytes; is_open = new.is_open }

-- no file whose bytes are known to the proof is removed
abbrev pub StillHeld : FilesState → FilesState → Type 0
StillHeld old new = (file : List ℕ) → IsTrue (old.tells file) → IsSome (old.bytes file) →
    IsSome (new.bytes file)

-- a file whose device had failed before still counts as failed
abbrev pub KeepsFailed : FilesState → FilesState → Type 0
KeepsFailed old new = (file : List ℕ) → IsTrue (old.has_failed file) → IsTrue (new.has_failed file)
