-- Inputs that are opened, and outputs that are made, before a pair is read.
use Rattle.std.specs.Prelude.{◌≡◌, ◌≢◌, ◌⊎◌, ℕ, false, IsTrue, IfSome, is_some, Option, Some, None, List, []}
use Rattle.fq_files.specs.Holding.{IsUnchanged}
use Rattle.fq_files.specs.States.{FilesState, MayRefuse, MayRefuseInput}
use Rattle.fq_files.specs.declared.files.Cause.{Cause}
use Rattle.fq_files.specs.declared.files.Cause.TheVariants.{Input}
use Rattle.fq_pair.specs.declared.out.Out.{Out}
use Rattle.fq_text.specs.Devices.{FeedState, OutletState}
use Rattle.fq_pair.specs.declared.side.Side.{Side}
use Rattle.fq_run_core.specs.Devices.{OutletStates, AreHealthy}
use Rattle.fq_app_words.specs.Requests.{Asking, InputNames, input_name, is_input, output_name}
use Rattle.fq_app_files.specs.declared.refusal.Refusal.{Refusal}
use Rattle.fq_app_files.specs.declared.refusal.Refusal.TheVariants as refusal
use Rattle.fq_app_files.specs.Refusals.{status_of, IsMemory, IsRefusable, IsReport}
use Rattle.fq_app_files.specs.Trimming.{Opened, IsMade, IsNoOutput, KeepsUnnamed, AreInputsTold, IsFed, AreFresh, AreFed, AreEmpty, IsEmptyOutlet, AreHeld, WriteTheirs, WritesReport}
use Rattle.fq_app_files.specs.Leaving.{TellsInputs, RefusalLeaves, ReportLeft, is_early}
use Rattle.fq_app_files.specs.Reporting.{IsReportOpen}

-- An input was opened: its feed has the bytes of the file of this name, and has not failed.
pub record IsInputOpened (name : List ℕ) (old : FilesState) (feed : FeedState) : Type 0 where
  pub fresh : feed.failures ≡ 0
  pub fed : IsTrue (old.tells name) → IsFed feed.tells feed.to_come (old.bytes name)

-- An input or memory for it was refused, an input for the cause that the files gave.
pub record IsInputRefused (names : InputNames)
    (side : Side) (why : Refusal) (old : FilesState) : Type 0 where
  pub refused : IsMemory why ⊎ ((cause : Cause) × (why ≡ refusal.Source side cause)
      × MayRefuseInput old (IsTrue (old.is_open (input_name names side)))
      (input_name names side) cause)
  pub early : IsTrue (is_early why)
  pub late : status_of why ≢ 2

-- All inputs were opened: their feeds have the bytes of their files, and none has failed.
pub record AreInputsOpened (names : InputNames) (old : FilesState) (inputs : Opened) : Type 0 where
  pub form : inputs.form ≡ names.form
  pub fresh : AreFresh inputs
  pub fed : AreFed inputs names old

-- One of the inputs or memory for it was refused.
pub record AreInputsRefused (names : InputNames) (why : Refusal) (old : FilesState) : Type 0 where
  pub inputs : AreInputsTold names old.tells → TellsInputs names why old
  pub early : IsTrue (is_early why)
  pub late : status_of why ≢ 2

-- The report's file was made, if a report was asked for: its outlet has not failed and has taken
-- nothing.
pub record IsReportMade (a : Asking)
    (files : FilesState) (report : Option OutletState) : Type 0 where
  pub opened : IsReportOpen a files report
  pub empty : (file : List ℕ) → a.report ≡ Some file → IsTrue (files.tells file) →
      IfSome report IsEmptyOutlet
  pub theirs : WritesReport a files report

-- The report's file or memory for it was refused: the file holds what it held, or nothing.
pub record IsReportRefused (a : Asking) (why : Refusal) (old new : FilesState) : Type 0 where
  pub why_is : IsReport why ⊎ IsMemory why
  pub refused : IsRefusable a (MayRefuse old) why
  pub left : (name : List ℕ) → a.report ≡ Some name → IsTrue (old.tells name) →
      (new.bytes name ≡ old.bytes name) ⊎ (new.bytes name ≡ Some [])

-- Everything that a run needs is open: no device has failed. Each output whose bytes are known to
-- the proof exists, and its outlet tells its bytes and is empty.
pub record AreReady (a : Asking) (files : FilesState)
    (inputs : Opened) (outlets : OutletStates) (report : Option OutletState) : Type 0 where
  pub form : inputs.form ≡ a.inputs.form
  pub fresh : AreFresh inputs
  pub healthy : AreHealthy outlets
  pub log : is_some outlets.log ≡ is_some a.log
  pub empty : AreEmpty a files.tells outlets
  pub theirs : WriteTheirs a files outlets
  pub held : AreHeld a files.tells files.bytes
  pub report_made : IsReportMade a files report

-- no file of an input is that of an output or of the report
abbrev pub AreNoInputs : Asking → Type 0
AreNoInputs a = (side : Side) → IsNoOutput a (input_name a.inputs side)
    × (a.report ≢ Some (input_name a.inputs side))

-- The devices are ready, the feeds have the bytes of the inputs, and no other file has changed.
pub record AreOpened (a : Asking) (old new : FilesState)
    (inputs : Opened) (outlets : OutletStates) (report : Option OutletState) : Type 0 where
  pub ready : AreReady a new inputs outlets report
  pub fed : AreFed inputs a.inputs old
  pub apart : AreInputsTold a.inputs old.tells → AreNoInputs a
  pub rest : KeepsUnnamed a old.bytes new.bytes

-- A file may be refused for this cause once these inputs are opened: it is that of one, and that is
-- the cause; or it might have been before.
abbrev pub MayLead : InputNames → FilesState → List ℕ → Cause → Type 0
MayLead inputs old file cause = ((cause ≡ Input) × IsTrue (is_input inputs file))
    ⊎ MayRefuse old file cause

-- A name may be refused for this cause: its file might have been before, or is that of an input of
-- another name. Given are the names of the inputs, and their files.
abbrev pub MayRefuseName : InputNames → InputNames → FilesState → List ℕ → Cause → Type 0
MayRefuseName names inputs old name cause =
    ((is_input names name ≡ false) × (cause ≡ Input) × IsTrue (is_input inputs (old.leads name)))
    ⊎ MayRefuse old (old.leads name) cause

-- if an output or the report leads to an input whose bytes are known, this holds, and no file has
-- changed
abbrev pub SparesInputs : Asking → Type 0 → FilesState → FilesState → Type 0
SparesInputs a P old new = (name : List ℕ) → IsMade a name → IsTrue (old.tells name) →
    IsTrue (new.is_open name) → P × IsUnchanged old.bytes new.bytes

-- no output leads to an input whose bytes are known
abbrev pub AreApart : Asking → FilesState → Type 0
AreApart a files = (out : Out) (name : List ℕ) → output_name a out ≡ Some name →
    IsTrue (files.tells name) → files.is_open name ≡ false

-- A call was refused for this reason: what the reason says, and what the call leaves in the files.
-- Given is what was asked for, by names and by files.
pub record IsRefused (a f : Asking) (why : Refusal) (old new : FilesState) : Type 0 where
  pub refused : IsRefusable a (MayRefuseName a.inputs f.inputs old) why
  pub inputs : AreInputsTold f.inputs old.tells → TellsInputs f.inputs why old
  pub left : RefusalLeaves f old.tells why old.bytes new.bytes
  pub report_left : (file : List ℕ) → f.report ≡ Some file → IsTrue (old.tells file) →
      IsNoOutput f file → ReportLeft why (old.bytes file) (new.bytes file)

-- A file or memory was refused after the request was checked.
pub record IsUnopened (a : Asking) (why : Refusal) (old new : FilesState) : Type 0 where
  pub late : status_of why ≢ 2
  pub refused : IsRefusable a (MayLead a.inputs old) why
  pub inputs : AreInputsTold a.inputs old.tells → TellsInputs a.inputs why old
  pub left : RefusalLeaves a old.tells why old.bytes new.bytes
  pub report_left : (name : List ℕ) → a.report ≡ Some name → IsTrue (old.tells name) →
      IsNoOutput a name → ReportLeft why (old.bytes name) (new.bytes name)
  pub rest : KeepsUnnamed a old.bytes new.bytes
  pub unopened : (side : Side) → IsTrue (old.tells (input_name a.inputs side)) →
      old.bytes (input_name a.inputs side) ≡ None → IsUnchanged old.bytes new.bytes
