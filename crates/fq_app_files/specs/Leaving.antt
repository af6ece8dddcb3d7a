-- What the files of the outputs hold if the program does not end whole.
use Rattle.std.specs.Prelude.{◌≡◌, ◌<◌, ◌≤◌, ◌⊎◌, ℕ, Bool, true, false, Option, Some, IsSome, IsTrue, Ok, List, [], ◌++◌}
use Rattle.fq_files.specs.Holding.{Holding, IsUnchanged}
use Rattle.fq_files.specs.States.{FilesState, Keys, MayRefuse, MayRefuseInput}
use Rattle.fq_files.specs.declared.files.Cause.TheVariants as cause
use Rattle.fq_pair.specs.declared.out.Out.{Out}
use Rattle.fq_pair.specs.declared.side.Side.TheVariants as side
use Rattle.fq_pair.specs.Mates.{Mates}
use Rattle.fq_pair.specs.Outputs.{texts_of, text_of}
use Rattle.fq_run_core.specs.Choices.{Choices}
use Rattle.fq_run_core.specs.declared.outcome.Outcome.{Outcome}
use Rattle.fq_run_core.specs.declared.outcome.Outcome.TheVariants as outcome
use Rattle.fq_run_core.specs.Devices.{place}
use Rattle.fq_run_core.specs.Endings.{AreFirst}
use Rattle.fq_run_core.specs.Fates.{Fate, failed_outlet, block_begun, part_begun, IsCutShort}
use Rattle.fq_run_core.specs.Outcomes.{rank}
use Rattle.fq_app_files.specs.declared.refusal.Refusal.{Refusal}
use Rattle.fq_app_files.specs.declared.refusal.Refusal.TheVariants as why
use Rattle.fq_app_words.specs.Requests.{Asking, InputNames, output_name}
use Rattle.fq_app_files.specs.Judging.{settings_of}
use Rattle.fq_app_files.specs.Trimming.{HasOwnName, pairs_of}

-- If trimming had begun.

-- What an outcome says about the pairs whose block was written whole, and about the outlet that
-- failed.
pub record IsTold (whole : List Mates) (fate : Fate) (ended : Outcome) : Type 0 where
  pub spawn : ended ≡ outcome.Spawn → whole ≡ []
  pub write : (out : Out) → ended ≡ outcome.Write out → failed_outlet fate ≡ Some out
  pub outlet_failed : (out : Out) → failed_outlet fate ≡ Some out → rank ended ≤ 5

-- The file of each output that has a name of its own holds a first part of the text that is defined
-- for the bytes of the inputs and for the settings. All hold the same pairs, except in the block in
-- which a write failed.
pub record HoldFirstPairs (a : Asking) (tells : Keys) (old new : Holding)
    (ended : Outcome) : Type 0 where
  pub choices : Choices
  pub forward : List ℕ
  pub reverse : List ℕ
  pub whole : List Mates
  pub fate : Fate
  pub settings : settings_of a ≡ Ok choices
  pub forward_is : old a.inputs.forward ≡ Some forward
  pub reverse_is : old a.inputs.reverse ≡ Some reverse
  pub texts : (out : Out) (name : List ℕ) → HasOwnName a tells out name →
      new name ≡ Some (text_of out (texts_of choices.steps whole)
      ++ part_begun choices.steps fate out)
  pub cut_short : IsCutShort choices.block_pairs choices.steps fate
  pub first : AreFirst (whole ++ block_begun fate)
      (pairs_of choices a.inputs.form forward reverse).mates
  pub told : IsTold whole fate ended

-- If trimming had not begun.

-- the file of each output whose bytes are known holds what it held before, or nothing
abbrev pub AreUntrimmed : Asking → Keys → Holding → Holding → Type 0
AreUntrimmed a tells old new = (out : Out) (name : List ℕ) → output_name a out ≡ Some name →
    IsTrue (tells name) → (new name ≡ old name) ⊎ (new name ≡ Some [])

-- an output could not be made: those before it whose bytes are known are empty, and a name that
-- only those after it have, or none, holds what it held
pub record StopsAt (a : Asking) (tells : Keys) (out : Out) (old new : Holding) : Type 0 where
  pub before : (other : Out) (name : List ℕ) → output_name a other ≡ Some name →
      IsTrue (tells name) → place other < place out → new name ≡ Some []
  pub there : (name : List ℕ) → output_name a out ≡ Some name → IsTrue (tells name) →
      (new name ≡ old name) ⊎ (new name ≡ Some [])
  pub after : (name : List ℕ) → ((other : Out) →
      output_name a other ≡ Some name → place out < place other) → new name ≡ old name

-- the outputs whose bytes are known are empty
abbrev pub AreEmptied : Asking → Keys → Holding → Type 0
AreEmptied a tells new = (out : Out) (name : List ℕ) → output_name a out ≡ Some name →
    IsTrue (tells name) → new name ≡ Some []

-- What a refusal leaves in the outputs. If the report could not be made, they are empty. If the
-- output or the report leads to an input, nothing has changed.
abbrev pub RefusalLeaves : Asking → Keys → Refusal → Holding → Holding → Type 0
RefusalLeaves a tells (why.Target out cause) old new =
    StopsAt a tells out old new ⊎ IsUnchanged old new
RefusalLeaves a tells (why.Report cause) old new = AreEmptied a tells new ⊎ IsUnchanged old new
RefusalLeaves a tells (why.Memory refused) old new = AreUntrimmed a tells old new
RefusalLeaves a tells _ old new = IsUnchanged old new

-- what a refusal leaves in the report's file: what it held before, or nothing if the report itself
-- or memory was refused
abbrev pub ReportLeft : Refusal → Option (List ℕ) → Option (List ℕ) → Type 0
ReportLeft (why.Report cause) old new = (new ≡ old) ⊎ (new ≡ Some [])
ReportLeft (why.Memory refused) old new = (new ≡ old) ⊎ (new ≡ Some [])
ReportLeft _ old new = new ≡ old

-- What a refusal says about the inputs.

-- both inputs exist
abbrev pub AreThere : InputNames → Holding → Type 0
AreThere inputs old = IsSome (old inputs.forward) × IsSome (old inputs.reverse)

-- The input that is named does not exist, or is an input already: before the call, or, after the
-- forward one was opened, as the same file. The cause is which of these it is. An output or the
-- report is refused only if both inputs exist. Given are the files before the call.
abbrev pub TellsInputs : InputNames → Refusal → FilesState → Type 0
TellsInputs inputs (why.Source side.Forward given) old =
    MayRefuseInput old (IsTrue (old.is_open inputs.forward)) inputs.forward given
TellsInputs inputs (why.Source side.Reverse given) old = IsSome (old.bytes inputs.forward)
    × MayRefuseInput old
    ((inputs.reverse ≡ inputs.forward) ⊎ MayRefuse old inputs.reverse cause.Input)
    inputs.reverse given
TellsInputs inputs (why.Target out cause) old = AreThere inputs old.bytes
TellsInputs inputs (why.Report cause) old = AreThere inputs old.bytes
TellsInputs inputs _ old = Unit {0}

-- a refusal that can come before the first output is made
abbrev pub is_early : Refusal → Bool
is_early (why.Target out cause) = false
is_early (why.Report cause) = false
is_early _ = true

-- a refusal that can come once both inputs are opened, before an output is written
abbrev pub is_late : Refusal → Bool
is_late (why.Target out cause) = true
is_late (why.Report cause) = true
is_late (why.Memory refused) = true
is_late _ = false

-- Whether trimming had begun or not.

-- The files of the outputs whose bytes are known hold what they held before, or nothing, or first
-- parts of the defined texts for the same pairs.
abbrev pub AreLeft : Asking → Keys → Holding → Holding → Type 0
AreLeft a tells old new = AreUntrimmed a tells old new
    ⊎ ((ended : Outcome) × HoldFirstPairs a tells old new ended)
