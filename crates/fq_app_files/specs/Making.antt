-- Outputs that are made one after the other, and then handed back one after the other, in the order
-- of `Out`.
use Rattle.std.specs.Prelude.{◌≡◌, ◌≢◌, ◌⊎◌, ◌<◌, ◌≤◌, ℕ, suc, IsTrue, is_some, Some, List, []}
use Rattle.fq_files.specs.Holding.{Holding}
use Rattle.fq_files.specs.States.{FilesState, Keys, KeepsFailed, MayRefuse}
use Rattle.fq_pair.specs.declared.out.Out.{Out}
use Rattle.fq_text.specs.Devices.{OutletState}
use Rattle.fq_run_core.specs.Devices.{OutletStates, AreFlushed, AreHealthy, outlet_at, place}
use Rattle.fq_app_words.specs.Requests.{Asking, output_name}
use Rattle.fq_app_files.specs.declared.refusal.Refusal.{Refusal}
use Rattle.fq_app_files.specs.Refusals.{status_of, IsMemory, IsRefusable, IsTarget}
use Rattle.fq_app_files.specs.Trimming.{HasOwnName, KeepsRest, AreEmpty, AreHeld, IsEmptyOutlet, WriteTheirs}
use Rattle.fq_app_files.specs.Leaving.{RefusalLeaves, is_late}

-- the first n outputs have been made, those whose bytes are known are empty, and a name that only
-- the others have, or none, is unchanged
pub record AreMade (a : Asking) (tells : Keys) (start : Holding) (n : ℕ) (files : Holding) :
    Type 0 where
  pub empty : (out : Out) (name : List ℕ) → output_name a out ≡ Some name →
      IsTrue (tells name) → place out < n → files name ≡ Some []
  pub kept : (name : List ℕ) → ((out : Out) →
      output_name a out ≡ Some name → n ≤ place out) → files name ≡ start name

-- an output could not be made
pub record StopsMaking (a : Asking) (tells : Keys) (why : Refusal) (start files : Holding) :
    Type 0 where
  pub rest : KeepsRest a start files
  pub leaves : RefusalLeaves a tells why start files

-- so it is in files of which these bytes are known
abbrev pub Made : Asking → Holding → ℕ → FilesState → Type 0
Made a start n files = AreMade a files.tells start n files.bytes

abbrev pub Unmade : Asking → Refusal → Holding → FilesState → Type 0
Unmade a why start files = StopsMaking a files.tells why start files.bytes

-- All outputs have been made: no outlet has failed, and those whose bytes are known are empty.
pub record AreOutputsMade (a : Asking)
    (old new : FilesState) (outlets : OutletStates) : Type 0 where
  pub healthy : AreHealthy outlets
  pub log : is_some outlets.log ≡ is_some a.log
  pub empty : AreEmpty a old.tells outlets
  pub theirs : WriteTheirs a old outlets
  pub made : Made a old.bytes 5 new

-- An output or memory for it was refused: what its refusal says, and what the files then hold.
pub record AreOutputsRefused (a : Asking) (why : Refusal) (old new : FilesState) : Type 0 where
  pub unmade : Unmade a why old.bytes new
  pub refused : IsRefusable a (MayRefuse old) why
  pub after : IsTrue (is_late why)
  pub late : status_of why ≢ 2

-- One more output has been made.
pub record IsOutputMade (a : Asking) (out : Out)
    (old new : FilesState) (outlet : OutletState) : Type 0 where
  pub fresh : outlet.failures ≡ 0
  pub empty : (file : List ℕ) → output_name a out ≡ Some file → IsTrue (old.tells file) →
      IsEmptyOutlet outlet
  pub theirs : (file : List ℕ) → output_name a out ≡ Some file →
      IsTrue (old.writes outlet.file file)
  pub made : (start : Holding) → Made a start (place out) old → Made a start (suc (place out)) new

-- The next output or memory for it was refused.
pub record IsOutputRefused (a : Asking) (out : Out)
    (why : Refusal) (old new : FilesState) : Type 0 where
  pub why_is : IsTarget out why ⊎ IsMemory why
  pub unmade : (start : Holding) → Made a start (place out) old → Unmade a why start new
  pub refused : IsRefusable a (MayRefuse old) why
  pub after : IsTrue (is_late why)

-- those of the first n outputs that have a name of their own hold what their outlets have taken
abbrev pub HoldFirst : ℕ → Asking → Keys → OutletStates → Holding → Type 0
HoldFirst n a tells states files = (out : Out) (name : List ℕ) (outlet : OutletState) →
    place out < n → HasOwnName a tells out name → outlet_at out states ≡ Some outlet →
    files name ≡ Some outlet.taken

-- the outlets of the first n outputs have been handed back
pub record AreStored (a : Asking) (tells : Keys) (start : Holding)
    (states : OutletStates) (n : ℕ) (files : Holding) : Type 0 where
  pub rest : KeepsRest a start files
  pub held : AreHeld a tells files
  pub hold : HoldFirst n a tells states files

-- the outlets of the first n outputs have been handed back, if the files of the outputs existed and
-- each outlet is one of its file
abbrev pub Stored : Asking → Holding → OutletStates → ℕ → FilesState → Type 0
Stored a start states n files = AreHeld a files.tells start → WriteTheirs a files states →
    AreStored a files.tells start states n files.bytes

-- the first n outlets of the outputs were handed back
pub record AreCounted (a : Asking)
    (states : OutletStates) (n : ℕ) (old new : FilesState) : Type 0 where
  pub failed : (out : Out) (name : List ℕ) (outlet : OutletState) → place out < n →
      output_name a out ≡ Some name → outlet_at out states ≡ Some outlet →
      0 < outlet.failures → IsTrue (new.has_failed name)
  pub sound : AreHealthy states → new.has_failed ≡ old.has_failed
  pub still : KeepsFailed old new

-- All outlets have been handed back: what their files hold, and what is known of the devices.
pub record AreOutputsStored (a : Asking)
    (outlets : OutletStates) (old new : FilesState) : Type 0 where
  pub stored : Stored a old.bytes outlets 5 new
  pub counted : AreCounted a outlets 5 old new
  pub flushed : AreFlushed outlets → new.is_unflushed ≡ old.is_unflushed

-- One more outlet has been handed back.
pub record IsOutputStored (a : Asking) (out : Out)
    (outlet : OutletState) (old new : FilesState) : Type 0 where
  pub stored : (start : Holding) (states : OutletStates) → outlet_at out states ≡ Some outlet →
      Stored a start states (place out) old → Stored a start states (suc (place out)) new
  pub counted : (start : FilesState) (states : OutletStates) →
      outlet_at out states ≡ Some outlet → AreCounted a states (place out) start old →
      AreCounted a states (suc (place out)) start new
  pub flushed : IsTrue outlet.is_flushed → new.is_unflushed ≡ old.is_unflushed
