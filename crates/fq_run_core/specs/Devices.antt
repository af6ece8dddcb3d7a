-- Devices (feeds and outlets) as contracts see them, and what a run does with them.
use Rattle.std.specs.Prelude.{◌≡◌, ℕ, ◌+◌, ◌-◌, nat_lt, ◌==◌, IsTrue, if◌then◌else◌}
use Rattle.std.specs.Prelude.{Option, Some, None, IfSome, IsSome, List, [], ◌++◌, length, take}
use Rattle.std.specs.Option.{option_map}
use Rattle.fq_text.specs.Devices.{FeedState, OutletState}
use Rattle.fq_pair.specs.declared.out.Out.{Out}
use Rattle.fq_pair.specs.declared.out.Out.TheVariants.{ForwardPaired, ForwardUnpaired, ReversePaired, ReverseUnpaired, Log}
use Rattle.fq_run_core.specs.declared.outlets.Outlets.{Outlets}

-- Feeds.

-- the bytes that a feed gave: those that are no longer to come
abbrev pub gave : FeedState → FeedState → List ℕ
gave old new = take (length old.to_come - length new.to_come) old.to_come

-- a feed gave bytes, and failed this number of times
pub record Fed (old new : FeedState) (failed : ℕ) : Type 0 where
  pub told : new.tells ≡ old.tells
  pub bytes : IsTrue old.tells → old.to_come ≡ gave old new ++ new.to_come
  pub failures : new.failures ≡ old.failures + failed

-- Outlets.

-- the states of the outlets of a run
pub record OutletStates : Type 0 where
  pub forward_paired : OutletState
  pub forward_unpaired : OutletState
  pub reverse_paired : OutletState
  pub reverse_unpaired : OutletState
  pub log : Option OutletState

abbrev pub outlet_states : {O : Type 0} → (O → OutletState) → Outlets O → OutletStates
outlet_states state o = record {
  forward_paired = state o.forward_paired;
  forward_unpaired = state o.forward_unpaired;
  reverse_paired = state o.reverse_paired;
  reverse_unpaired = state o.reverse_unpaired;
  log = option_map state o.log;
}

-- no outlet has failed
pub record AreHealthy (o : OutletStates) : Type 0 where
  pub forward_paired : o.forward_paired.failures ≡ 0
  pub forward_unpaired : o.forward_unpaired.failures ≡ 0
  pub reverse_paired : o.reverse_paired.failures ≡ 0
  pub reverse_unpaired : o.reverse_unpaired.failures ≡ 0
  pub log : IfSome o.log (λ log. log.failures ≡ 0)

-- the last call on each outlet was a flush that succeeded
pub record AreFlushed (o : OutletStates) : Type 0 where
  pub forward_paired : IsTrue o.forward_paired.is_flushed
  pub forward_unpaired : IsTrue o.forward_unpaired.is_flushed
  pub reverse_paired : IsTrue o.reverse_paired.is_flushed
  pub reverse_unpaired : IsTrue o.reverse_unpaired.is_flushed
  pub log : IfSome o.log (λ log. IsTrue log.is_flushed)

-- the state of one of the outlets; only the log may be left out
abbrev pub outlet_at : Out → OutletStates → Option OutletState
outlet_at ForwardPaired o = Some o.forward_paired
outlet_at ForwardUnpaired o = Some o.forward_unpaired
outlet_at ReversePaired o = Some o.reverse_paired
outlet_at ReverseUnpaired o = Some o.reverse_unpaired
outlet_at Log o = o.log

-- an outlet took a text, and failed this number of times
pub record TookText (old new : OutletState) (text : List ℕ) (failed : ℕ) : Type 0 where
  pub told : new.file ≡ old.file
  pub bytes : IsSome old.file → new.taken ≡ old.taken ++ text
  pub failures : new.failures ≡ old.failures + failed

-- `TookText` for an outlet that may be left out
abbrev pub Took : Option OutletState → Option OutletState → List ℕ → ℕ → Type 0
Took (Some old) (Some new) text failed = TookText old new text failed
Took None None text failed = failed ≡ 0
Took None (Some new) text failed = ⊥
Took (Some old) None text failed = ⊥

-- each outlet still writes the file that it wrote
abbrev pub KeepFiles : OutletStates → OutletStates → Type 0
KeepFiles old new = (out : Out) →
    option_map (λ o. o.file) (outlet_at out new) ≡ option_map (λ o. o.file) (outlet_at out old)

-- the place of an outlet in the order of writing
abbrev pub place : Out → ℕ
place ForwardPaired = 0
place ForwardUnpaired = 1
place ReversePaired = 2
place ReverseUnpaired = 3
place Log = 4

-- how often an outlet failed, if this one failed once, and no other did
abbrev pub failures_at : Option Out → Out → ℕ
failures_at None out = 0
failures_at (Some failed) out = if place out == place failed then 1 else 0

-- what an outlet is sent of its text if `failed` failed after n bytes: an outlet before `failed`
-- all of it, one after `failed` nothing
abbrev pub part_at : Out → ℕ → Out → List ℕ → List ℕ
part_at failed n out text =
    if nat_lt (place out) (place failed) then text
    else (if place out == place failed then take n text else [])

-- each outlet took its text, and the one that failed, if any, failed once
abbrev pub OutletsTook : OutletStates → OutletStates → (Out → List ℕ) → Option Out → Type 0
OutletsTook old new texts failed = (out : Out) →
    Took (outlet_at out old) (outlet_at out new) (texts out) (failures_at failed out)
