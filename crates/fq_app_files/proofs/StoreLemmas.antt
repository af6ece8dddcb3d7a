-- Outlets that are handed back one after the other.
use Rattle.std.proofs.Common.{◌≡◌, ℕ, suc, ◌<◌, ◌==◌, IsSome, IsTrue, Some, List, refl, sym, ap, subst, ◌∙◌, arith, if◌then◌else◌, ◌⊎◌, ⊎_elim}
use Rattle.fq_pair.specs.declared.out.Out.{Out}
use Rattle.fq_pair.specs.declared.out.Out.TheVariants.{ForwardPaired, ForwardUnpaired, ReversePaired, ReverseUnpaired, Log}
use Rattle.fq_files.specs.Holding.{Holding, KeepsOthers}
use Rattle.fq_files.specs.States.{FilesState, Keys, OnlyStores, StillHeld}
use Rattle.fq_files.proofs.StateLemmas.{told_as, told_before}
use Rattle.fq_text.specs.Devices.{OutletState}
use Rattle.fq_run_core.specs.Devices.{OutletStates, outlet_at, place}
use Rattle.fq_app_words.specs.Requests.{Asking, output_name}
use Rattle.fq_app_files.specs.Trimming.{AreHeld, HasOwnName, WriteTheirs}
use Rattle.fq_app_files.specs.Making.{AreStored, HoldFirst, Stored}
use Rattle.fq_app_files.proofs.RestLemmas.{rest_of, then_rest}

-- the file of each output that has a name of its own holds what its outlet has taken
abbrev pub HoldTaken : Asking → Keys → OutletStates → Holding → Type 0
HoldTaken a tells outlets files = (out : Out) (name : List ℕ) (outlet : OutletState) →
    HasOwnName a tells out name → outlet_at out outlets ≡ Some outlet →
    files name ≡ Some outlet.taken

-- the output at a place
out_at : ℕ → Out
out_at n =
    if n == 0 then ForwardPaired
    else (if n == 1 then ForwardUnpaired
    else (if n == 2 then ReversePaired
    else (if n == 3 then ReverseUnpaired
    else Log)))

out_at-place : (out : Out) → out_at (place out) ≡ out
unfolding out_at
out_at-place ForwardPaired = refl
out_at-place ForwardUnpaired = refl
out_at-place ReversePaired = refl
out_at-place ReverseUnpaired = refl
out_at-place Log = refl

-- two outputs at one place are the same output
pub same_place : (one other : Out) → place one ≡ place other → one ≡ other
same_place one other e = sym (out_at-place one) ∙ (ap out_at e ∙ out_at-place other)

-- a number below the next number is below this one, or is this one
pub below_next : (m n : ℕ) → m < suc n → (m < n) ⊎ (m ≡ n)
below_next m n h = grind arith

-- as long as no outlet is handed back, no file has changed
pub none_stored : (a : Asking) (tells : Keys) (states : OutletStates) (files : Holding) →
    AreHeld a tells files → AreStored a tells files states 0 files
none_stored a tells states files held = record {
  rest = λ name free. refl;
  held = held;
  hold =
      λ out name outlet h. absurd (omega arith);
}

module _ (a : Asking) (tells : Keys) (states : OutletStates) (old new : Holding) where
  -- one more outlet has been handed back
  next_first : (this : Out) (name : List ℕ) (outlet : OutletState) →
      output_name a this ≡ Some name → outlet_at this states ≡ Some outlet →
      HoldFirst (place this) a tells states old →
      (IsTrue (tells name) → new name ≡ Some outlet.taken) →
      KeepsOthers old new name → HoldFirst (suc (place this)) a tells states new
  next_first this name outlet named at first stored others =
      λ out n o below own out_at_is. ⊎_elim
      (λ before. others n (λ same. let is : this ≡ out =
      own.outputs this (named ∙ ap Some (sym same)) in
      let equal : place this ≡ place out = ap place is in absurd (omega arith))
      ∙ first out n o before own out_at_is)
      (λ equal. let is : out ≡ this = same_place out this equal in
      let same_name : Some n ≡ Some name = sym own.named ∙ (ap (output_name a) is ∙ named) in
      let same_outlet : Some o ≡ Some outlet = sym out_at_is
      ∙ (ap (λ (x : Out). outlet_at x states) is ∙ at) in
      let n_is : n ≡ name = cc in
      let o_is : o ≡ outlet = cc in
      let told = subst (λ (x : List ℕ). IsTrue (tells x)) n_is own.told in
      ap new n_is ∙ (stored told ∙ ap (λ (x : OutletState). Some x.taken) (sym o_is)))
      (below_next (place out) (place this) below)

-- one more outlet has been handed back, by a call that keeps the others
pub one_stored : (a : Asking) (start : Holding) (states : OutletStates) (this : Out) (file : List ℕ)
    (outlet : OutletState) (old new : FilesState) →
    output_name a this ≡ Some file → outlet_at this states ≡ Some outlet → OnlyStores old new →
    StillHeld old new →
    (IsTrue (old.tells file) → IsTrue (old.writes outlet.file file) → IsSome (old.bytes file) →
    new.bytes file ≡ Some outlet.taken) →
    (IsTrue (old.writes outlet.file file) → KeepsOthers old.bytes new.bytes file) →
    Stored a start states (place this) old → Stored a start states (suc (place this)) new
one_stored a start states this file outlet old new named at only still kept others first held
    theirs =
    let all = subst (λ (files : FilesState). WriteTheirs a files states) only theirs in
    let its = all this file outlet named at in
    let so_far = first (told_before (λ tells. AreHeld a tells start) _ _ only held) all in
    told_as (λ tells. AreStored a tells start states (suc (place this)) new.bytes) _ _ only
    (record {
      rest = then_rest a start old.bytes new.bytes so_far.rest
          (rest_of a this file old.bytes new.bytes named (others its));
      held = λ out name own told. still name told (so_far.held out name own told);
      hold = next_first a old.tells states old.bytes new.bytes this file outlet named at
          so_far.hold (λ told. kept told its (so_far.held this file named told)) (others its);
    })

-- without a log, all outlets are handed back after the fourth
pub no_log_stored : (a : Asking) (tells : Keys) (start : Holding) (states : OutletStates)
    (files : Holding) → ((name : List ℕ) (outlet : OutletState) → output_name a Log ≡ Some name →
    outlet_at Log states ≡ Some outlet → ⊥) → AreStored a tells start states 4 files →
    AreStored a tells start states 5 files
no_log_stored a tells start states files none stored =
    record { rest = stored.rest; held = stored.held; hold = five stored.hold }
  where
    five : HoldFirst 4 a tells states files → HoldFirst 5 a tells states files
    five first ForwardPaired name outlet below = first ForwardPaired name outlet (omega arith)
    five first ForwardUnpaired name outlet below = first ForwardUnpaired name outlet (omega arith)
    five first ReversePaired name outlet below = first ReversePaired name outlet (omega arith)
    five first ReverseUnpaired name outlet below = first ReverseUnpaired name outlet (omega arith)
    five first Log name outlet below = λ own at. absurd (none name outlet own.named at)

-- all five outlets have been handed back
pub all_hold : (a : Asking) (tells : Keys) (states : OutletStates) (files : Holding) →
    HoldFirst 5 a tells states files → HoldTaken a tells states files
all_hold a tells states files first ForwardPaired name outlet =
    first ForwardPaired name outlet (omega arith)
all_hold a tells states files first ForwardUnpaired name outlet =
    first ForwardUnpaired name outlet (omega arith)
all_hold a tells states files first ReversePaired name outlet =
    first ReversePaired name outlet (omega arith)
all_hold a tells states files first ReverseUnpaired name outlet =
    first ReverseUnpaired name outlet (omega arith)
all_hold a tells states files first Log name outlet = first Log name outlet (omega arith)
