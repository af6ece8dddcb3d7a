-- Outlets that were handed back, and their failures.
use Rattle.std.proofs.Common.{◌≡◌, ℕ, suc, ◌<◌, IsTrue, Option, Some, IfSome, List, refl, sym, ap, subst, ◌∙◌, arith, ⊎_elim}
use Rattle.fq_text.specs.Devices.{OutletState}
use Rattle.fq_files.specs.States.{FilesState, KeepsFailed}
use Rattle.fq_pair.specs.declared.out.Out.{Out}
use Rattle.fq_pair.specs.declared.out.Out.TheVariants.{ForwardPaired, ForwardUnpaired, ReversePaired, ReverseUnpaired, Log}
use Rattle.fq_run_core.specs.Devices.{OutletStates, AreHealthy, outlet_at, place}
use Rattle.fq_app_words.specs.Requests.{Asking, output_name}
use Rattle.fq_app_files.specs.Making.{AreCounted}
use Rattle.fq_app_files.proofs.StoreLemmas.{same_place, below_next}

healthy_at : (states : OutletStates) → AreHealthy states → (out : Out) (outlet : OutletState) →
    outlet_at out states ≡ Some outlet → outlet.failures ≡ 0
healthy_at states healthy ForwardPaired outlet at = let P : OutletState → Type 0 =
    λ o. o.failures ≡ 0 in let is : states.forward_paired ≡ outlet = cc in
    subst P is healthy.forward_paired
healthy_at states healthy ForwardUnpaired outlet at = let P : OutletState → Type 0 =
    λ o. o.failures ≡ 0 in let is : states.forward_unpaired ≡ outlet = cc in
    subst P is healthy.forward_unpaired
healthy_at states healthy ReversePaired outlet at = let P : OutletState → Type 0 =
    λ o. o.failures ≡ 0 in let is : states.reverse_paired ≡ outlet = cc in
    subst P is healthy.reverse_paired
healthy_at states healthy ReverseUnpaired outlet at = let P : OutletState → Type 0 =
    λ o. o.failures ≡ 0 in let is : states.reverse_unpaired ≡ outlet = cc in
    subst P is healthy.reverse_unpaired
healthy_at states healthy Log outlet at = let P : Option OutletState → Type 0 =
    λ o. IfSome o (λ log. log.failures ≡ 0) in subst P at healthy.log

-- as long as no outlet is handed back, the names with failed devices are the same
pub none_counted : (a : Asking) (states : OutletStates) (files : FilesState) →
    AreCounted a states 0 files files
none_counted a states files =
    record {
      failed = λ out name outlet below. absurd (omega (arith, below));
      sound =
          λ healthy. refl;
      still = λ name had. had;
    }

-- one more outlet is handed back
pub one_counted : (a : Asking) (states : OutletStates) (this : Out) (name : List ℕ)
    (outlet : OutletState) (start old new : FilesState) → output_name a this ≡ Some name →
    outlet_at this states ≡ Some outlet
    → (0 < outlet.failures → IsTrue (new.has_failed name))
    → (outlet.failures ≡ 0 → new.has_failed ≡ old.has_failed) → KeepsFailed old new
    → AreCounted a states (place this) start old → AreCounted a states (suc (place this)) start new
one_counted a states this name outlet start old new named at fails sound still first = record {
  failed = λ out n o below out_named out_at_is some. ⊎_elim
      (λ before. still n (first.failed out n o before out_named out_at_is some))
      (λ equal. let is : out ≡ this = same_place out this equal in
      let same_name : Some n ≡ Some name = sym out_named ∙ (ap (output_name a) is ∙ named) in
      let same_outlet : Some o ≡ Some outlet = sym out_at_is
      ∙ (ap (λ (x : Out). outlet_at x states) is ∙ at) in
      let n_is : n ≡ name = cc in
      let o_is : o ≡ outlet = cc in
      let P : List ℕ → Type 0 = λ x. IsTrue (new.has_failed x) in
      let Q : OutletState → Type 0 = λ x. 0 < x.failures in
      subst P (sym n_is) (fails (subst Q o_is some)))
      (below_next (place out) (place this) below);
  sound = λ healthy. sound (healthy_at states healthy this outlet at) ∙ first.sound healthy;
  still = λ n had. still n (first.still n had);
}

-- without a log, all outlets are handed back after the fourth
pub no_log_counted : (a : Asking) (states : OutletStates) (start files : FilesState)
    → ((name : List ℕ) (outlet : OutletState) → output_name a Log ≡ Some name →
    outlet_at Log states ≡ Some outlet → ⊥) → AreCounted a states 4 start files →
    AreCounted a states 5 start files
no_log_counted a states start files none counted =
    record { failed = five; sound = counted.sound; still = counted.still }
  where
    five : (out : Out) (name : List ℕ) (outlet : OutletState) → place out < 5 →
        output_name a out ≡ Some name → outlet_at out states ≡ Some outlet → 0 < outlet.failures →
        IsTrue (files.has_failed name)
    five ForwardPaired name outlet below = counted.failed ForwardPaired name outlet (omega arith)
    five ForwardUnpaired name outlet below =
        counted.failed ForwardUnpaired name outlet (omega arith)
    five ReversePaired name outlet below = counted.failed ReversePaired name outlet (omega arith)
    five ReverseUnpaired name outlet below =
        counted.failed ReverseUnpaired name outlet (omega arith)
    five Log name outlet below = λ named at some. absurd (none name outlet named at)
