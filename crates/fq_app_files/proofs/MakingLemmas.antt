-- Outputs that are made one after the other.
use Rattle.std.proofs.Common.{◌≡◌, ◌≢◌, ℕ, suc, ◌<◌, ◌≤◌, true, false, IfSome, Option, Some, None, List, refl, sym, ap, subst, ◌∙◌, arith, inl, inr, ◌⊎◌, ⊎_elim}
use Rattle.std.proofs.lemmas.Bool.{cases_Bool}
use Rattle.std.proofs.lemmas.Slice.Eq.{bytes_eq-Decides}
use Rattle.std.specs.Str.{bytes_eq}
use Rattle.fq_pair.specs.declared.out.Out.{Out}
use Rattle.fq_pair.specs.declared.out.Out.TheVariants.{ForwardPaired, ForwardUnpaired, ReversePaired, ReverseUnpaired, Log}
use Rattle.fq_files.specs.Holding.{Holding}
use Rattle.fq_files.specs.States.{Keys}
use Rattle.fq_text.specs.Devices.{OutletState}
use Rattle.fq_run_core.specs.Devices.{OutletStates, outlet_at, place}
use Rattle.fq_app_words.specs.Requests.{Asking, output_name}
use Rattle.fq_app_files.specs.Trimming.{IsNoOutput, KeepsRest}
use Rattle.fq_app_files.specs.Leaving.{AreUntrimmed, StopsAt}
use Rattle.fq_app_files.specs.Making.{AreMade}
use Rattle.fq_app_files.proofs.StoreLemmas.{same_place, below_next}

-- at the start no output has been made, and no file has changed
pub none_made : (a : Asking) (tells : Keys) (start : Holding) → AreMade a tells start 0 start
none_made a tells start = record {
  empty = λ out name named told below. absurd (omega (arith, below));
  kept = λ name after. refl;
}

-- a name is this one, or it is not
pub this_or_other : (o : Option (List ℕ)) (name : List ℕ) → (o ≡ Some name) ⊎ (o ≢ Some name)
this_or_other None name = inr (λ e. absurd (cc e))
this_or_other (Some one) name = ⊎_elim
    (λ same. inl (ap Some ((bytes_eq-Decides one name).0 same)))
    (λ differs. inr (λ e.
    let is : one ≡ name = cc in
    let bad : false ≡ true = sym differs ∙ (bytes_eq-Decides one name).1 is in absurd (cc bad)))
    (cases_Bool (bytes_eq one name))

-- a name that no output has is unchanged
pub rest_made : (a : Asking) (tells : Keys) (start files : Holding) (n : ℕ) →
    AreMade a tells start n files → KeepsRest a start files
rest_made a tells start files n made =
    λ name free. made.kept name (λ out named. absurd (free out named))

-- this is one of the first n outputs, and it has this name
abbrev pub IsFirst : Asking → ℕ → List ℕ → Out → Type 0
IsFirst a n name out = (place out < n) × (output_name a out ≡ Some name)

-- this output comes after the first n, or it doesn't have this name
abbrev pub IsLater : Asking → ℕ → List ℕ → Out → Type 0
IsLater a n name out = output_name a out ≡ Some name → n ≤ place out

below_or_not : (m n : ℕ) → (m < n) ⊎ (n ≤ m)
below_or_not m n = grind arith

first_or_later : (a : Asking) (n : ℕ) (name : List ℕ) (out : Out) →
    IsFirst a n name out ⊎ IsLater a n name out
first_or_later a n name out = ⊎_elim
    (λ named. ⊎_elim (λ below. inl (below, named)) (λ after. inr (λ again. after))
    (below_or_not (place out) n))
    (λ other. inr (λ named. absurd (other named)))
    (this_or_other (output_name a out) name)

-- one of the first n outputs has this name, or only later ones have it
pub named_before : (a : Asking) (n : ℕ) (name : List ℕ) →
    ((out : Out) × IsFirst a n name out) ⊎ ((out : Out) → IsLater a n name out)
named_before a n name =
    or_later ForwardPaired (λ one. or_later ForwardUnpaired (λ two. or_later ReversePaired
    (λ three. or_later ReverseUnpaired (λ four. or_later Log (λ five. inr
    (all one two three four five))))))
  where
    or_later : {P : Type 0} (this : Out) → (IsLater a n name this →
        ((out : Out) × IsFirst a n name out) ⊎ P) → ((out : Out) × IsFirst a n name out) ⊎ P
    or_later this others = ⊎_elim (λ first. inl (this, first)) others (first_or_later a n name this)

    all : IsLater a n name ForwardPaired → IsLater a n name ForwardUnpaired →
        IsLater a n name ReversePaired → IsLater a n name ReverseUnpaired → IsLater a n name Log →
        (out : Out) → IsLater a n name out
    all one two three four five ForwardPaired = one
    all one two three four five ForwardUnpaired = two
    all one two three four five ReversePaired = three
    all one two three four five ReverseUnpaired = four
    all one two three four five Log = five

-- this is the name of an output, or of none
pub output_or_none : (a : Asking) (name : List ℕ) →
    ((out : Out) × (output_name a out ≡ Some name)) ⊎ IsNoOutput a name
output_or_none a name = ⊎_elim (λ found. inl (found.0, found.1.1)) (λ later. inr (none later))
    (named_before a 5 name)
  where
    none : ((out : Out) → IsLater a 5 name out) → IsNoOutput a name
    none later ForwardPaired named = let bad = later ForwardPaired named in
        absurd (omega (arith, bad))
    none later ForwardUnpaired named = let bad = later ForwardUnpaired named in
        absurd (omega (arith, bad))
    none later ReversePaired named = let bad = later ReversePaired named in
        absurd (omega (arith, bad))
    none later ReverseUnpaired named = let bad = later ReverseUnpaired named in
        absurd (omega (arith, bad))
    none later Log named = let bad = later Log named in absurd (omega (arith, bad))

-- if an output was not made, nothing was trimmed
pub stops_untrimmed : (a : Asking) (tells : Keys) (this : Out) (start new : Holding) →
    StopsAt a tells this start new → AreUntrimmed a tells start new
stops_untrimmed a tells this start new stops out name named told = ⊎_elim
    (λ found. ⊎_elim
    (λ before. inr (stops.before found.0 name found.1.1 told before))
    (λ equal. stops.there name (ap (output_name a) (sym (same_place found.0 this equal))
    ∙ found.1.1) told)
    (below_next (place found.0) (place this) found.1.0))
    (λ later. inl (stops.after name (λ other is. let more = later other is in
    omega (arith, more))))
    (named_before a (suc (place this)) name)

-- without a log, all outputs are made after the fourth
pub no_log_made : (a : Asking) (tells : Keys) (start files : Holding) → output_name a Log ≡ None →
    AreMade a tells start 4 files → AreMade a tells start 5 files
no_log_made a tells start files none made = record {
  empty = λ out name named told below. ⊎_elim (λ before. made.empty out name named told before)
      (λ four. absurd (not_log out name four named)) (below_next (place out) 4 below);
  kept = λ name after. made.kept name (λ out named. let more = after out named in
      omega (arith, more));
}
  where
    not_log : (out : Out) (name : List ℕ) → place out ≡ 4 → output_name a out ≢ Some name
    not_log out name four named =
        let bad : None ≡ Some name = sym none
        ∙ (ap (output_name a) (sym (same_place out Log four)) ∙ named) in absurd cc

-- what holds of each outlet
pub each_outlet : (P : Out → OutletState → Type 0) (o : OutletStates) →
    P ForwardPaired o.forward_paired → P ForwardUnpaired o.forward_unpaired →
    P ReversePaired o.reverse_paired → P ReverseUnpaired o.reverse_unpaired →
    IfSome o.log (P Log) → (out : Out) (outlet : OutletState) → outlet_at out o ≡ Some outlet →
    P out outlet
each_outlet P o one two three four log ForwardPaired outlet at =
    let is : o.forward_paired ≡ outlet = cc in subst (P ForwardPaired) is one
each_outlet P o one two three four log ForwardUnpaired outlet at =
    let is : o.forward_unpaired ≡ outlet = cc in subst (P ForwardUnpaired) is two
each_outlet P o one two three four log ReversePaired outlet at =
    let is : o.reverse_paired ≡ outlet = cc in subst (P ReversePaired) is three
each_outlet P o one two three four log ReverseUnpaired outlet at =
    let is : o.reverse_unpaired ≡ outlet = cc in subst (P ReverseUnpaired) is four
each_outlet P o one two three four log Log outlet at =
    let Q : Option OutletState → Type 0 = λ o. IfSome o (P Log) in subst Q at log
