use Rattle.std.proofs.Common.{◌≡◌, ◌∙◌, ◌⊎◌, ⊎_elim, ℕ, IsTrue, List, Some, Err, inl, inr, sym, ap, subst, rules, ◌≢◌, suc, Option, [], arith, refl}
use Rattle.std.specs.Option.{option_map}
use Rattle.fq_app_words.specs.Requests.{asking_of, Asking, output_name}
use Rattle.fq_text.proofs.ResultLemmas.{cases_mapped}
use Rattle.fq_files.specs.declared.files.Cause.{Cause}
use Rattle.fq_files.specs.declared.files.FileFault.TheVariants.{Refused}
use Rattle.fq_app_files.specs.declared.refusal.Refusal.TheVariants.{Target}
use Rattle.fq_app_files.specs.declared.refusal.Refusal.TheVariants as why
use Rattle.fq_app_files.specs.Refusals.{IsMemory, IsTarget, IsRefusable}
use Rattle.fq_app_files.specs.Trimming.{filed, KeepsRest}
use Rattle.fq_app_files.proofs.FiledLemmas.{output_filed}
use Rattle.fq_app_files.proofs.MakingLemmas.{this_or_other, rest_made, named_before, stops_untrimmed}
use Rattle.fq_app_files.proofs.outputs.output.Goals as goal
use Rattle.fq_pair.specs.declared.out.Out.{Out}
use Rattle.fq_files.specs.Holding.{Holding, KeepsOthers}
use Rattle.fq_files.specs.States.{FilesState, Keys, OnlyWrites}
use Rattle.fq_files.proofs.StateLemmas.{told_as}
use Rattle.fq_run_core.specs.Devices.{place}
use Rattle.fq_app_files.specs.declared.refusal.Refusal.{Refusal}
use Rattle.fq_app_files.specs.Leaving.{StopsAt, RefusalLeaves, is_late}
use Rattle.fq_app_files.specs.Making.{AreMade, Made, StopsMaking, Unmade}
use Rattle.fq_app_files.proofs.StoreLemmas.{same_place, below_next}
use Rattle.fq_files.specs.declared.files.FileFault.{FileFault}

-- an output was made, empty if its bytes are known, and no other file changed
record IsMade (a : Asking) (tells : Keys) (out : Out) (old new : Holding) : Type 0 where
  empty : (name : List ℕ) → output_name a out ≡ Some name → IsTrue (tells name) →
      new name ≡ Some []
  others : (name : List ℕ) → output_name a out ≢ Some name → new name ≡ old name

-- an output was not made: its file holds what it held, or nothing, and no other file changed
record IsUnmade (a : Asking) (tells : Keys) (out : Out) (old new : Holding) : Type 0 where
  there : (name : List ℕ) → output_name a out ≡ Some name → IsTrue (tells name) →
      (new name ≡ old name) ⊎ (new name ≡ Some [])
  others : (name : List ℕ) → output_name a out ≢ Some name → new name ≡ old name

same_name : (o : Option (List ℕ)) (one other : List ℕ) → o ≡ Some one → o ≡ Some other → one ≡ other
same_name o one other first second = let same : Some one ≡ Some other = sym first ∙ second in cc

-- a call that emptied the file of an output and kept the others made that output
made_of : (a : Asking) (tells : Keys) (this : Out) (name : List ℕ) (old new : Holding) →
    output_name a this ≡ Some name → (IsTrue (tells name) → new name ≡ Some []) →
    KeepsOthers old new name → IsMade a tells this old new
made_of a tells this name old new named emptied others = record {
  empty = λ other is told.
      let same = same_name (output_name a this) other name is named in
      ap new same ∙ emptied (subst (λ (x : List ℕ). IsTrue (tells x)) same told);
  others = λ other free. others other (λ same. free (named ∙ ap Some (sym same)));
}

unmade_of : (a : Asking) (tells : Keys) (this : Out) (name : List ℕ) (old new : Holding) →
    output_name a this ≡ Some name →
    (IsTrue (tells name) → (new name ≡ old name) ⊎ (new name ≡ Some [])) →
    KeepsOthers old new name → IsUnmade a tells this old new
unmade_of a tells this name old new named there others = record {
  there = λ other is told.
      let same = same_name (output_name a this) other name is named in
      ⊎_elim (λ kept. inl (ap new same ∙ (kept ∙ sym (ap old same)))) (λ nothing. inr (ap new same
      ∙ nothing)) (there (subst (λ (x : List ℕ). IsTrue (tells x)) same told));
  others = λ other free. others other (λ same. free (named ∙ ap Some (sym same)));
}

-- an output is empty once it has been made
made_empty : (a : Asking) (tells : Keys) (this out : Out) (old new : Holding) (name : List ℕ) →
    IsMade a tells this old new → out ≡ this → output_name a out ≡ Some name →
    IsTrue (tells name) → new name ≡ Some []
made_empty a tells this out old new name made is named told =
    made.empty name (ap (output_name a) (sym is) ∙ named) told

-- one more output has been made
next_made : (a : Asking) (tells : Keys) (start old new : Holding) (this : Out) →
    AreMade a tells start (place this) old → IsMade a tells this old new →
    AreMade a tells start (suc (place this)) new
next_made a tells start old new this first made = record {
  empty = λ out name named told below. ⊎_elim
      (λ own. made.empty name own told)
      (λ other. ⊎_elim
      (λ before. made.others name other ∙ first.empty out name named told before)
      (λ equal. made_empty a tells this out old new name made (same_place out this equal) named
      told)
      (below_next (place out) (place this) below))
      (this_or_other (output_name a this) name);
  kept = λ name after.
      made.others name (λ own. let bad = after this own in absurd (omega (arith, bad)))
      ∙ first.kept name (λ out named. let more = after out named in omega (arith, more));
}

-- the next output could not be made
rest_unmade : (a : Asking) (tells : Keys) (start old new : Holding) (this : Out) →
    AreMade a tells start (place this) old → IsUnmade a tells this old new → KeepsRest a start new
rest_unmade a tells start old new this first unmade = λ name free. unmade.others name (free this)
    ∙ rest_made a tells start old (place this) first name free

-- ---- the first outputs that have a name

-- what two calls left: what was there before, or nothing
unchanged_or_empty : (old mid new : Option (List ℕ)) → (mid ≡ old) ⊎ (mid ≡ Some []) →
    (new ≡ mid) ⊎ (new ≡ Some []) → (new ≡ old) ⊎ (new ≡ Some [])
unchanged_or_empty old mid new first (inr nothing) = inr nothing
unchanged_or_empty old mid new first (inl kept) =
    ⊎_elim (λ same. inl (kept ∙ same)) (λ nothing. inr (kept ∙ nothing)) first

-- while outputs are made each file holds what it held, or nothing
made_untrimmed : (a : Asking) (tells : Keys) (start files : Holding) (n : ℕ) →
    AreMade a tells start n files → (name : List ℕ) → IsTrue (tells name) →
    (files name ≡ start name) ⊎ (files name ≡ Some [])
made_untrimmed a tells start files n made name told = ⊎_elim
    (λ found. inr (made.empty found.0 name found.1.1 told found.1.0))
    (λ later. inl (made.kept name later))
    (named_before a n name)

stops_at : (a : Asking) (tells : Keys) (start old new : Holding) (this : Out) →
    AreMade a tells start (place this) old → IsUnmade a tells this old new →
    StopsAt a tells this start new
stops_at a tells start old new this first unmade = record {
  before = λ other name named told before. ⊎_elim
      (λ own. ⊎_elim (λ kept. kept ∙ first.empty other name named told before)
      (λ nothing. nothing) (unmade.there name own told))
      (λ free. unmade.others name free ∙ first.empty other name named told before)
      (this_or_other (output_name a this) name);
  there = λ name named told. unchanged_or_empty (start name) (old name) (new name)
      (made_untrimmed a tells start old (place this) first name told)
      (unmade.there name named told);
  after = λ name after.
      unmade.others name (λ own. let bad = after this own in absurd (omega (arith, bad)))
      ∙ first.kept name (λ out named. let more = after out named in omega (arith, more));
}

-- what the files hold after an output was refused
leaves_made : (a : Asking) (tells : Keys) (start old new : Holding) (this : Out)
    (refusal : Refusal) → AreMade a tells start (place this) old → IsUnmade a tells this old new →
    IsTarget this refusal ⊎ IsMemory refusal → RefusalLeaves a tells refusal start new
leaves_made a tells start old new this refusal first unmade is =
    let stops = stops_at a tells start old new this first unmade in
    let P : Refusal → Type 0 = λ r. RefusalLeaves a tells r start new in
    ⊎_elim (λ target. subst P (sym target.1) (inl stops))
    (λ memory. subst P (sym memory.1) (stops_untrimmed a tells this start new stops)) is

-- A call for one more output: the output is made, or it is refused.
module _ (a : Asking) (start : Holding) (this : Out) (name : List ℕ)
    (named : output_name a this ≡ Some name)
    (old new : FilesState) (kept : OnlyWrites old new)
    (first : Made a start (place this) old) (others : KeepsOthers old.bytes new.bytes name) where
  -- if the output is made, one more has been made
  one_made : (IsTrue (old.tells name) → new.bytes name ≡ Some []) →
      Made a start (suc (place this)) new
  one_made emptied = told_as (λ tells. AreMade a tells start (suc (place this)) new.bytes) _ _
      kept (next_made a old.tells start old.bytes new.bytes this first
      (made_of a old.tells this name old.bytes new.bytes named emptied others))

  -- if the output is refused, the files hold what its refusal leaves
  none_more : (refusal : Refusal) → (IsTrue (old.tells name) →
      (new.bytes name ≡ old.bytes name) ⊎ (new.bytes name ≡ Some [])) →
      IsTarget this refusal ⊎ IsMemory refusal → Unmade a refusal start new
  none_more refusal there is =
      let unmade = unmade_of a old.tells this name old.bytes new.bytes named there others in
      told_as (λ tells. StopsMaking a tells refusal start new.bytes) _ _ kept (record {
        rest = rest_unmade a old.tells start old.bytes new.bytes this first unmade;
        leaves = leaves_made a old.tells start old.bytes new.bytes this refusal first unmade is;
      })

-- an output is refused under its name, for the cause that the files gave, if it is not memory for
-- it that was refused
output_refused : (a : Asking) (out : Out) (name : List ℕ) → output_name a out ≡ Some name →
    (P : List ℕ → Cause → Type 0) (fault : FileFault) (refusal : Refusal) →
    ((cause : Cause) → fault ≡ Refused cause → P name cause) →
    ((cause : Cause) × (fault ≡ Refused cause) × (refusal ≡ why.Target out cause))
    ⊎ IsMemory refusal → IsRefusable a P refusal
output_refused a out name named P fault refusal so is =
    let R : Refusal → Type 0 = λ r. IsRefusable a P r in
    ⊎_elim (λ target. subst R (sym target.2) (name, named, so target.0 target.1))
    (λ memory. subst R (sym memory.1) tt) is

-- the refusal of an output comes after the inputs
output_late : (out : Out) (refusal : Refusal) → IsTarget out refusal ⊎ IsMemory refusal →
    IsTrue (is_late refusal)
output_late out refusal is = let P : Refusal → Type 0 = λ r. IsTrue (is_late r) in
    ⊎_elim (λ target. subst P (sym target.1) refl) (λ memory. subst P (sym memory.1) refl) is

-- an output that is made is one more that has been made
pub returns-clause-made : goal.returns-clause-made
returns-clause-made g c =
    let old = g.T.Files.state c.args.files.now in
    let asked = asking_of c.args.request.now in
    let a = filed old asked in
    let named = output_filed old asked c.args.out _
    (sym c.output_name.ensures ∙ ap (option_map (λ name. name.now)) c.in-Some.is) in
    cases_mapped c.target.result c.map_err.result _ _ _ c.map_err.ensures.cases
    (λ target made. record {
      fresh = rw made at c.target.ensures.fresh;
      empty = λ file is told.
          let same : Some file ≡ Some (old.leads c.in-Some.name.now) = sym is ∙ named in
          let equal : file ≡ old.leads c.in-Some.name.now = cc in
          let own = subst (λ (x : List ℕ). IsTrue (old.tells x)) equal told in
          record {
            tells = (rw made at c.target.ensures.telling) own;
            taken = (rw made at c.target.ensures.nothing) own;
          };
      theirs = λ file is.
          let same : Some (old.leads c.in-Some.name.now) ≡ Some file = sym named ∙ is in
          let equal : old.leads c.in-Some.name.now ≡ file = cc in
          subst (λ (x : List ℕ). IsTrue (old.writes (g.T.Target.Outlet.state target).file x))
          equal (rw made at c.target.ensures.written);
      made = λ start first. one_made a start c.args.out _ named
          _ _ c.target.ensures.kept first c.target.ensures.others
          (rw made at c.target.ensures.emptied);
    })
    (λ fault why failed gave. tt)

-- after a refused output, the files hold what its refusal leaves
pub returns-clause-refused : goal.returns-clause-refused
returns-clause-refused g c =
    let old = g.T.Files.state c.args.files.now in
    let asked = asking_of c.args.request.now in
    let a = filed old asked in
    let named = output_filed old asked c.args.out _
    (sym c.output_name.ensures ∙ ap (option_map (λ name. name.now)) c.in-Some.is) in
    cases_mapped c.target.result c.map_err.result _ _ _ c.map_err.ensures.cases
    (λ target made. tt)
    (λ fault why failed gave.
    let said : ((cause : Cause) × (fault ≡ Refused cause) × (why ≡ Target c.args.out cause))
    ⊎ IsMemory why = search rules in
    let is : IsTarget c.args.out why ⊎ IsMemory why =
    ⊎_elim (λ target. inl (target.0, target.2)) (λ memory. inr memory) said in
    record {
      why_is = is;
      unmade = λ start first. none_more a start c.args.out _ named
          _ _ c.target.ensures.kept first c.target.ensures.others _
          (rw failed at c.target.ensures.refused) is;
      refused = output_refused a c.args.out _ named _ fault why
          (λ cause refused. c.target.ensures.rightly cause (failed ∙ ap Err refused)) said;
      after = output_late c.args.out why is;
    })
