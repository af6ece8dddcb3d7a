-- What the program leaves in files is in step.
use Rattle.std.proofs.Common.{◌≡◌, ◌⊎◌, ◌∙◌, Option, Some, None, List, [], ◌∷◌, ◌++◌, append_assoc, ℕ, ap, sym, subst, refl, arith, ⊎_elim, inl, inr}
use Rattle.std.specs.List.{All}
use Rattle.std.proofs.lemmas.List.Elements.{All-nil, All-cons, All-head, All-tail}
use Rattle.fq_pair.specs.declared.out.Out.{Out}
use Rattle.fq_pair.specs.declared.counts.Counts.{Counts}
use Rattle.fq_pair.specs.declared.fault.InputFault.{InputFault}
use Rattle.fq_pair.specs.Mates.{Mates}
use Rattle.fq_pair.specs.Outputs.{texts_of, text_of}
use Rattle.fq_run_core.specs.Fates.{block_begun}
use Rattle.fq_run_core.specs.declared.outcome.Outcome.TheVariants.{Input}
use Rattle.fq_run_core.specs.Endings.{AreFirst, trimmed_outcome}
use Rattle.fq_app_files.specs.Faults.{outcome_status}
use Rattle.fq_law_in_step.specs.InStep.{IsPairIn, AreInStep}
use Rattle.fq_app_files.specs.Trimming.{filed, pairs_of}
use Rattle.fq_app_files.specs.Leaving.{AreLeft, AreUntrimmed}
use Rattle.fq_files.specs.Holding.{Holding}
use Rattle.fq_files.specs.States.{FilesState, Keys}
use Rattle.fq_app_words.specs.Requests.{Asking}
use Rattle.fq_app.specs.Answers.{Device, EndsWhole}
use Rattle.fq_app.specs.FilesInStep.{FilesAreInStep, FilesAreInStepUpTo}
use Rattle.fq_law_in_step.proofs.TextLemmas.{inputs_give_pairs}
use Rattle.fq_law_in_step.proofs.InStepLemmas.{texts_are_in_step}

-- what holds of each member of a list holds of each member of its first part
pub all_first : {X : Type 0} (P : X → Type 0) (xs ys : List X) → All P (xs ++ ys) → All P xs
all_first P [] ys all = All-nil P
all_first P (x ∷ xs) ys all = All-cons P x xs (All-head P x (xs ++ ys) all)
    (all_first P xs ys (All-tail P x (xs ++ ys) all))

-- the first of the first pairs are first pairs
pub still_first : (ms ns all : List Mates) → AreFirst (ms ++ ns) all → AreFirst ms all
still_first ms ns all first = (ns ++ first.0, first.1 ∙ append_assoc ms ns first.0)

-- what holds of all pairs holds of the first pairs
pub first_are_pairs : (P : Mates → Type 0) (ms all : List Mates) → AreFirst ms all → All P all →
    All P ms
first_are_pairs P ms all first are = all_first P ms first.0 (subst (All P) first.1 are)

-- a run that ended at a fault doesn't have status 0
faulty : (fault : InputFault) → outcome_status (Input fault) ≡ 0 → ⊥
faulty fault e = grind arith

complete : (fault : Option InputFault) → outcome_status (trimmed_outcome fault) ≡ 0 →
    fault ≡ None
complete None done = refl
complete (Some fault) done = absurd (faulty fault done)

-- the files that a whole run has left are in step
pub whole_files : (a : Asking) (old new : FilesState) (out err : Device) (status : ℕ) →
    EndsWhole a old new out err status →
    FilesAreInStep (filed old a) old.tells old.bytes new.bytes out status
whole_files a old new out err status ends =
    let trims = ends.trims in
    let c = trims.choices in
    let ms = (pairs_of c a.inputs.form trims.forward trims.reverse).mates in
    let texts : Out → List ℕ = λ out. text_of out (texts_of c.steps ms) in
    record {
      choices = c;
      forward = trims.forward;
      reverse = trims.reverse;
      counts = ends.counts;
      texts = texts;
      settings = trims.settings;
      forward_is = trims.forward_is;
      reverse_is = trims.reverse_is;
      complete = λ done. complete (pairs_of c a.inputs.form trims.forward trims.reverse).fault
          (ap outcome_status (sym trims.outcome_is) ∙ ends.status_is ∙ done);
      printed = ends.printed;
      held = trims.texts;
      in_step =
          subst (λ (counts : Counts). AreInStep c.check_names c.steps c.encoding ms counts texts)
          (sym trims.counts_are)
          (texts_are_in_step c.check_names c.steps c.encoding ms
          (inputs_give_pairs a.inputs.form c.check_names c.encoding trims.forward
          trims.reverse));
    }

-- so are those that any other run has left, for the first pairs
pub files_left : (a : Asking) (tells : Keys) (old new : Holding) → AreLeft a tells old new →
    AreUntrimmed a tells old new ⊎ FilesAreInStepUpTo a tells old new
files_left a tells old new left = ⊎_elim
    (λ untrimmed. inl untrimmed)
    (λ ended.
    let held = ended.1 in
    let c = held.choices in
    let all = (pairs_of c a.inputs.form held.forward held.reverse).mates in
    let texts : Out → List ℕ = λ out. text_of out (texts_of c.steps held.whole) in
    let first = still_first held.whole (block_begun held.fate) all held.first in
    let are = inputs_give_pairs a.inputs.form c.check_names c.encoding held.forward held.reverse in
    inr (record {
      choices = c;
      forward = held.forward;
      reverse = held.reverse;
      whole = held.whole;
      fate = held.fate;
      texts = texts;
      settings = held.settings;
      forward_is = held.forward_is;
      reverse_is = held.reverse_is;
      first = first;
      held = held.texts;
      in_step = texts_are_in_step c.check_names c.steps c.encoding held.whole
          (first_are_pairs (IsPairIn c.check_names c.encoding) held.whole all first are);
    }))
    left
