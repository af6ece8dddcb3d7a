-- What a run leaves in its outlets is in step.
use Rattle.std.proofs.Common.{◌≡◌, ◌<◌, ◌≤◌, ◌==◌, ℕ, nat_lt, if◌then◌else◌, Some, None, Option, List, [], ◌++◌, drop, refl, ap, sym, subst, ◌∙◌, inl, inr, ⊎_elim, arith}
use Rattle.std.proofs.lemmas.Grind.{common_steps}
use Rattle.std.proofs.lemmas.List.{take-append-drop}
use mathlib.Core.List.{IsPrefix}
use Rattle.fq_text.specs.Devices.{OutletState}
use Rattle.fq_pair.specs.declared.out.Out.{Out}
use Rattle.fq_pair.specs.declared.counts.Counts.{Counts}
use Rattle.fq_pair.specs.Mates.{Mates}
use Rattle.fq_pair.specs.Outputs.{texts_of, text_of}
use Rattle.fq_pair.specs.Pairing.{Pairs}
use Rattle.fq_pair.proofs.OutputLaws.{texts_of-append}
use Rattle.fq_trim.specs.declared.step.Step.{Step}
use Rattle.fq_run_core.specs.Choices.{Choices}
use Rattle.fq_run_core.specs.Devices.{OutletStates, Took, OutletsTook, outlet_at, place}
use Rattle.fq_run_core.specs.Endings.{AreFirst, all_pairs}
use Rattle.fq_run_core.specs.Fates.{Fate, Unbroken, FlushFailed, WriteFailed, failed_outlet, block_begun, part_begun}
use Rattle.fq_run_core.specs.Outcomes.{rank}
use Rattle.fq_app_files.specs.Trimming.{IsEmptyOutlet, pairs_of}
use Rattle.fq_law_in_step.specs.InStep.{IsPairIn, AreInStep}
use Rattle.fq_law_runs.specs.Runs.{HaveTaken, WholeRunsAreInStep, EndingsAreInStep, BeginsText, OutletsBeginTexts, FilesBeginTexts}
use Rattle.fq_law_in_step.proofs.TextLemmas.{inputs_give_pairs}
use Rattle.fq_law_in_step.proofs.InStepLemmas.{texts_are_in_step}
use Rattle.fq_app.proofs.FileLemmas.{still_first, first_are_pairs}

-- an outlet that began empty has taken its text
has_taken : (old new : Option OutletState) (text : List ℕ) (failed : ℕ) → Took old new text failed →
    (before after : OutletState) → old ≡ Some before → IsEmptyOutlet before → new ≡ Some after →
    after.taken ≡ text
has_taken (Some old) (Some new) text failed took before after was empty is =
    grind (arith, common_steps, empty.tells, empty.taken)
has_taken (Some old) None text failed took before after was empty is = absurd took
has_taken None new text failed took before after was empty is = absurd (cc was)

have_taken : (old new : OutletStates) (texts : Out → List ℕ) (failed : Option Out) →
    OutletsTook old new texts failed → HaveTaken old new texts
have_taken old new texts failed took out =
    has_taken (outlet_at out old) (outlet_at out new) (texts out) _ (took out)

-- if a run trimmed all pairs, what its outlets took is in step with its counts
pub whole_runs : WholeRunsAreInStep
whole_runs c run trimmed =
    let ms = (all_pairs c run).mates in
    let texts : Out → List ℕ = λ out. text_of out (texts_of c.steps ms) in
    record {
      texts = texts;
      taken = have_taken run.outlets run.outlets_left texts None trimmed.took;
      in_step =
          subst (λ (counts : Counts). AreInStep c.check_names c.steps c.encoding ms counts texts)
          (sym trimmed.counts)
          (texts_are_in_step c.check_names c.steps c.encoding ms
          (inputs_give_pairs run.form c.check_names c.encoding run.forward.to_come
          run.reverse.to_come));
    }

-- Other endings.

nothing_failed : (fate : Fate) (n : ℕ) → ((out : Out) → failed_outlet fate ≡ Some out → n ≤ 5) →
    5 < n → fate ≡ Unbroken
nothing_failed Unbroken n few many = refl
nothing_failed (FlushFailed out) n few many = let h = few out refl in absurd (omega arith)
nothing_failed (WriteFailed out sent block) n few many = let h = few out refl in
    absurd (omega arith)

-- at each ending but `Lane`, what outlets took of complete blocks is in step with the counts
pub endings : EndingsAreInStep
endings c run every told =
    let all = (all_pairs c run).mates in
    let whole = every.whole in
    let texts : Out → List ℕ = λ out. text_of out (texts_of c.steps whole) in
    let first = still_first whole (block_begun every.fate) all (every.first told) in
    let are = inputs_give_pairs run.form c.check_names c.encoding run.forward.to_come
    run.reverse.to_come in
    record {
      whole = whole;
      fate = every.fate;
      texts = texts;
      first = first;
      taken = have_taken run.outlets run.outlets_left
          (λ out. texts out ++ part_begun c.steps every.fate out) (failed_outlet every.fate)
          every.took;
      unbroken = nothing_failed every.fate (rank run.outcome) every.outcome.outlet_failed;
      in_step =
          subst (λ (counts : Counts). AreInStep c.check_names c.steps c.encoding whole counts texts)
          (sym every.counts)
          (texts_are_in_step c.check_names c.steps c.encoding whole
          (first_are_pairs (IsPairIn c.check_names c.encoding) whole all first are));
    }

-- A run that is killed.

-- what went out of a block is a first part of its text
begun_first : (steps : List Step) (fate : Fate) (out : Out) →
    IsPrefix (part_begun steps fate out) (text_of out (texts_of steps (block_begun fate)))
begun_first steps (WriteFailed failed sent block) out =
    let text = text_of out (texts_of steps block) in (
      if nat_lt (place out) (place failed) then []
          else (if place out == place failed then drop sent text else text),
      grind (arith, common_steps, take-append-drop),
    )
begun_first steps _ out = (_, refl)

text_then : (steps : List Step) (out : Out) (xs ys : List Mates) →
    text_of out (texts_of steps (xs ++ ys))
    ≡ text_of out (texts_of steps xs) ++ text_of out (texts_of steps ys)
text_then steps out xs ys = grind (arith, common_steps, texts_of-append)

first_part : (part whole begun block others text : List ℕ) → IsPrefix part (whole ++ begun) →
    IsPrefix begun block → text ≡ whole ++ block ++ others → IsPrefix part text
first_part part whole begun block others text begins fits is =
    (begins.0 ++ fits.0 ++ others, grind (arith, common_steps, begins.1, fits.1))

-- so the text of first pairs begins the text of all, with what went out of the block after them
first_texts : (c : Choices) (all : Pairs) (whole : List Mates) (fate : Fate) (out : Out) →
    AreFirst (whole ++ block_begun fate) all.mates →
    BeginsText c all out (text_of out (texts_of c.steps whole) ++ part_begun c.steps fate out)
first_texts c all whole fate out first part begins =
    let block = block_begun fate in
    let text : List Mates → List ℕ = λ ms. text_of out (texts_of c.steps ms) in
    first_part part (text whole) (part_begun c.steps fate out) (text block) (text first.0) _ begins
    (begun_first c.steps fate out)
    (ap text first.1 ∙ text_then c.steps out (whole ++ block) first.0
    ∙ ap (λ (xs : List ℕ). xs ++ text first.0) (text_then c.steps out whole block))

-- what an outlet has taken begins as the text of all pairs
pub outlets_begin : OutletsBeginTexts
outlets_begin c run every told out before after was empty is part begins =
    first_texts c (all_pairs c run) every.whole every.fate out (every.first told) part
    (subst (IsPrefix part) (have_taken run.outlets run.outlets_left
    (λ out. text_of out (texts_of c.steps every.whole) ++ part_begun c.steps every.fate out)
    (failed_outlet every.fate) every.took out before after was empty is) begins)

-- so does the file of each output, if trimming had begun
pub files_begin : FilesBeginTexts
files_begin a tells c old new forward reverse settings forward_is reverse_is left =
    ⊎_elim (λ untrimmed. inl untrimmed) (λ ended. let held = ended.1 in
    let all = pairs_of held.choices a.inputs.form held.forward held.reverse in
    inr (λ out name own. (
      _,
      held.texts out name own,
      λ part begins.
          let same : text_of out (texts_of held.choices.steps all.mates)
          ≡ text_of out (texts_of c.steps (pairs_of c a.inputs.form forward reverse).mates) = cc in
          subst (IsPrefix part) same
          (first_texts held.choices all held.whole held.fate out held.first part begins),
    ))) left
