use Rattle.std.proofs.Common.{◌≡◌, ◌+◌, ◌-◌, ◌<◌, [], length, map, get_or, drop, replicate, arith, take, ◌∷◌, ap, ap₂, sym, ◌∙◌, Ok, Err, refl, List, ◌++◌, Result, ℕ, suc, set, ◌≤◌, true, is_ok, zero}
use Rattle.std.specs.List.{list_all}
use Rattle.std.proofs.lemmas.Bool.{and_from, ne_eqb, le-ltb}
use Rattle.std.proofs.lemmas.List.{get_or-map, get_or-take, length-map, length-take, length-set, drop-set-lt, drop-drop, drop-replicate, take_more, take_more_set, take_all, map-append}
use Rattle.std.proofs.lemmas.List.Folds.{list_all-append}
use Rattle.std.proofs.lemmas.Grind.{common_steps}
use Rattle.fq_trim.specs.declared.step.Step.{Step}
use Rattle.fq_trim.specs.declared.step.Step.TheVariants.{ToPhred33}
use Rattle.fq_trim.specs.declared.fault.StepFaultKind.{StepFaultKind}
use Rattle.fq_trim.specs.Keeping.{is_in_range}
use Rattle.fq_trim.specs.Words.{step_of, steps_from, steps_of}
use Rattle.fq_trim.proofs.steps.Steps.parse.Goals as goal

-- what each argument gives, if it is a step
abbrev given : List Step → List (Result Step StepFaultKind)
given steps = map Ok steps

-- arguments that are all steps give these steps
all_steps : (place : ℕ) (words : List (List ℕ)) (steps : List Step) →
    given steps ≡ map step_of words → steps_from place words ≡ Ok steps
all_steps place [] [] is = refl
all_steps place [] (step ∷ steps) is = cc
all_steps place (word ∷ words) [] is = cc
all_steps place (word ∷ words) (step ∷ steps) is =
    grind (arith, common_steps, all_steps (suc place) words steps)

module _ {kind : StepFaultKind} where
  -- the first argument that is no step is the fault of the list
  first_fault : (place at i : ℕ) (words : List (List ℕ)) (steps : List Step) → i < length words →
      at ≡ place + i → given steps ≡ take i (map step_of words) →
      step_of (get_or words i []) ≡ Err kind →
      steps_from place words ≡ Err (record { place = at; kind = kind })
  first_fault place at i [] steps lt is_at so_far is = absurd (omega arith)
  first_fault place at zero (word ∷ words) steps lt is_at so_far is = grind (arith, common_steps)
  first_fault place at (suc i) (word ∷ words) [] lt is_at so_far is = cc
  first_fault place at (suc i) (word ∷ words) (step ∷ steps) lt is_at so_far is =
      grind (arith, common_steps, first_fault (suc place) at i words steps)

-- each argument before it is a step
is_step : (words : List (List ℕ)) (steps : List Step) (i k : ℕ) → i ≤ length words → k < i →
    given steps ≡ take i (map step_of words) → is_ok (step_of (get_or words k [])) ≡ true
is_step words steps i k le lt so_far =
    let results = map step_of words in
    let size = ap length so_far in
    ap is_ok (sym (get_or-map step_of words k [] (step_of []) (omega arith))
    ∙ sym (get_or-take i results k (step_of []) lt)
    ∙ ap (λ rs. get_or rs k (step_of [])) (sym so_far)
    ∙ get_or-map Ok steps k ToPhred33 (step_of [])
    (omega (
      arith,
      length-map {B = Result Step StepFaultKind} steps Ok,
      length-take i results,
      length-map words step_of,
    )))

-- one more argument is a step, and is held after the steps before it
one_more : (words : List (List ℕ)) (held : List Step) (i : ℕ) (step : Step) → i < length words →
    i < length held → given (take i held) ≡ take i (map step_of words) →
    step_of (get_or words i []) ≡ Ok step →
    given (take (i + 1) (set held i step)) ≡ take (i + 1) (map step_of words)
one_more words held i step lt room so_far is =
    ap given (take_more_set held i step room) ∙ map-append Ok (take i held) (step ∷ [])
    ∙ ap₂ (λ rs r. rs ++ (r ∷ [])) so_far
    (sym (get_or-map step_of words i [] (step_of []) lt ∙ is))
    ∙ sym (take_more (map step_of words) i (step_of []) (omega (arith, length-map words step_of)))

-- 1 to 64 arguments
steps_of_few : (words : List (List ℕ)) → 0 < length words → length words ≤ 64 →
    steps_of words ≡ steps_from 1 words
steps_of_few words some few = grind (arith, common_steps, ne_eqb, le-ltb)

its_fault : (c : goal.In-Err) →
    step_of (get_or (map (λ word. word.now) c.args.words.now) c.loop-i.i []) ≡ Err c.in-Err.kind
its_fault c =
    ap step_of (get_or-map (λ word. word.now) c.args.words.now c.loop-i.i _ [] c.loop-i-test.true)
    ∙ sym c.in-Err.ensures.value

-- the fault of an argument after steps is the fault of the list
pub returns-in-Err-clause-value : goal.returns-in-Err-clause-value
returns-in-Err-clause-value c =
    grind (
      arith,
      common_steps,
      length-map,
      steps_of_few,
      first_fault {kind = c.in-Err.kind} 1 (c.loop-i.i + 1) c.loop-i.i,
      its_fault c,
    )

-- the fault is that of the first faulty argument
pub returns-in-Err-clause-first : goal.returns-in-Err-clause-first
returns-in-Err-clause-first c =
    let words = map (λ word. word.now) c.args.words.now in
    let len = length-map c.args.words.now (λ word. word.now) in
    let i = c.loop-i.i in
    let place : i + 1 - 1 ≡ i = omega arith in
    record {
      none = λ empty. absurd (omega arith);
      many = λ more. absurd (omega arith);
      first = λ some few. record {
        some = omega arith;
        within = omega arith;
        fault = ap (λ n. step_of (get_or words n [])) place ∙ its_fault c;
        before = λ k lt. is_step words (take i c.loop-i.held) i k (omega arith) (omega arith)
            c.loop-i.invariant.so_far;
      };
    }

-- the steps of all arguments
pub returns-clause-value : goal.returns-clause-value
returns-clause-value c =
    grind (arith, common_steps, length-map, take_all, steps_of_few, all_steps)

-- each argument gives its step
pub returns-clause-all : goal.returns-clause-all
returns-clause-all c =
    grind (arith, common_steps, length-map, take_all)

-- the step of the next argument is held after those before it
pub loop-i-preserved : goal.loop-i-preserved
loop-i-preserved c =
    let words = map (λ word. word.now) c.args.words.now in
    let i = c.loop-i.i in
    let held = c.loop-i.held in
    let step = c.in-Ok.step in
    let old = c.loop-i.invariant in
    let whole = old.whole in
    let len = length-map c.args.words.now (λ word. word.now) in
    let lt : i < length words = omega arith in
    let room : i < length held = omega arith in
    let is : step_of (get_or words i []) ≡ Ok step =
    ap step_of (get_or-map (λ word. word.now) c.args.words.now i _ [] c.loop-i-test.true)
    ∙ sym c.in-Ok.ensures.value in
    let left : 64 - i - 1 ≡ 64 - (i + 1) = omega arith in
    record {
      whole = length-set held i step ∙ whole;
      filled = drop-set-lt (i + 1) held i step (omega arith) ∙ sym (drop-drop 1 i held)
          ∙ ap (drop 1) old.filled ∙ drop-replicate 1 (64 - i) ToPhred33
          ∙ ap (λ n. replicate n ToPhred33) left;
      in_range = ap (list_all is_in_range) (take_more_set held i step room)
          ∙ list_all-append is_in_range (take i held) (step ∷ [])
          ∙ and_from _ _ old.in_range (and_from _ _ c.in-Ok.ensures.in_range refl);
      so_far = one_more words held i step lt room old.so_far is;
    }
