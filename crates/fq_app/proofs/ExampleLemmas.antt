-- What a run on the example's inputs writes.
use Rattle.std.proofs.Common.{◌≡◌, ◌∙◌, ℕ, IsSome, IfSome, MatchOption, Some, None, Option, List, [], ◌++◌, ap, refl, sym, append_assoc}
use Rattle.fq_pair.specs.declared.out.Out.{Out}
use Rattle.fq_pair.specs.Pairing.{pairs}
use Rattle.fq_pair.specs.Outputs.{texts_of, text_of, counts_of}
use Rattle.fq_pair.specs.Summaries.{summary_of}
use Rattle.fq_run.specs.Choices.{Choices}
use Rattle.std.specs.Option.{option_map}
use Rattle.fq_text.specs.Devices.{OutletState}
use Rattle.fq_run.specs.Devices.{AreHealthy, OutletStates, Took, TookText}
use Rattle.fq_app.specs.Example.{example_choices, example_forward, example_output, example_pairs, example_reverse, example_summary}

module _ (choices : Choices) (forward reverse : List ℕ) (choices_are : choices ≡ example_choices)
    (forward_is : forward ≡ example_forward) (reverse_is : reverse ≡ example_reverse) where
  -- what is defined for each output by these settings and inputs is the example's output
  pub output_is : (out : Out) →
      text_of out (texts_of choices.steps (pairs choices.check_names choices.encoding 0 forward
      reverse).mates) ≡ example_output out
  unfolding example_output example_pairs
  output_is out =
      λ i. text_of out (texts_of (choices_are i).steps (pairs (choices_are i).check_names
      (choices_are i).encoding 0 (forward_is i) (reverse_is i)).mates)

  -- the summary that is defined by these settings and inputs is the example's summary
  pub summary_is : summary_of (counts_of choices.steps (pairs choices.check_names choices.encoding 0
      forward reverse).mates) ≡ example_summary
  unfolding example_summary example_pairs
  summary_is =
      λ i. summary_of (counts_of (choices_are i).steps (pairs (choices_are i).check_names
      (choices_are i).encoding 0 (forward_is i) (reverse_is i)).mates)

-- an empty outlet that took a text has that text
pub took_all : (old new : OutletState) (text wanted : List ℕ) → old.taken ≡ [] → IsSome old.file →
    TookText old new text 0 → text ≡ wanted → new.taken ≡ wanted
took_all old new text wanted empty tells took is = took.bytes tells
    ∙ (ap (λ t. t ++ text) empty ∙ is)

same_bytes : (a b : List ℕ) → ◌≡◌ {A = Option (List ℕ)} (Some a) (Some b) → a ≡ b
same_bytes a b e = cc

-- an outlet that exists, is empty and has not failed
abbrev pub IsThere : {A : Type 0} → (A → OutletState) → Option A → Type 0
IsThere state o = MatchOption o ⊥ (λ a. ((state a).taken ≡ []) × ((state a).failures ≡ 0))

-- an outlet that is there, is empty and has not failed has a state without failures
pub there_healthy : {A : Type 0} (state : A → OutletState) (o : Option A) → IsThere state o →
    IfSome (option_map state o) (λ s. s.failures ≡ 0)
there_healthy state (Some a) there = there.1
there_healthy state None there = absurd there

-- outlets of which none has failed are healthy, with a trim log or without one
pub all_healthy : (o : OutletStates) → o.forward_paired.failures ≡ 0 →
    o.forward_unpaired.failures ≡ 0 → o.reverse_paired.failures ≡ 0 →
    o.reverse_unpaired.failures ≡ 0 →
    IfSome o.log (λ log. log.failures ≡ 0) → AreHealthy o
all_healthy o fp fu rp ru log = record {
  forward_paired = fp;
  forward_unpaired =
      fu;
  reverse_paired = rp;
  reverse_unpaired = ru;
  log = log;
}

-- an empty outlet that took a text holds that text
pub log_took : {A : Type 0} (state : A → OutletState) (old new : Option A) (text left : List ℕ) →
    IsThere state old → ((a : A) → IsSome (state a).file) →
    Took (option_map state old) (option_map state new) text 0 →
    option_map (λ a. (state a).taken) new ≡ Some left → left ≡ text
log_took state (Some o) (Some a) text left there tells took is = sym (same_bytes _ _ is)
    ∙ took_all (state o) (state a) text text there.0 (tells o) took refl
log_took state (Some o) None text left there tells took is = absurd took
log_took state None new text left there tells took is = absurd there

-- six texts, one after the other
pub six_appended : (t0 t1 t2 t3 t4 t5 t6 a b c d e f : List ℕ) → t0 ≡ [] → t1 ≡ t0 ++ a →
    t2 ≡ t1 ++ b → t3 ≡ t2 ++ c → t4 ≡ t3 ++ d → t5 ≡ t4 ++ e → t6 ≡ t5 ++ f →
    t6 ≡ a ++ (b ++ (c ++ (d ++ (e ++ f))))
six_appended t0 t1 t2 t3 t4 t5 t6 a b c d e f e0 e1 e2 e3 e4 e5 e6 =
    let one : t1 ≡ a = e1 ∙ ap (λ t. t ++ a) e0 in
    let all : t6 ≡ ((((a ++ b) ++ c) ++ d) ++ e) ++ f = e6
    ∙ ap (λ t. t ++ f) (e5 ∙ ap (λ t. t ++ e) (e4 ∙ ap (λ t. t ++ d) (e3
    ∙ ap (λ t. t ++ c) (e2 ∙ ap (λ t. t ++ b) one)))) in
    all ∙ simp append_assoc
