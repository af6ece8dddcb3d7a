use Rattle.std.proofs.Common.{◌≡◌, ◌∙◌, ◌^◌, true, false, List, [], ◌∷◌, Result, Ok, codes, ap, refl}
use Rattle.fq_text.specs.declared.encoding.Encoding.TheVariants.{Sanger}
use Rattle.fq_trim.specs.declared.step.Step.{Step}
use Rattle.fq_trim.specs.declared.step.Step.TheVariants.{Leading}
use Rattle.fq_trim.specs.declared.fault.StepFault.{StepFault}
use Rattle.fq_trim.specs.Words.{steps_of}
use Rattle.fq_run.specs.BadSetting.{BadSetting}
use Rattle.fq_run.specs.Choices.{Choices, checked}
use Rattle.fq_app.specs.Example.{example_choices}
use Rattle.fq_app.proofs.example.settings.Goals as goal

choices_with : List Step → Choices
choices_with steps = record {
  encoding = Sanger;
  steps = steps;
  check_names = true;
  workers = 2;
  block_pairs = 1;
  depth = 4;
  chunk = 65536;
  max_reads = 2 ^ 40;
  gate_turns = 2 ^ 40;
  tallied = false;
}

one_step : steps_of (codes "LEADING:3" ∷ []) ≡ Ok (Leading 3 ∷ [])
one_step = refl

in_range : checked (choices_with (Leading 3 ∷ [])) ≡ Ok example_choices
unfolding choices_with example_choices
in_range = refl

same_steps : (a b : List Step) → ◌≡◌ {A = Result (List Step) StepFault} (Ok a) (Ok b) → a ≡ b
same_steps a b e = cc

same_choices : (a b : Choices) → ◌≡◌ {A = Result Choices BadSetting} (Ok a) (Ok b) → a ≡ b
same_choices a b e = cc

-- the settings that are made are those of the example
pub returns : goal.returns
unfolding choices_with
returns c =
    let steps_are = same_steps c.in-Ok.steps (Leading 3 ∷ []) (c.in-Ok.ensures.value ∙ one_step) in
    same_choices c.in-Ok-new.settings example_choices (c.in-Ok-new.ensures
    ∙ (ap (λ steps. checked (choices_with steps)) steps_are ∙ in_range))
