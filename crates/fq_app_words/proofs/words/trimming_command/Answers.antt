use Rattle.std.proofs.Common.{ap, ◌∙◌}
use Rattle.std.proofs.lemmas.Result.{IfOk-weaker}
use Rattle.clap.specs.Words.{new_app}
use Rattle.clap.specs.Simple.{app_of_fields}
use Rattle.fq_app_words.specs.Words.{IsCommand, option_rules, output_rules}
use Rattle.fq_app_words.proofs.WordLemmas.{more}
use Rattle.fq_app_words.proofs.words.trimming_command.Goals as goal

-- the command that is made has the options, then the inputs, then the outputs and the steps
pub returns : goal.returns
returns c =
    let start : IsCommand (new_app c.args.name.now) c.after_help-start.result = record {
      app_is = ap app_of_fields c.after_help-start.ensures
          ∙ (ap app_of_fields c.about.ensures ∙ c.new.ensures.app);
      local = ap (λ fields. fields.has_globals) c.after_help-start.ensures
          ∙ (ap (λ fields. fields.has_globals) c.about.ensures ∙ c.new.ensures.local);
    } in
    let with_options = more _ _ _ _ option_rules c.in_ok-with_options.ensures
    c.in_ok-options.ensures start in
    IfOk-weaker c.args-4.result _ _ (λ command adds rules are.
    let with_inputs = more _ _ _ _ rules c.in_ok-with_inputs.ensures are with_options in
    more _ _ _ _ output_rules adds c.in_ok-outputs.ensures with_inputs) c.args-4.ensures
