use Rattle.std.proofs.Common.{◌≡◌, List, map, ap, ◌∙◌, arith, rules}
use Rattle.std.proofs.lemmas.List.{get_or-map, length-map}
use Rattle.serde_json.specs.declared.value.Value.{Array, the_lemmas}
use Rattle.serde_json.specs.Data.{Data, array}
use Rattle.serde_json.specs.View.{view, items_of}
use Rattle.fq_report.proofs.StepLemmas.{next_step, all_steps}
use Rattle.fq_report.proofs.counted.steps_value.Goals as goal

-- with the value of one more step, the values and the steps to come are all steps
pub loop-number-preserved : goal.loop-number-preserved
loop-number-preserved c = grind (arith, next_step, get_or-map, length-map)

-- after the last step the values are those of all steps
pub returns : goal.returns
returns c =
    let words = map (λ word. word.now) c.args.words.now in
    let size = length-map c.args.words.now (λ word. word.now) in
    let built : view (Array c.loop-number.steps)
    ≡ array (items_of (map view c.loop-number.steps.items)) = search (rules, the_lemmas) in
    built ∙ ap (λ (ds : List Data). array (items_of ds))
    (all_steps c.loop-number.steps.items c.loop-number.number words c.args.tally.now
    (omega arith) c.loop-number.invariant)
