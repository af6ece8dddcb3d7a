use Rattle.std.proofs.Common.{◌≡◌, ◌++◌, map, drop}
use Rattle.serde_json.specs.View.{view}
use Rattle.fq_report.specs.Reports.{steps_from}
use Rattle.fq_report.proofs.counted.steps_value.Given as goal

-- the values and the steps to come are all steps
abbrev pub invariant-loop-number : goal.invariant-loop-number
invariant-loop-number l =
    let words = map (λ word. word.now) l.words in
    map view l.steps.items ++ steps_from l.number (drop l.number words) l.tally
    ≡ steps_from 0 words l.tally
