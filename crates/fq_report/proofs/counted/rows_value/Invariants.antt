use Rattle.std.proofs.Common.{◌≡◌, ◌++◌, map, drop}
use Rattle.serde_json.specs.View.{view}
use Rattle.fq_report.specs.Reports.{rows_from}
use Rattle.fq_report.proofs.counted.rows_value.Given as goal

-- the values and the rows to come are all rows
abbrev pub invariant-loop-number : goal.invariant-loop-number
invariant-loop-number l = map view l.values.items ++ rows_from l.number (drop l.number l.rows)
    ≡ rows_from 0 l.rows
