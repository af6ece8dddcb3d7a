use Rattle.std.proofs.Common.{◌≡◌, map, take}
use Rattle.serde_json.specs.View.{view}
use Rattle.fq_report.specs.Values.{count}
use Rattle.fq_report.proofs.counted.counts_value.Given as goal

-- the values are the numbers so far
abbrev pub invariant-loop-number : goal.invariant-loop-number
invariant-loop-number l = map view l.values.items ≡ map count (take l.number-index l.rows)
