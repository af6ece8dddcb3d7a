use Rattle.std.proofs.Common.{◌≡◌, drop}
use Rattle.fq_report_reads.specs.Rows.{counted_all}
use Rattle.fq_report_reads.proofs.steps.StepsTally.add.Given as goal

-- the numbers to come complete the count of all
abbrev pub invariant-loop-number : goal.invariant-loop-number
invariant-loop-number l = record {
  shortened : counted_all (drop l.number-index l.number-items) l.self.shortened
      ≡ counted_all l.trimmed.shortened l.fn.self.shortened;
  dropped : l.self.dropped ≡ l.fn.self.dropped;
}
