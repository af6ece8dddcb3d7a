use Rattle.std.proofs.Common.{◌≤◌, ◌-◌, ◌*◌, take, drop}
use Rattle.fq_report_reads.specs.Parts.{IsCount}
use Rattle.fq_report_reads.proofs.bases.count_of.Given as goal

-- the bases before this place are counted, and the sum of their bytes is not too large
abbrev pub invariant-loop-at : goal.invariant-loop-at
invariant-loop-at l = record {
  begun : l.fn.from ≤ l.at;
  within : l.at ≤ l.fn.to;
  count : IsCount l.fn.low l.fn.high (take (l.at - l.fn.from) (drop l.fn.from l.seq))
      (take (l.at - l.fn.from) (drop l.fn.from l.qual)) l.counted;
  most : l.counted.sum ≤ 65536 * (l.at - l.fn.from);
}

-- the number of bases that are not counted yet
abbrev pub decreases-loop-at : goal.decreases-loop-at
decreases-loop-at l = l.fn.to - l.at
