use Rattle.std.proofs.Common.{◌≡◌, ◌≤◌, ◌-◌, length, take}
use Rattle.fq_report_reads.specs.Columns.{columns_from, columns_plus}
use Rattle.fq_report_reads.proofs.narrow_columns.NarrowColumns.count.Given as goal

-- the bases before this place are counted
abbrev pub invariant-loop-from : goal.invariant-loop-from
invariant-loop-from l = record {
  within : l.from ≤ length l.seq;
  counted : l.self ≡ columns_plus l.fn.self (columns_from l.fn.at l.fn.encoding (take l.from l.seq)
      (take l.from l.qual));
}

-- the number of bases that are not counted yet
abbrev pub decreases-loop-from : goal.decreases-loop-from
decreases-loop-from l = length l.seq - l.from
