use Rattle.std.proofs.Common.{◌≡◌, take}
use Rattle.fq_report_reads.specs.Columns.{columns_from, columns_plus}
use Rattle.fq_report_reads.proofs.columns.Columns.count.Given as goal

-- the first i bases are counted
abbrev pub invariant-loop-i : goal.invariant-loop-i
invariant-loop-i l = record {
  counted : l.self ≡ columns_plus l.fn.self (columns_from l.fn.at l.fn.encoding (take l.i l.seq)
      (take l.i l.qual));
}
