use Rattle.std.proofs.Common.{◌≡◌, ◌≤◌, ◌<◌, ℕ, length, take, get_or, replicate, vec_capacity}
use Rattle.fq_report_reads.specs.Rows.{rows_plus}
use Rattle.fq_report_reads.specs.Tables.{counts_of}
use Rattle.fq_report_reads.proofs.rows.Rows.add_table.Given as goal

abbrev pub invariant-loop-i : goal.invariant-loop-i
invariant-loop-i l = record {
  sum : l.self-inside.counts.items
      ≡ rows_plus (rows_plus l.fn.self (replicate (length (counts_of l.table)) 0))
      (take l.i (counts_of l.table));
  small : (k : ℕ) → k < l.i → get_or (counts_of l.table) k 0 ≤ 18446744073709551615;
  room : 10002 ≤ vec_capacity l.self-inside.counts;
}
