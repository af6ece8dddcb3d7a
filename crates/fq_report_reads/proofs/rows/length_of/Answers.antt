use Rattle.std.proofs.Common.{arith}
use Rattle.fq_report_reads.proofs.rows.length_of.Goals as goal

-- no row counts more than a u64 can hold
pub returns-clause-counts : goal.returns-clause-counts
returns-clause-counts c = λ k. let small = (c.type_inv.counts k).fits in omega arith
