use Rattle.std.proofs.Common.{arith}
use Rattle.fq_report_reads.proofs.FewLemmas.{byte_sums, stored_bytes}
use Rattle.fq_report_reads.proofs.narrow_rows.add_bytes.Goals as goal
use Rattle.std.proofs.lemmas.Grind.{common_steps}

-- counts of at most 254, with at most 1 added to each, fit into 8 bits
pub overflow_add-sums : goal.overflow_add-sums
overflow_add-sums c = byte_sums c.args.at c.args.counts.now c.args.more c.requires.few
    c.requires.ones

-- the vector is added to the counts of 8 bits from its place on
pub returns : goal.returns
returns c = grind (arith, common_steps, stored_bytes)
