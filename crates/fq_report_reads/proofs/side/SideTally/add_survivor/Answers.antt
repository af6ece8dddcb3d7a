use Rattle.std.proofs.Common.{arith}
use Rattle.fq_report_reads.proofs.SideLemmas.{kept_counts, survivor}
use Rattle.fq_report_reads.proofs.side.SideTally.add_survivor.Goals as goal

-- if the mate survives, the counts of what is left are those of a read of its length
pub add-requires-then-mate_survives : goal.add-requires-then-mate_survives
add-requires-then-mate_survives c = grind (arith, kept_counts)

-- if the mate is dropped, the counts of what is left are those of a read of its length
pub add-requires-else-mate_survives : goal.add-requires-else-mate_survives
add-requires-else-mate_survives c = grind (arith, kept_counts)

-- the read is counted: whole, what is left by whether its mate survives, and what was removed
pub returns : goal.returns
returns c = grind (arith, survivor)
