use Rattle.std.proofs.Common.{arith}
use Rattle.std.proofs.lemmas.Simd.{bytes_below}
use Rattle.fq_report_reads.proofs.FewLemmas.{word_sums, stored_words}
use Rattle.fq_report_reads.proofs.narrow_rows.add_words.Goals as goal
use Rattle.std.proofs.lemmas.Grind.{common_steps}

-- counts of at most 65,280, with a byte added to each, fit into 16 bits
pub overflow_add-sums : goal.overflow_add-sums
overflow_add-sums c = word_sums c.args.at c.args.counts.now c.args.more c.requires.few
    (bytes_below c.args.more c.fits-more.1)

-- the vector is added to the counts of 16 bits from its place on
pub returns : goal.returns
returns c = grind (arith, common_steps, stored_words, bytes_below)
