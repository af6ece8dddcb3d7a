use Rattle.std.proofs.Common.{get_or, arith}
use Rattle.std.proofs.lemmas.List.Sums.{sum_by_more}
use Rattle.fq_text.specs.declared.encoding.Encoding.TheVariants.{Solexa}
use Rattle.fq_text.specs.Scores.{is_scored}
use Rattle.fq_text.proofs.ScoreLemmas.{at_place, value_small}
use Rattle.fq_trim.proofs.PlaceLemmas.{length-scores, score_at}
use Rattle.fq_report_reads.proofs.bases.solexa_sum.Goals as goal
use Rattle.std.proofs.lemmas.Grind.{common_steps}

-- with the score of one more byte, the sum is that of the scores up to it
pub loop-byte-preserved : goal.loop-byte-preserved
loop-byte-preserved c =
    grind (
      arith,
      common_steps,
      length-scores Solexa c.args.qual.now,
      score_at Solexa
          c.args.qual.now c.loop-byte.byte-index,
      value_small Solexa (get_or c.args.qual.now
          c.loop-byte.byte-index 0),
      at_place (is_scored Solexa) c.args.qual.now c.loop-byte.byte-index
          c.requires.scored,
      sum_by_more,
      c.phred.ensures,
      c.from-sum.ensures,
    )
