use Rattle.std.proofs.Common.{◌≡◌, ◌++◌, take, drop, map}
use Rattle.fq_text.specs.declared.encoding.Encoding.TheVariants.{Solexa}
use Rattle.fq_report_reads.specs.Counting.{lane_score}
use Rattle.fq_report_reads.proofs.narrow_columns.solexa_scores.Given as goal

-- the first i bytes are converted to scores, and the others are as they were
abbrev pub invariant-loop-i : goal.invariant-loop-i
invariant-loop-i l =
    record {
      converted : l.scores ≡ map (lane_score Solexa) (take l.i l.fn.bytes) ++ drop l.i
          l.fn.bytes;
    }
