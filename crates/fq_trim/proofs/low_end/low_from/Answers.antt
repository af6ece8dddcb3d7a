use Rattle.std.proofs.Common.{arith}
use Rattle.fq_trim.proofs.LowEndLemmas.{lower}
use Rattle.fq_trim.proofs.low_end.low_from.Goals as goal

-- each score after the last high one of the vector is low
pub returns-then-low-lt-TOGETHER-clause-low : goal.returns-then-low-lt-TOGETHER-clause-low
returns-then-low-lt-TOGETHER-clause-low c =
    let old = c.loop-stop.invariant in
    let here = c.low_after-low.ensures in
    lower c.args.offset c.args.score c.loop-stop.stop c.low_after-low.result c.args.qual.now
    c.less_16.result c.loop-stop-test.true old.within c.less_16.ensures here.low old.low
    here.within

-- the scores of a vector that are all low come before those known to be low
pub loop-stop-preserved : goal.loop-stop-preserved
loop-stop-preserved c =
    let old = c.loop-stop.invariant in
    let here = c.low_after-low.ensures in
    let within = old.within in
    record {
      within = omega arith;
      low = λ k from lt.
          lower c.args.offset c.args.score c.loop-stop.stop c.low_after-low.result c.args.qual.now
          c.less_16.result c.loop-stop-test.true old.within c.less_16.ensures here.low old.low
          here.within k (omega arith) lt;
    }
