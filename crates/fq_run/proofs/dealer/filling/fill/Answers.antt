-- Each pair that is read goes into the block, until memory for one is refused or none is left.
use Rattle.std.proofs.Common.{arith}
use Rattle.fq_run_core.proofs.WalkLemmas.{of_in_hand}
use Rattle.fq_run.proofs.dealer.DealerLemmas.{filled_more, fills_refused}
use Rattle.fq_run.proofs.dealer.filling.fill.Goals as goal

-- if memory for a pair is refused, the block has the pairs before it
pub returns-in-Err-push_named : goal.returns-in-Err-push_named
returns-in-Err-push_named g c = let i = c.loop.invariant in let goes = i.goes in
    let asked = rw c.in-Ok-true.field-0-test at c.in-Ok-true.ensures in
    let read = of_in_hand _ _ _ c.pair_in_hand-pair.ensures (asked.advances goes.last) in
    fills_refused _ _ _ _ _ _ c.loop.invariant _ _ _ _ (omega arith) read
    c.in-Err-push_named.ensures.err

-- a pair that was read and pushed is one more pair of the block
pub loop-preserved : goal.loop-preserved
loop-preserved g c = let i = c.loop.invariant in let goes = i.goes in
    let asked = rw c.in-Ok-true.field-0-test at c.in-Ok-true.ensures in
    let read = of_in_hand _ _ _ c.pair_in_hand-pair.ensures (asked.advances goes.last) in
    filled_more _ _ _ _ _ _ _ _ c.loop.invariant read asked.within
    c.in_default.ensures.ok
