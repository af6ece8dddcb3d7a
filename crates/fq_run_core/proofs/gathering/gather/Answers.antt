-- Each pair that is read goes to the block's texts and tally, until memory is refused or no pair is
-- left.
use Rattle.std.proofs.Common.{arith, refl}
use Rattle.fq_run_core.proofs.WalkLemmas.{of_in_hand}
use Rattle.fq_run_core.proofs.GatherLemmas.{gathered_more, gathers_refused}
use Rattle.fq_run_core.proofs.gathering.gather.Goals as goal

-- if memory for a pair is refused, the block has the pairs before it
pub returns-in-Err-add : goal.returns-in-Err-add
returns-in-Err-add g c = let i = c.loop.invariant in let goes = i.goes in
    let asked = rw c.in-Ok-true.field-0-test at c.in-Ok-true.ensures in
    let read = of_in_hand _ _ _ c.pair_in_hand-pair.ensures (asked.advances goes.last) in
    gathers_refused c.args.steps.now c.args.tally.now _ _ _ _ _ _ _ _ _ _ _ (omega arith)
    c.loop.invariant read c.in-Err-add.ensures.err c.in-Err-add.ensures.kept

-- a pair that was read and added is one more pair of the block
pub loop-preserved : goal.loop-preserved
loop-preserved g c = let i = c.loop.invariant in let goes = i.goes in
    let asked = rw c.in-Ok-true.field-0-test at c.in-Ok-true.ensures in
    let pair = c.pair_in_hand-pair.result in
    let read = of_in_hand _ _ _ c.pair_in_hand-pair.ensures (asked.advances goes.last) in
    gathered_more c.args.steps.now c.args.tally.now _ _ _ _ _ _ _ _ _ c.loop.invariant
    read asked.within pair.forward pair.reverse refl refl
    c.in_default.ensures.ok c.in_default.ensures.tally
