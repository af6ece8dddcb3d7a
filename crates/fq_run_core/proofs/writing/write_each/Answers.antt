-- Each block is gathered and written, until a write fails or reading stops.
use Rattle.std.proofs.Common.{arith}
use Rattle.fq_run_core.proofs.GatherLemmas.{end_is, end_none}
use Rattle.fq_run_core.proofs.OutletLemmas.{still_healthy}
use Rattle.fq_run_core.proofs.PassLemmas.{wrote_more, passes_broken, passes_whole}
use Rattle.fq_run_core.proofs.writing.write_each.Goals as goal

-- no outlet has failed in the blocks so far
pub write_block-why-requires-clause-outlets : goal.write_block-why-requires-clause-outlets
write_block-why-requires-clause-outlets g c = let w = c.writing.invariant in
    still_healthy _ _ _ c.requires.outlets w.took

-- if a write fails, the blocks before it are complete, and this one is begun
pub returns-in-Err : goal.returns-in-Err
returns-in-Err g c =
    let block = c.write_block-why.ensures in
    let gathered = rw (c.steps-steps.ensures, c.block_pairs-most.ensures.pairs) at block.gathers in
    passes_broken c.args.settings.now _ _ c.in-Err.out c.writing.invariant gathered
    (rw c.in-Err.is at block.sends)
    (rw c.in-Err.is at block.uncounted)

-- if reading has stopped, the blocks before and this last one are complete
pub returns-then-is_some : goal.returns-then-is_some
returns-then-is_some g c =
    let block = c.write_block-why.ensures in
    let gathered = rw (c.steps-steps.ensures, c.block_pairs-most.ensures.pairs) at block.gathers in
    passes_whole c.args.settings.now _ _ c.writing.invariant gathered
    (rw c.in_default.is at block.sends) c.requires.fresh c.requires.few
    (omega (arith, c.block_pairs-most.ensures.most, c.block_pairs-most.ensures.pairs))
    (end_is _ _ c.is_some.ensures c.if-is_some.true)
    (rw c.in_default.is at block.counted)

-- if the block is full and was written, there is one more complete block
pub writing-preserved : goal.writing-preserved
writing-preserved g c =
    let block = c.write_block-why.ensures in
    let gathered = rw (c.steps-steps.ensures, c.block_pairs-most.ensures.pairs) at block.gathers in
    wrote_more c.args.settings.now _ _ c.writing.invariant gathered
    (rw c.in_default.is at block.sends) c.requires.fresh c.requires.few
    (omega (arith, c.block_pairs-most.ensures.most, c.block_pairs-most.ensures.pairs))
    (end_none _ _ c.is_some.ensures c.if-is_some.false)
    (rw c.in_default.is at block.counted)
