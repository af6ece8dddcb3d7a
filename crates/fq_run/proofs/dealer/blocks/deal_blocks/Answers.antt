-- Each block is filled and dealt out, until reading stops.
use Rattle.std.proofs.Common.{◌≡◌, ◌%◌, suc, length, ap, ◌∙◌, arith}
use Rattle.fq_block.specs.Blocks.{Numbered}
use Rattle.fq_run.proofs.dealer.DealerLemmas.{deals_none, deals_more, deals_last}
use Rattle.fq_run.proofs.dealer.blocks.deal_blocks.Goals as goal

-- before the first block nothing is read or dealt out
pub dealing-init : goal.dealing-init
dealing-init g c = record {
  lanes = c.len-lanes.ensures;
  deals = deals_none _ _ _ c.requires.deals.goes _ c.requires.deals.some c.requires.deals.lanes;
  next = c.requires.next;
}

-- when reading stops, the last block is sent unless it is empty, and all blocks are dealt out
pub returns-in-Some-clause-deals : goal.returns-in-Some-clause-deals
returns-in-Some-clause-deals g c =
    let filled = rw c.block_pairs.ensures.pairs at c.in-Some.ensures in
    let some = c.block_pairs.ensures.some in let same = c.block_pairs.ensures.pairs in
    deals_last c.args.settings.now _ _ _ _ _ _ _ _ _ _ _ _ _ c.dealing.invariant.deals filled
    (ap (λ (b : Numbered). b.number) c.ready_block-block.ensures.block)
    (ap (λ (b : Numbered). b.encoding) c.ready_block-block.ensures.block ∙ c.encoding.ensures)
    (c.ready_block-block.ensures.unsent ∙ c.index_mut-ends.ensures.value) c.put_filled.ensures.sends
    c.requires.deals.fresh c.requires.deals.few (omega arith)

-- a full block goes to the lane whose turn it is, and then it is the next lane's turn
pub dealing-preserved : goal.dealing-preserved
dealing-preserved g c =
    let filled = rw c.block_pairs.ensures.pairs at c.fill-why.ensures in
    let some = c.block_pairs.ensures.some in let same = c.block_pairs.ensures.pairs in
    let lanes : c.len-lanes.result ≡ length c.args.to.now.items =
    omega (arith, c.len-lanes.ensures, c.args.to.now.ok.0) in
    record {
      lanes = c.dealing.invariant.lanes;
      deals = deals_more c.args.settings.now _ _ _ _ _ _ _ _ _ _ _ _ _ c.dealing.invariant.deals
          filled (ap (λ (b : Numbered). b.number) c.ready_block-block.ensures.block)
          (ap (λ (b : Numbered). b.encoding) c.ready_block-block.ensures.block ∙ c.encoding.ensures)
          (c.ready_block-block.ensures.unsent ∙ c.index_mut-ends.ensures.value)
          c.put_filled.ensures.sends c.in_default.is (omega arith) c.next_turn-turn.result
          (c.next_turn-turn.ensures.value ∙ ap (λ n. suc c.dealing.turn % n) lanes)
          (omega (arith, c.next_turn-turn.ensures.below));
      next = c.put_filled.ensures.next;
    }
