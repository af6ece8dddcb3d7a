-- After each round of the loop the block has one more pair.
use Rattle.fq_run.proofs.dealer.DealerLemmas.{Filled}
use Rattle.fq_run.proofs.dealer.filling.fill.Given as goal

-- the block has as many pairs as there were turns
abbrev pub invariant-loop : goal.invariant-loop
invariant-loop g l =
    let s = g.S.PairReader in
    Filled (s.state l.fn.source) (s.state l.source)
    l.fn.block l.block l.counter
