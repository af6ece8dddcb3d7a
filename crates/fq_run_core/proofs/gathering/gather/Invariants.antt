-- After each round of the loop the texts and the tally have one more pair.
use Rattle.fq_run_core.proofs.GatherLemmas.{Gathered}
use Rattle.fq_run_core.proofs.gathering.gather.Given as goal

-- as many pairs as there were turns are read, and their texts and tally made
abbrev pub invariant-loop : goal.invariant-loop
invariant-loop g l =
    let s = g.S.PairReader in
    Gathered (s.state l.fn.source) (s.state l.source) l.fn.steps l.fn.tally l.tally l.done
    l.counter
