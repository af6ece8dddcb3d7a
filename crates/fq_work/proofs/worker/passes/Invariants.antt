use Rattle.std.proofs.Common.{◌≡◌, ◌⊎◌, IsTrue}
use Rattle.fq_work.proofs.worker.passes.Given as goal

-- if the gate was asked before, it may hold this block back
abbrev pub invariant-loop-asked : goal.invariant-loop-asked
invariant-loop-asked g l = (l._asked ≡ 0) ⊎ IsTrue (g.G.Gate.holds l.gate)
