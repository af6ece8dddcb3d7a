use Rattle.std.proofs.Common.{◌≡◌}
use Rattle.fq_test_lane.proofs.frame.take_all.Given as goal

-- the receiver is still that of the same lane
abbrev pub invariant-loop : goal.invariant-loop
invariant-loop g l = l.rx.name ≡ l.fn.rx.name
