use Rattle.std.proofs.Common.{◌≡◌}
use Rattle.fq_lane.proofs.rx.Rx.take_wait.Given as goal

-- as long as the lane is empty nothing is got
abbrev pub invariant-loop : goal.invariant-loop
invariant-loop g l = l.self ≡ l.initial.self
