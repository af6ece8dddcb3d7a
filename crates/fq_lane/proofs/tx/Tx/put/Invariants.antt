use Rattle.std.proofs.Common.{◌≡◌}
use Rattle.fq_lane.proofs.tx.Tx.put.Given as goal

-- as long as the lane is full the item is not sent
abbrev pub invariant-loop : goal.invariant-loop
invariant-loop g l = (l.self ≡ l.initial.self) × (l.item ≡ l.initial.item)
