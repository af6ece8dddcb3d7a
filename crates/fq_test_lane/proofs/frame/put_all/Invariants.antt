use Rattle.std.proofs.Common.{◌≡◌}
use Rattle.fq_test_lane.proofs.frame.put_all.Given as goal

-- the sender is still that of the same lane
abbrev pub invariant-loop-n : goal.invariant-loop-n
invariant-loop-n g l = l.tx.name ≡ l.fn.tx.name
