use Rattle.std.proofs.Common.{◌≡◌}
use Rattle.fq_test_worked.proofs.work.deal.Given as goal

abbrev pub invariant-loop-number : goal.invariant-loop-number
invariant-loop-number g l = l.blocks.name ≡ l.fn.blocks.name
