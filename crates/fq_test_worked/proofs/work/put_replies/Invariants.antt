use Rattle.std.proofs.Common.{◌≡◌}
use Rattle.fq_test_worked.proofs.work.put_replies.Given as goal

abbrev pub invariant-loop-place : goal.invariant-loop-place
invariant-loop-place l = l.replies.name ≡ l.initial.replies.name
