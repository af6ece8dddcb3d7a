-- The lanes so far are closed.
use Rattle.std.proofs.Common.{◌≡◌, ◌<◌, ℕ, true, get_or}
use Rattle.fq_run.proofs.collector.are_closed.Given as goal

-- each lane before this one was taken to its mark
abbrev pub invariant-loop-ends : goal.invariant-loop-ends
invariant-loop-ends l = (j : ℕ) (d : _) → j < l.ends-index →
    (get_or l.replies.items j d).marked ≡ true
