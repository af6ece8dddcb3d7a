use Rattle.std.proofs.Common.{ℕ, ◌<◌, ◌≤◌, length, get_or}
use Rattle.fq_trim.specs.Keeping.{scores}
use Rattle.fq_trim.proofs.low_end.after_last.Given as goal

-- no score from index i on is high enough
abbrev pub invariant-loop-i : goal.invariant-loop-i
invariant-loop-i l = (k : ℕ) → l.i ≤ k → k < length l.qual →
    get_or (scores l.fn.encoding l.qual) k 0 < l.score
