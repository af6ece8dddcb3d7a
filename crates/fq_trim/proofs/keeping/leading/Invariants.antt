use Rattle.std.proofs.Common.{ℕ, ◌<◌, get_or}
use Rattle.fq_trim.specs.Keeping.{scores}
use Rattle.fq_trim.proofs.keeping.leading.Given as goal

-- no score before index i is high enough
abbrev pub invariant-loop-i : goal.invariant-loop-i
invariant-loop-i l = (k : ℕ) → k < l.i → get_or (scores l.fn.encoding l.qual) k 0 < l.score
