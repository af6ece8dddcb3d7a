use Rattle.std.proofs.Common.{ℕ, ◌<◌, ◌≤◌, length, get_or}
use Rattle.fq_trim.specs.Windows.{distances}
use Rattle.fq_trim.proofs.low_end.low_from.Given as goal

-- each score from `stop` on is low
abbrev pub invariant-loop-stop : goal.invariant-loop-stop
invariant-loop-stop l = record {
  within : l.stop ≤ length l.qual;
  low : (k : ℕ) → l.stop ≤ k → k < length l.qual →
      get_or (distances l.fn.offset l.qual) k 0 < l.score;
}

-- how many scores are still to be compared
abbrev pub decreases-loop-stop : goal.decreases-loop-stop
decreases-loop-stop l = l.stop
