use Rattle.std.proofs.Common.{ℕ, ◌+◌, ◌-◌, ◌<◌, ◌≤◌, length, sum, take, drop}
use Rattle.fq_trim.specs.Windows.{distances}
use Rattle.fq_trim.proofs.windows.stop_together.Given as goal

-- each window that begins before `start` is good
abbrev pub invariant-loop-next : goal.invariant-loop-next
invariant-loop-next l = record {
  fits : l.start + 32 ≤ length l.qual;
  good : (s : ℕ) → s < l.start →
      l.fn.least ≤ sum (take l.fn.width (drop s (distances l.fn.offset l.qual)));
}

-- how many bases are from index `start` on
abbrev pub decreases-loop-next : goal.decreases-loop-next
decreases-loop-next l = length l.qual - l.start
