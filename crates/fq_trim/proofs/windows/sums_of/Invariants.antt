use Rattle.std.proofs.Common.{◌≡◌, ℕ, ◌<◌, length, get_or, min, sum, take, drop}
use Rattle.fq_trim.specs.Windows.{distances}
use Rattle.fq_trim.proofs.windows.sums_of.Given as goal

-- each sum is that of the bases so far
abbrev pub invariant-loop-i : goal.invariant-loop-i
invariant-loop-i l = record {
  long : length l.sums ≡ 32;
  each : (k : ℕ) → k < 32 →
      get_or l.sums k 0 ≡ min 255 (sum (take l.i (drop k (distances l.fn.offset l.qual))));
}
