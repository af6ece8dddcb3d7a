use Rattle.std.proofs.Common.{◌≡◌, ◌≤◌, ◌<◌, ℕ, get_or}
use Rattle.fq_report_reads.proofs.narrow_rows.clear.Given as goal

-- the first i counts are zero, and those after them are as they were
abbrev pub invariant-loop-i : goal.invariant-loop-i
invariant-loop-i g l = record {
  front : (k : ℕ) → k < l.i → get_or l.counts k l.zero ≡ l.zero;
  after : (k : ℕ) → l.i ≤ k → get_or l.counts k l.zero ≡ get_or l.fn.counts k l.zero;
}
