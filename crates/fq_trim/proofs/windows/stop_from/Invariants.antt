use Rattle.std.proofs.Common.{◌≡◌, ℕ, ◌+◌, ◌-◌, ◌≤◌, sum, take, drop}
use Rattle.fq_trim.specs.Keeping.{scores}
use Rattle.fq_trim.proofs.windows.stop_from.Given as goal

-- the sum is that of the window that ends before `end`, and no window that ends before it is bad
abbrev pub invariant-loop-end : goal.invariant-loop-end
invariant-loop-end l = record {
  from : l.width ≤ l.end;
  total : l.sum ≡ sum (take l.width (drop (l.end - l.width) (scores l.fn.encoding l.qual)));
  windows : (s : ℕ) → s + l.width ≤ l.end →
      l.least ≤ sum (take l.width (drop s (scores l.fn.encoding l.qual)));
}
