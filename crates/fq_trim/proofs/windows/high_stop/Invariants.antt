use Rattle.std.proofs.Common.{◌≡◌, ◌-◌, ◌≤◌, true, nat_le, length, take}
use Rattle.std.specs.List.{list_all}
use Rattle.fq_trim.specs.Keeping.{scores}
use Rattle.fq_trim.proofs.windows.high_stop.Given as goal

-- each score before index `stop` is high enough
abbrev pub invariant-loop-stop : goal.invariant-loop-stop
invariant-loop-stop l = record {
  within : l.stop ≤ length l.qual;
  high : list_all (nat_le l.score) (take l.stop (scores l.fn.encoding l.qual)) ≡ true;
}

-- how many scores are from index `stop` on
abbrev pub decreases-loop-stop : goal.decreases-loop-stop
decreases-loop-stop l = length l.qual - l.stop
