use Rattle.std.proofs.Common.{◌≡◌, ◌-◌, ◌≤◌, length, drop}
use Rattle.fq_trim.specs.Keeping.{scores, places, kept_of, kept}
use Rattle.fq_trim.proofs.trimming.trim_by.Given as goal

-- the steps to come keep of the bases that are left what all steps keep of the read
abbrev pub invariant-loop-step : goal.invariant-loop-step
invariant-loop-step l = record {
  order : l.start ≤ l.stop;
  within : l.stop ≤ length l.qual;
  left : kept_of (drop l.step-index l.steps) (scores l.fn.encoding l.qual)
      (places l.start (l.stop - l.start)) ≡ kept l.steps (scores l.fn.encoding l.qual);
}
