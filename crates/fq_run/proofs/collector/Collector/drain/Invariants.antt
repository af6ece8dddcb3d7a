-- Whatever was taken from the lanes so far, nothing more was written.
use Rattle.std.proofs.Common.{◌≡◌}
use Rattle.fq_run.specs.collector.Stops.{Drains}
use Rattle.fq_run.specs.Doing.{drains as taking}
use Rattle.fq_run.proofs.collector.Collector.drain.Given as goal

-- the collector has only taken and dropped so far, and still does
abbrev pub invariant-loop : goal.invariant-loop
invariant-loop g l = record {
  drains : Drains l.initial.self l.self;
  next : l.waits ≡ taking;
}
