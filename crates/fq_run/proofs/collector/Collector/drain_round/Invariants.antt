-- Whatever was taken from the lanes so far, nothing more was written.
use Rattle.std.proofs.Common.{◌≡◌, vec_len}
use Rattle.fq_run.specs.collector.Stops.{Drains}
use Rattle.fq_run.proofs.collector.Collector.drain_round.Given as goal

-- the collector has only taken and dropped so far, and has as many lanes as before
abbrev pub invariant-loop-at : goal.invariant-loop-at
invariant-loop-at l = record {
  drains : Drains l.initial.self l.self;
  lanes : vec_len l.self.replies ≡ vec_len l.initial.self.replies;
}
