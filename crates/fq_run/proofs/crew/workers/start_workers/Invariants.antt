-- A worker is started for each of the seats so far.
use Rattle.std.proofs.Common.{◌≡◌, length, vec_len, vec_capacity}
use Rattle.std.specs.Arc.{arc_value}
use Rattle.std.specs.List.{AllZip}
use Rattle.fq_run.specs.crew.Workers.{Seated}
use Rattle.fq_run.proofs.crew.workers.start_workers.Given as goal

-- each handle so far names the ends of its seat, and the room is unchanged
abbrev pub invariant-loop-ends : goal.invariant-loop-ends
invariant-loop-ends g l = record {
  room : vec_capacity l.hands ≡ vec_capacity l.fn.hands;
  count : vec_len l.hands ≡ length l.yielded;
  seated : AllZip (Seated l.fn.settings.steps (g.H.Gate.holds (arc_value l.fn.gate)))
      l.yielded l.hands.items;
}
