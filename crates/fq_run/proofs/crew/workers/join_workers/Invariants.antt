-- The workers so far are joined.
use Rattle.std.proofs.Common.{◌≡◌, length, vec_len, vec_capacity}
use Rattle.std.specs.List.{AllZip}
use Rattle.fq_run.specs.crew.Workers.{Joined}
use Rattle.fq_run.specs.Doing.{awaits_workers}
use Rattle.fq_run.proofs.crew.workers.join_workers.Given as goal

-- each worker so far has handed back what its handle promises, and the room is unchanged
abbrev pub invariant-loop-hand : goal.invariant-loop-hand
invariant-loop-hand g l = record {
  room : vec_capacity l.worked ≡ vec_capacity l.fn.worked;
  count : vec_len l.worked ≡ length l.yielded;
  joined : AllZip Joined l.yielded l.worked.items;
  next : l.waits ≡ awaits_workers (vec_len l.worked);
}
