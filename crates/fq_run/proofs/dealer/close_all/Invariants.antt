-- The lanes so far are closed, and there is room for the ends of the others.
use Rattle.std.proofs.Common.{◌≡◌, length, vec_len, vec_capacity}
use Rattle.std.specs.List.{AllZip}
use Rattle.fq_run.specs.dealer.Dealt.{Closed}
use Rattle.fq_run.specs.Doing.{closes}
use Rattle.fq_run.proofs.dealer.close_all.Given as goal

-- the end of each lane so far, if it has one, is what was sent, with the mark
abbrev pub invariant-loop-ends : goal.invariant-loop-ends
invariant-loop-ends g l = record {
  room : vec_capacity l.closings ≡ vec_capacity l.fn.closings;
  count : vec_len l.closings ≡ length l.yielded;
  closed : AllZip Closed l.yielded l.closings.items;
  next : l.waits ≡ closes (vec_len l.closings);
}
