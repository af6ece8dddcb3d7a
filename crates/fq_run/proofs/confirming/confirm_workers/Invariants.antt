-- If what is left is confirmed, all is.
use Rattle.std.specs.Vec.Iter.{into_iter_items}
use Rattle.fq_run.specs.Each.{Each3}
use Rattle.fq_run.specs.Confirming.{CanConfirm, Confirmed}
use Rattle.fq_run.proofs.confirming.confirm_workers.Given as goal

-- the lanes that are left can be confirmed, and all are confirmed once these are
abbrev pub invariant-loop-ends : goal.invariant-loop-ends
invariant-loop-ends l = record {
  left : Each3 CanConfirm l.closings.items l.worked.items (into_iter_items l.ends-iterator);
  confirmed : Each3 Confirmed l.closings.items l.worked.items (into_iter_items l.ends-iterator) →
      Each3 Confirmed l.fn.closings.items l.fn.worked.items l.fn.replies.items;
}
