-- If memory was refused, the outlets were only flushed.
use Rattle.std.proofs.Common.{refl}
use Rattle.fq_run.proofs.StartLemmas.{refused}
use Rattle.fq_run.proofs.threads.run.Goals as goal

-- if memory is refused before the threads start, nothing is read or written
pub returns-in-Err : goal.returns-in-Err
returns-in-Err g c =
    rw c.unstarted.ensures (refused _ _ _ _ _ _ _ _ _ _ _ refl refl refl
    c.flush_after.ensures c.requires.fresh.forward c.requires.fresh.reverse)
