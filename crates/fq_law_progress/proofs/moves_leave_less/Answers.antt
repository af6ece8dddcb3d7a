use Rattle.fq_law_progress.proofs.Measure.{leaves_less}
use Rattle.fq_law_progress.proofs.moves_leave_less.Goals as goal

-- every move, in any state, leaves less to be done
pub returns : goal.returns
returns c = leaves_less
