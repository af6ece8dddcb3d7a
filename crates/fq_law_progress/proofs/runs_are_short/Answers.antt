use Rattle.fq_law_progress.proofs.Measure.{short}
use Rattle.fq_law_progress.proofs.runs_are_short.Goals as goal

-- a run has at most 4 moves a block, 3 a worker, 1 a started thread of these, and 8 more
pub returns : goal.returns
returns c = short
