use Rattle.fq_law_runs.proofs.RunLemmas.{endings}
use Rattle.fq_law_runs.proofs.runs.endings_are_in_step.Goals as goal

-- at each ending but `Lane`, what outlets took of complete blocks is in step with the counts
pub returns : goal.returns
returns c = endings
