use Rattle.fq_law_runs.proofs.RunLemmas.{whole_runs}
use Rattle.fq_law_runs.proofs.runs.whole_runs_are_in_step.Goals as goal

-- if a run trimmed all pairs, what its outlets took is in step with its counts
pub returns : goal.returns
returns c = whole_runs
