use Rattle.fq_law_runs.proofs.RunLemmas.{outlets_begin, files_begin}
use Rattle.fq_law_runs.proofs.runs.kills_leave_first_parts.Goals as goal

-- what an outlet has taken begins as the text of all pairs
pub returns-clause-outlets : goal.returns-clause-outlets
returns-clause-outlets c = outlets_begin

-- so does the file of each output, if trimming had begun
pub returns-clause-files : goal.returns-clause-files
returns-clause-files c = files_begin
