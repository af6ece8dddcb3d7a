use Rattle.std.proofs.Common.{rules, append_assoc}
use Rattle.std.proofs.lemmas.Result.{IfOk-equal}
use Rattle.fq_app_files.proofs.outcome_line.record_line.Goals as goal

-- the formatted text is the defined line for a fault in one side's record
pub returns : goal.returns
returns c = search (rules, IfOk-equal, append_assoc)
