use Rattle.std.proofs.Common.{rules, append_assoc}
use Rattle.fq_app_reasons.proofs.refused.no_step.Goals as goal

-- the formatted text says that the argument is no step, lists the names, and asks the question
pub returns : goal.returns
returns c = search (rules, append_assoc)
