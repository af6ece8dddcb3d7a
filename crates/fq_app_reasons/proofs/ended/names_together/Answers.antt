use Rattle.std.proofs.Common.{rules, append_assoc}
use Rattle.fq_app_reasons.proofs.ended.names_together.Goals as goal

-- the formatted text names one file, and both names
pub returns : goal.returns
returns c = search (rules, append_assoc)
