use Rattle.std.proofs.Common.{rules, append_assoc}
use Rattle.fq_app_reasons.proofs.ended.names_apart.Goals as goal

-- the formatted text names two files, each with a name
pub returns : goal.returns
returns c = search (rules, append_assoc)
