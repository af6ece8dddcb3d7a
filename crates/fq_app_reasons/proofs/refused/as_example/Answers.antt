use Rattle.std.proofs.Common.{rules, append_assoc}
use Rattle.fq_app_reasons.proofs.refused.as_example.Goals as goal

-- the formatted text says what the argument must have, and gives the example
pub returns : goal.returns
returns c = search (rules, append_assoc)
