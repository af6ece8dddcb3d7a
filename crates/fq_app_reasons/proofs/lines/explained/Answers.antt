use Rattle.std.proofs.Common.{rules, append_assoc}
use Rattle.fq_app_reasons.proofs.lines.explained.Goals as goal

-- the formatted text is the line of the words and the reason
pub returns : goal.returns
returns c = search (rules, append_assoc)
