use Rattle.std.proofs.Common.{rules, append_assoc}
use Rattle.fq_app_reasons.proofs.refused.many_words.Goals as goal

-- the formatted text says how many steps there are, and how many there can be
pub returns : goal.returns
returns c = search (rules, append_assoc)
