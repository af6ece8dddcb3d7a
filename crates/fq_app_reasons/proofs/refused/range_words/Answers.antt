use Rattle.std.proofs.Common.{rules, append_assoc}
use Rattle.fq_app_reasons.proofs.refused.range_words.Goals as goal

-- the formatted text is the option with its value and its range
pub returns : goal.returns
returns c = search (rules, append_assoc)
