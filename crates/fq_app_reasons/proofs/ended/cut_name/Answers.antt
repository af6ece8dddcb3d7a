use Rattle.std.proofs.Common.{rules, append_assoc}
use Rattle.fq_app_reasons.proofs.ended.cut_name.Goals as goal

-- the formatted text is the quoted bytes, and how many of the name these are
pub returns : goal.returns
returns c = search (rules, append_assoc)
