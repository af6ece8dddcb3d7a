use Rattle.std.proofs.Common.{rules, append_assoc}
use Rattle.fq_app_reasons.proofs.ended.ends_first.Goals as goal

-- the formatted text says that the one file ends first, and that the other has the record
pub returns : goal.returns
returns c = search (rules, append_assoc)
