use Rattle.std.proofs.Common.{rules, append_assoc}
use Rattle.fq_app_reasons.proofs.ended.names_differ.Goals as goal

-- the formatted text says that the reads of the two files have different names
pub returns : goal.returns
returns c = search (rules, append_assoc)
