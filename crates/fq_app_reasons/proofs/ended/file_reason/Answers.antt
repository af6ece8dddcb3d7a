use Rattle.std.proofs.Common.{rules, append_assoc}
use Rattle.fq_app_reasons.proofs.ended.file_reason.Goals as goal

-- the formatted text is the name of the file, and what is wrong with it
pub returns : goal.returns
returns c = search (rules, append_assoc)
