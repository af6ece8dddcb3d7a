use Rattle.std.proofs.Common.{rules, append_assoc}
use Rattle.fq_app_reasons.proofs.causes.leads_to_one.Goals as goal

pub returns : goal.returns
returns c = search (rules, append_assoc)
