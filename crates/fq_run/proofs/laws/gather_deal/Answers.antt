use Rattle.fq_run.proofs.DealLemmas.{gather-deal}
use Rattle.fq_run.proofs.laws.gather_deal.Goals as goal

-- a list that is dealt out and gathered again is as it was
pub returns : goal.returns
returns g c = gather-deal
