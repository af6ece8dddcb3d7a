-- No outlet has failed while replies are written.
use Rattle.fq_run.proofs.collector.CollectLemmas.{still_writes}
use Rattle.fq_run.proofs.collector.Collector.write_all.Goals as goal

-- while replies are written, each outlet has taken whole texts, so none has failed
pub write_next-requires-clause-outlets : goal.write_next-requires-clause-outlets
write_next-requires-clause-outlets g c = still_writes _ _ _ _ c.loop.self c.requires.outlets
    c.loop.invariant.collects c.in-Writing.is
