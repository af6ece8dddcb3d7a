-- What the threads hand back is what the run returns; if memory was refused before they started,
-- nothing was written.
use Rattle.std.proofs.Common.{refl, ap}
use Rattle.fq_pair.specs.Forms.{TwoTexts}
use Rattle.fq_pair.specs.Walks.{source_state}
use Rattle.fq_run.proofs.StartLemmas.{closed, refused}
use Rattle.fq_run.proofs.two_texts.begin.Goals as goal

-- what is promised of the run over the source holds of the run over its two feeds
pub returns-in-Ok-clause-threaded : goal.returns-in-Ok-clause-threaded
returns-in-Ok-clause-threaded g c =
    let f = g.F.Feed in let r = g.G.Feed in
    let fs = f.state in let gs = r.state in
    let e = c.ending_of.ensures in
    closed (source_state f.state r.state) fs gs (λ s. s.forward.feed) (λ s. s.reverse.feed)
    (λ s. refl) (λ s. refl)
    TwoTexts c.args.settings.now _ c.args.forward c.args.reverse c.in-Ok.ensures.ok _ _ c.run.result
    _ _ _ _ _ _ _ e.outcome e.total e.unended e.refused e.told e.forward e.reverse c.run.ensures

-- if memory for the source is refused, the feeds are as they were, and the outlets only flushed
pub returns-in-Err-clause-threaded : goal.returns-in-Err-clause-threaded
returns-in-Err-clause-threaded g c =
    let f = g.F.Feed in let r = g.G.Feed in
    let fs = f.state in let gs = r.state in
    let back = c.in-Err.ensures.err in
    refused _ c.args.settings.now _ _ _ _ _ _ _ _ _ (ap fs back.0) (ap gs back.1) refl
    c.flush_after.ensures c.requires.forward c.requires.reverse
