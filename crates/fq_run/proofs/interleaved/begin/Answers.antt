-- What the threads hand back is what the run returns; if memory was refused before they started,
-- nothing was written.
use Rattle.std.proofs.Common.{refl, ap}
use Rattle.fq_pair.specs.Forms.{InterleavedText}
use Rattle.fq_pair.specs.Walks.{interleaved_state}
use Rattle.fq_run.proofs.StartLemmas.{closed, refused}
use Rattle.fq_run.proofs.interleaved.begin.Goals as goal

-- what is promised of the run over the source holds of the run over its feed
pub returns-in-Ok-clause-threaded : goal.returns-in-Ok-clause-threaded
returns-in-Ok-clause-threaded g c =
    let f = g.F.Feed in
    let fs = f.state in
    let e = c.ending_of.ensures in
    closed (interleaved_state f.state) fs fs (λ s. s.source.feed) (λ s. s.source.feed) (λ s. refl)
    (λ s. refl)
    InterleavedText c.args.settings.now _ c.args.feed c.args.feed c.in-Ok.ensures.ok _ _
    c.run.result _ _ _ _ _ _ _ e.outcome e.total e.unended e.refused e.told e.feed e.feed
    c.run.ensures

-- if memory for the source is refused, the feed is as it was, and the outlets are only flushed
pub returns-in-Err-clause-threaded : goal.returns-in-Err-clause-threaded
returns-in-Err-clause-threaded g c =
    let f = g.F.Feed in
    let fs = f.state in
    let back = c.in-Err.ensures.err in
    refused _ c.args.settings.now _ _ _ _ _ _ _ _ _ (ap fs back) (ap fs back) refl
    c.flush_after.ensures c.requires.feed c.requires.feed
