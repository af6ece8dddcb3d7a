-- Memory was refused before the first pair.
use Rattle.std.proofs.Common.{ap}
use Rattle.fq_run_core.proofs.PassLemmas.{runs_nothing}
use Rattle.fq_run_core.proofs.interleaved.pass.Goals as goal

-- the feed is handed back as it was, and nothing is written
pub returns-in-Err : goal.returns-in-Err
returns-in-Err g c =
    let f = g.F.Feed in
    let same = c.in-Err.ensures.err in
    runs_nothing _ _ c.args.settings.now _ _ _ _ _ _ c.nothing.ensures (ap f.state same)
    (ap f.state same)
