use Rattle.std.proofs.Common.{length}
use Rattle.fq_trim.specs.Keeping.{scores}
use Rattle.fq_trim.proofs.PlaceLemmas.{trailing_between, length-scores}
use Rattle.fq_trim.proofs.keeping.trailing.Goals as goal

-- TRAILING keeps the bases up to the last score that is high enough
pub returns : goal.returns
returns c = let last = c.after_last.ensures in
    let qual = c.args.qual.now in
    rw c.stop_at.ensures (trailing_between c.args.score (scores c.args.encoding qual) (length qual)
    c.after_last.result (length-scores c.args.encoding qual) last.within last.high last.low)
