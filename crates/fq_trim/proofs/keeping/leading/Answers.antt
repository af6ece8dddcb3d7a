use Rattle.std.proofs.Common.{length, sym, ◌∙◌, arith}
use Rattle.fq_trim.specs.Keeping.{scores}
use Rattle.fq_trim.proofs.PlaceLemmas.{leading_between, length-scores, score_at}
use Rattle.fq_trim.proofs.keeping.leading.Goals as goal

-- LEADING keeps the bases from the first score on that is high enough
pub returns-then-score-from : goal.returns-then-score-from
returns-then-score-from c =
    let e = c.args.encoding in
    let qual = c.args.qual.now in
    let same = c.from.ensures ∙ c.phred.ensures ∙ sym (score_at e qual c.loop-i.i (omega arith)) in
    rw c.start_at.ensures (leading_between c.args.score (scores e qual) (length qual) c.loop-i.i
    (length-scores e qual) (omega arith) c.loop-i.invariant (λ lt. omega arith))

-- if no score is high enough, LEADING keeps nothing
pub returns : goal.returns
returns c =
    let e = c.args.encoding in
    let qual = c.args.qual.now in
    let low = c.loop-i.invariant in
    rw c.start_at-2.ensures (leading_between c.args.score (scores e qual) (length qual)
    (length qual) (length-scores e qual) (omega arith) (λ k lt. low k (omega arith))
    (λ lt. absurd (omega arith)))
