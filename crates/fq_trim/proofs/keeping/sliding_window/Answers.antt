use Rattle.std.proofs.Common.{◌≡◌, ◌+◌, ◌-◌, arith, ap, sym, length, sum, take, drop}
use Rattle.std.proofs.lemmas.List.{take-map, length-take-le}
use Rattle.fq_text.specs.Scores.{value_of}
use Rattle.fq_trim.specs.Keeping.{scores}
use Rattle.fq_trim.proofs.PlaceLemmas.{length-scores, window_bad, window_kept}
use Rattle.fq_trim.proofs.keeping.sliding_window.Goals as goal

-- if the first window is bad, SLIDINGWINDOW keeps nothing
pub returns-then-good-width : goal.returns-then-good-width
returns-then-good-width c =
    let w = c.args.width in
    let q = scores c.args.encoding c.args.qual.now in
    let found = c.good_stop-good.ensures in
    let len = length-scores c.args.encoding c.args.qual.now in
    let place : c.good_stop-good.result + 1 - w ≡ 0 = omega arith in
    let is = ap (λ n. sum (take w (drop n q))) place in
    let bad = found.bad (omega arith) in
    rw c.stop_at-then-good-width.ensures (window_bad w c.args.score _ q (omega arith))

-- SLIDINGWINDOW keeps the bases up to the last high score before index `good`
pub returns : goal.returns
returns c =
    let e = c.args.encoding in
    let qual = c.args.qual.now in
    let good = c.good_stop-good.result in
    let last = c.after_last.ensures in
    let len = length-scores e qual in
    let taken = length-take-le good qual (omega arith) in
    rw c.stop_at-2.ensures (window_kept c.args.width c.args.score (length qual) (scores e qual) _
    good c.after_last.result len c.requires.window c.if-qual-width.false c.good_stop-good.ensures
    c.if-good-width.false (sym (take-map (value_of e) good qual)) (omega arith) last.high
    (λ k from lt. last.low k from (omega arith)))
