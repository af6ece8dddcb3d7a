use Rattle.std.proofs.Common.{◌≡◌, ◌+◌, ◌-◌, arith, ap, sum, take, drop}
use Rattle.fq_trim.specs.Keeping.{scores}
use Rattle.fq_trim.proofs.PlaceLemmas.{length-scores, from_sum, from_good, from_bad}
use Rattle.fq_trim.proofs.windows.stop_one_by_one.Goals as goal

-- if the window that is summed first is bad, it is the first of the read
pub returns-then-first-least : goal.returns-then-first-least
returns-then-first-least c =
    let q = scores c.args.encoding c.args.qual.now in
    let w = c.args.width in
    let high = c.high_stop.ensures in
    let bad = from_bad c.args.encoding c.args.qual.now w c.args.score _ _ _
    c.requires.fits high.within high.high c.max-from.ensures c.total_of-first.ensures.sum
    (omega arith) in
    let len = length-scores c.args.encoding c.args.qual.now in
    let some = c.requires.window in
    record {
      within = omega arith;
      some = omega arith;
      good = λ s le. absurd (omega arith);
      bad = λ lt.
          let place : w - 1 + 1 - w ≡ 0 = omega arith in
          let is = ap (λ n. sum (take w (drop n q))) place in
          omega arith;
    }

-- the sum is that of the window that ends at `from`
pub stop_from-requires-clause-sum : goal.stop_from-requires-clause-sum
stop_from-requires-clause-sum c =
    let high = c.high_stop.ensures in
    from_sum c.args.encoding c.args.qual.now c.args.width c.args.score _ _ _
    c.requires.fits high.within high.high c.max-from.ensures c.total_of-first.ensures.sum

-- each window that ends at or before `from` is good
pub stop_from-requires-clause-good : goal.stop_from-requires-clause-good
stop_from-requires-clause-good c = λ s le.
    let high = c.high_stop.ensures in
    let good = from_good c.args.encoding c.args.qual.now c.args.width c.args.score _ _ _
    c.requires.fits high.within high.high c.max-from.ensures c.total_of-first.ensures.sum
    (omega arith) s le in
    omega arith
