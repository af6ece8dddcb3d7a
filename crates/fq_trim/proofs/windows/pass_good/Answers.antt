use Rattle.std.proofs.Common.{◌<◌, sym, ◌∙◌, arith}
use Rattle.fq_trim.proofs.WindowLemmas.{good_up_to, good_over_high, stops_there}
use Rattle.fq_trim.proofs.windows.pass_good.Goals as goal

-- if the 32 scores are all high, each window of them alone is good
pub returns-then-are_all_high-clause-next : goal.returns-then-are_all_high-clause-next
returns-then-are_all_high-clause-next c =
    let fits = c.requires.fits in (
      omega arith,
      λ end. omega arith,
      λ s lt. good_over_high c.args.offset c.args.width c.args.score c.args.least c.args.start
          c.args.qual.now c.requires.least fits (sym c.are_all_high.ensures
          ∙ c.if-are_all_high.true) c.requires.good s (omega arith),
    )

-- the first sum that is too small is that of the first bad window
pub returns-then-good-lt-TOGETHER-clause-stop : goal.returns-then-good-lt-TOGETHER-clause-stop
returns-then-good-lt-TOGETHER-clause-stop c =
    let found = c.first_below-good.ensures in
    let small : c.args.least < 256 = c.ranges.least.fits in
    let few = c.if-good-lt-TOGETHER.true in
    stops_there c.args.offset c.args.width c.args.least c.min-from.result c.first_below-good.result
    c.args.qual.now c.sums_of.result small c.sums_of.ensures.each (omega arith)
    (λ s lt. c.requires.good s (omega arith)) found.good c.requires.window (omega arith) few
    (found.bad (omega arith))

-- if no sum is too small, all 32 windows are good
pub returns-clause-next : goal.returns-clause-next
returns-clause-next c =
    let found = c.first_below-good.ensures in
    let small : c.args.least < 256 = c.ranges.least.fits in (
      omega arith,
      λ end. omega arith,
      λ s lt. good_up_to c.args.offset c.args.width c.args.least c.min-from.result
          c.first_below-good.result c.args.qual.now c.sums_of.result small c.sums_of.ensures.each
          (omega arith)
          (λ t less. c.requires.good t (omega arith)) found.good s (omega arith),
    )
