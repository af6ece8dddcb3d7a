use Rattle.std.proofs.Common.{◌≡◌, ◌+◌, ◌-◌, sum, take, drop, arith, ap, ⊎_elim}
use Rattle.std.proofs.lemmas.Bool.{cases_eq}
use Rattle.fq_trim.specs.Keeping.{scores}
use Rattle.fq_trim.proofs.PlaceLemmas.{length-scores, part_small, next_window}
use Rattle.fq_trim.proofs.windows.stop_from.Goals as goal

-- the sum of a window and one more score does not overflow
pub overflow_add-sum : goal.overflow_add-sum
overflow_add-sum c =
    let small = part_small c.args.encoding c.args.qual.now (c.loop-end.end - c.args.width)
    c.args.width c.requires.scored in
    omega arith

-- the score that leaves the window is part of the sum
pub overflow_sub-sum : goal.overflow_sub-sum
overflow_sub-sum c =
    let from = c.loop-end.invariant.from in
    let next = next_window c.args.encoding c.args.qual.now c.args.width c.loop-end.end
    from c.loop-end-test.true in
    omega arith

-- the window whose last base is at index `end` is the first bad one
pub returns-then-sum-least : goal.returns-then-sum-least
returns-then-sum-least c =
    let old = c.loop-end.invariant in
    let from = old.from in
    let next = next_window c.args.encoding c.args.qual.now c.args.width c.loop-end.end
    from c.loop-end-test.true in
    let len = length-scores c.args.encoding c.args.qual.now in
    record {
      within = omega arith;
      some = omega arith;
      good = old.windows;
      bad = λ lt. omega arith;
    }

-- the window whose last base is at index `end` is good, and the sum is its own
pub loop-end-preserved : goal.loop-end-preserved
loop-end-preserved c =
    let w = c.args.width in
    let q = scores c.args.encoding c.args.qual.now in
    let end = c.loop-end.end in
    let old = c.loop-end.invariant in
    let from = old.from in
    let next = next_window c.args.encoding c.args.qual.now w end from
    c.loop-end-test.true in
    record {
      from = omega arith;
      total = omega arith;
      windows = λ s le. ⊎_elim
          (λ same. let start : s ≡ end + 1 - w = omega arith in let is =
          ap (λ n. sum (take w (drop n q))) start in omega arith)
          (λ other. old.windows s (omega arith))
          (cases_eq (s + w) (end + 1));
    }
