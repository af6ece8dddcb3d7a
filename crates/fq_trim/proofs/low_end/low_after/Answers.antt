use Rattle.std.proofs.Common.{◌<◌, leb, subst, sym, ◌∙◌, ap, arith, map}
use Rattle.std.proofs.lemmas.Simd.{zip2_splat_left, leading_from_mask_l, trailing_mask_l}
use lib.Count.{count_trailing_zeros}
use lib.Lanes.{mask_l}
use Rattle.fq_text.proofs.VectorLemmas.{flag, mask_of}
use Rattle.fq_trim.specs.Windows.{IsLowEnd}
use Rattle.fq_trim.proofs.LowEndLemmas.{low_end}
use Rattle.fq_trim.proofs.low_end.low_after.Goals as goal

-- if no score is high, all 16 are low
pub returns-then-high-eq0 : goal.returns-then-high-eq0
returns-then-high-eq0 c =
    let score = c.args.score in
    let turned = c.turned.result in
    let long = c.turned.ensures.long in
    let mask =
    mask_of (leb score) turned (omega arith)
    (zip2_splat_left (λ a b. flag (leb a b)) score 16 turned long) in
    subst (IsLowEnd score c.args.scores) (leading_from_mask_l (leb score) turned
    (sym mask ∙ c.if-high-eq0.true) ∙ long)
    (low_end c.args.scores turned score long c.turned.ensures.each)

-- the scores after the last that is high are low
pub returns-else-high-eq0 : goal.returns-else-high-eq0
returns-else-high-eq0 c =
    let score = c.args.score in
    let turned = c.turned.result in
    let long = c.turned.ensures.long in
    let mask =
    mask_of (leb score) turned (omega arith)
    (zip2_splat_left (λ a b. flag (leb a b)) score 16 turned long) in
    let set : 0 < mask_l (map (leb score) turned) = omega arith in
    subst (IsLowEnd score c.args.scores) (sym (ap (count_trailing_zeros 64) mask
    ∙ trailing_mask_l (leb score) 64 turned (omega arith) set))
    (low_end c.args.scores turned score long c.turned.ensures.each)
