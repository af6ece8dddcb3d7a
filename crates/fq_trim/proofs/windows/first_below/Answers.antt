use Rattle.std.proofs.Common.{◌<◌, ℕ, ltb, subst, sym, ◌∙◌, ap, arith, w8, map}
use Rattle.std.proofs.lemmas.Simd.{bitmask_splat, leading_from_mask_l, trailing_mask_l}
use lib.Count.{count_trailing_zeros}
use lib.Lanes.{mask_l}
use Rattle.fq_trim.specs.Windows.{IsFirstBelow}
use Rattle.fq_trim.proofs.WindowLemmas.{first_below}
use Rattle.fq_trim.proofs.windows.first_below.Goals as goal

-- if no sum is too small, all 32 are counted
pub returns-then-below-eq0 : goal.returns-then-below-eq0
returns-then-below-eq0 c =
    let sums = c.args.sums in
    let least = c.args.least in
    let long = c.fits-sums.0 in
    let mask = bitmask_splat w8 ltb sums 32 least long (omega arith) in
    subst (IsFirstBelow least sums) (leading_from_mask_l (λ (x : ℕ). ltb x least) sums
    (sym mask ∙ c.if-below-eq0.true) ∙ long) (first_below least sums)

-- the sums before the first that is too small are counted
pub returns-else-below-eq0 : goal.returns-else-below-eq0
returns-else-below-eq0 c =
    let sums = c.args.sums in
    let least = c.args.least in
    let mask = bitmask_splat w8 ltb sums 32 least c.fits-sums.0 (omega arith) in
    let set : 0 < mask_l (map (λ x. ltb x least) sums) = omega arith in
    subst (IsFirstBelow least sums) (sym (ap (count_trailing_zeros 64) mask
    ∙ trailing_mask_l (λ x. ltb x least) 64 sums (omega arith) set)) (first_below least sums)
