use Rattle.std.proofs.Common.{arith, ap₂, ◌&&◌, ltb, leb, ℕ}
use Rattle.std.proofs.lemmas.Simd.{zip2_splat, zip2_splat_left}
use Rattle.fq_text.proofs.VectorLemmas.{flag, not_less, all_by_mask}
use Rattle.fq_text.proofs.vectors.are_between.Goals as goal

-- all bytes are in range exactly if neither comparison holds for any byte
pub returns : goal.returns
returns c =
    let least = c.args.least in
    let most = c.args.most in
    let low = c.args.lowest in
    let long = c.fits-least.0 in
    let most_long = c.fits-most.0 in
    ap₂ (λ a b. a && b)
    (all_by_mask (λ x. ltb x low) (λ x. leb low x) (λ x. not_less x low) least (omega arith)
    (zip2_splat (λ (a b : ℕ). flag (ltb a b)) least 32 low long))
    (all_by_mask (λ x. ltb 126 x) (λ x. leb x 126) (λ x. not_less 126 x) most (omega arith)
    (zip2_splat_left (λ (a b : ℕ). flag (ltb a b)) 126 32 most most_long))
