use Rattle.std.proofs.Common.{arith, ℕ, ◌≡◌, ap, map, w16}
use Rattle.std.proofs.lemmas.List.{map-id}
use Rattle.std.proofs.lemmas.Simd.{sum_fits, sum_bound, bytes_below, fold-sum}
use lib.Lanes.{sum_l}
use Rattle.fq_report_reads.proofs.VectorLemmas.{vector_summed}
use Rattle.fq_report_reads.proofs.vectors.sum_of.Goals as goal
use Rattle.std.proofs.lemmas.Grind.{common_steps}

-- the sum of 32 bytes fits into 16 bits
pub overflow_add-result : goal.overflow_add-result
overflow_add-result c =
    let v = c.args.bytes in
    let long = c.fits-bytes.0 in
    let most = sum_bound 255 v (bytes_below v c.fits-bytes.1) in
    let same : sum_l (map (λ (x : ℕ). x) v) ≡ sum_l v = ap sum_l (map-id v) in
    sum_fits w16 0 (map (λ (x : ℕ). x) v) (omega arith)

-- the lanes, added up as numbers of 16 bits, are the sum of the bytes
pub returns : goal.returns
returns c = grind (arith, common_steps, map-id, vector_summed, fold-sum)
