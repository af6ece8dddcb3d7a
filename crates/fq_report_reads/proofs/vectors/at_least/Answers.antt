use Rattle.std.proofs.Common.{arith, ℕ, leb}
use Rattle.std.proofs.lemmas.Simd.{zip2_splat_left}
use Rattle.fq_text.proofs.VectorLemmas.{flag}
use Rattle.fq_report_reads.proofs.VectorLemmas.{flags_counted}
use Rattle.fq_report_reads.proofs.vectors.at_least.Goals as goal

-- as many flags are set as bytes are at least the limit
pub returns : goal.returns
returns c =
    let v = c.args.bytes in
    let long = c.fits-bytes.0 in
    flags_counted (leb c.args.limit) v (omega arith)
    (zip2_splat_left (λ (a b : ℕ). flag (leb a b)) c.args.limit 32 v long)
