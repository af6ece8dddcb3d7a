use Rattle.std.proofs.Common.{arith, ℕ, eqb}
use Rattle.std.proofs.lemmas.Simd.{zip2_splat}
use Rattle.fq_text.proofs.VectorLemmas.{flag}
use Rattle.fq_report_reads.specs.Letters.{is_n}
use Rattle.fq_report_reads.proofs.VectorLemmas.{flags_counted, either}
use Rattle.fq_report_reads.proofs.vectors.n_in.Goals as goal

-- as many flags are set as bases are N, in either case
pub returns : goal.returns
returns c =
    let v = c.args.bases in
    let long = c.fits-bases.0 in
    let is = λ (letter : ℕ). zip2_splat (λ (a b : ℕ). flag (eqb a b)) v 32 letter long in
    flags_counted is_n v (omega arith) (either (λ (b : ℕ). eqb b 78) (λ (b : ℕ). eqb b 110) v
    (is 78) (is 110))
