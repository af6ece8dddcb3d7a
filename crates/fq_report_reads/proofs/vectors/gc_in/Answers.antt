use Rattle.std.proofs.Common.{arith, ℕ, eqb, ◌||◌}
use Rattle.std.proofs.lemmas.Simd.{zip2_splat}
use Rattle.fq_text.proofs.VectorLemmas.{flag}
use Rattle.fq_report_reads.specs.Letters.{is_gc}
use Rattle.fq_report_reads.proofs.VectorLemmas.{flags_counted, either}
use Rattle.fq_report_reads.proofs.vectors.gc_in.Goals as goal

-- as many flags are set as bases are G or C, in either case
pub returns : goal.returns
returns c =
    let v = c.args.bases in
    let long = c.fits-bases.0 in
    let is = λ (letter : ℕ). zip2_splat (λ (a b : ℕ). flag (eqb a b)) v 32 letter long in
    flags_counted is_gc v (omega arith)
    (either (λ (b : ℕ). eqb b 71 || eqb b 67) (λ (b : ℕ). eqb b 103 || eqb b 99) v
    (either (λ (b : ℕ). eqb b 71) (λ (b : ℕ). eqb b 67) v (is 71) (is 67))
    (either (λ (b : ℕ). eqb b 103) (λ (b : ℕ). eqb b 99) v (is 103) (is 99)))
