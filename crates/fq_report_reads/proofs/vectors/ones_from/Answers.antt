use Rattle.std.proofs.Common.{ℕ, leb}
use Rattle.std.proofs.lemmas.Simd.{zip2_splat_left}
use Rattle.fq_text.proofs.VectorLemmas.{flag}
use Rattle.fq_report_reads.proofs.VectorLemmas.{ones_chosen, ones_are_few}
use Rattle.fq_report_reads.proofs.vectors.ones_from.Goals as goal

-- a lane is 1 if its byte is at least the least one, or else 0
pub returns-clause-each : goal.returns-clause-each
returns-clause-each c =
    let v = c.args.bytes in
    let long = c.fits-bytes.0 in
    ones_chosen (leb c.args.least) v 32 long
    (zip2_splat_left (λ (a b : ℕ). flag (leb a b)) c.args.least 32 v long)

-- no lane is above 1
pub returns-clause-ones : goal.returns-clause-ones
returns-clause-ones c = ones_are_few (leb c.args.least) c.args.bytes _ (returns-clause-each c)
