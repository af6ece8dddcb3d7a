use Rattle.std.proofs.Common.{◌-◌, ℕ, eqb, ◌||◌, arith}
use Rattle.fq_report_reads.proofs.VectorLemmas.{either_case, ones_chosen, ones_are_few}
use Rattle.fq_report_reads.proofs.vectors.ones_of.Goals as goal
use Rattle.std.proofs.lemmas.Grind.{common_steps}

-- a lane is 1 if its base is the letter in either case, or else 0
pub returns-clause-each : goal.returns-clause-each
returns-clause-each c =
    let v = c.args.bases in
    let letter = c.args.letter in
    ones_chosen (λ (b : ℕ). eqb b (letter - 32) || eqb b letter) v 32 c.fits-bases.0
    (either_case letter v c.requires.from_a c.requires.to_z c.fits-bases.0 c.fits-bases.1)

-- no lane is above 1
pub returns-clause-ones : goal.returns-clause-ones
returns-clause-ones c = grind (arith, common_steps, ones_are_few, returns-clause-each)
