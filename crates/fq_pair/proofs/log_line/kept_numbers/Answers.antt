use Rattle.std.proofs.Common.{arith}
use Rattle.std.proofs.lemmas.Grind.{common_steps}
use Rattle.fq_pair.proofs.TextLemmas.{log_numbers-places}
use Rattle.fq_pair.proofs.log_line.kept_numbers.Goals as goal

-- the numbers of a read that survives are those of its kept places
pub returns-in-Some : goal.returns-in-Some
returns-in-Some c = grind (arith, common_steps, log_numbers-places)
