use Rattle.std.proofs.Common.{arith}
use Rattle.std.proofs.lemmas.Grind.{common_steps}
use Rattle.std.proofs.lemmas.List.{drop-set}
use Rattle.fq_pair.proofs.TextLemmas.{short}
use Rattle.fq_pair.proofs.log_line.put_field.Goals as goal

-- a blank and the digits are written, and the bytes after the field stay
pub returns-clause-text : goal.returns-clause-text
returns-clause-text c = grind (arith, common_steps, short, drop-set)
