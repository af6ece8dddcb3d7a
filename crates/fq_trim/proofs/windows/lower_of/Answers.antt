use Rattle.fq_trim.proofs.WindowLemmas.{each_lower}
use Rattle.fq_trim.proofs.windows.lower_of.Goals as goal

-- the lower of the two bytes at each index
pub returns : goal.returns
returns c = each_lower c.args.left c.args.right
