use Rattle.std.proofs.Common.{arith}
use Rattle.fq_report_pairs.proofs.PlusLaws.{tally_of-append}
use Rattle.fq_report_pairs.proofs.tally.Tally.add_all.Goals as goal

-- the tallies of two lists of pairs add up to that of one list after the other
pub returns-clause-cut : goal.returns-clause-cut
returns-clause-cut c lists front behind mine others = grind (arith, tally_of-append)
