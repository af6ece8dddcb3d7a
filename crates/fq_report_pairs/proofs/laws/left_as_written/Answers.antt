use Rattle.fq_report_reads.specs.Courses.{whole}
use Rattle.fq_report_reads.proofs.LeftLaws.{alone_are_all, left_in_turn, survives_in_turn}
use Rattle.fq_report_pairs.proofs.laws.left_as_written.Goals as goal

-- steps, each in a list of its own, are the same steps as one list
pub returns-clause-alone : goal.returns-clause-alone
returns-clause-alone c = alone_are_all

-- what lists of steps leave of a read in turn is what they leave of it as one list
pub returns-clause-left : goal.returns-clause-left
returns-clause-left c = λ lists read same. left_in_turn lists 0 (whole read) same

-- a read survives lists of steps in turn just if it survives them as one list
pub returns-clause-survives : goal.returns-clause-survives
returns-clause-survives c = λ lists read same. survives_in_turn lists read same
