use Rattle.fq_law_in_step.proofs.ReadLemmas.{letters_are_plain}
use Rattle.fq_law_in_step.proofs.reads.letters_are_plain.Goals as goal

-- a read whose bases are letters is plain, if its title doesn't end in CR
pub returns : goal.returns
returns c = letters_are_plain
