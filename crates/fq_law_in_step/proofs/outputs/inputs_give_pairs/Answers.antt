use Rattle.fq_law_in_step.proofs.TextLemmas.{inputs_give_pairs}
use Rattle.fq_law_in_step.proofs.outputs.inputs_give_pairs.Goals as goal

-- inputs give pairs of valid reads, whose names match if names are checked
pub returns : goal.returns
returns c = inputs_give_pairs
