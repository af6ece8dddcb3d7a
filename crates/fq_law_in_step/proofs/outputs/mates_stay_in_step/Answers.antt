use Rattle.fq_law_in_step.proofs.InStepLemmas.{texts_are_in_step}
use Rattle.fq_law_in_step.proofs.outputs.mates_stay_in_step.Goals as goal

-- the texts that are defined for pairs of inputs can be read again, and are in step
pub returns : goal.returns
returns c = texts_are_in_step
