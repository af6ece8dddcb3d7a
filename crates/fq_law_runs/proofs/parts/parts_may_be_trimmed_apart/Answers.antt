use Rattle.fq_law_runs.proofs.PartLemmas.{pairs_are_joined, parts_trimmed_apart}
use Rattle.fq_law_runs.proofs.parts.parts_may_be_trimmed_apart.Goals as goal

-- the pairs of the whole are those of the first part, and then those of the rest
pub returns-clause-pairs : goal.returns-clause-pairs
returns-clause-pairs c = pairs_are_joined

-- what is made of the whole is what is made of its parts, joined
pub returns-clause-parts : goal.returns-clause-parts
returns-clause-parts c = parts_trimmed_apart
