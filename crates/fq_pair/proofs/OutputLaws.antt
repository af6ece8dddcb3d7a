-- The texts of a list of pairs are those of its front followed by those of its rest.
use Rattle.std.proofs.Common.{arith, ◌≡◌, List, ◌++◌}
use Rattle.std.proofs.lemmas.Grind.{common_steps}
use Rattle.fq_trim.specs.declared.step.Step.{Step}
use Rattle.fq_pair.specs.Mates.{Mates}
use Rattle.fq_pair.specs.Outputs.{Outputs, texts_of, joined}

module _ (steps : List Step) (xs ys : List Mates) where
  -- the texts of two lists of pairs, one after the other
  pub texts_of-append : texts_of steps (xs ++ ys) ≡ joined (texts_of steps xs) (texts_of steps ys)
  texts_of-append = grind (arith, common_steps)

-- of three outputs, it makes no difference which two are joined first
pub joined_assoc : (a b c : Outputs) → joined (joined a b) c ≡ joined a (joined b c)
joined_assoc a b c = grind (arith, common_steps)
