-- Files that are not outputs keep what they held.
use Rattle.std.proofs.Common.{◌≡◌, ℕ, Some, List, sym, ap, ◌∙◌}
use Rattle.fq_pair.specs.declared.out.Out.{Out}
use Rattle.fq_files.specs.Holding.{Holding, KeepsOthers}
use Rattle.fq_app_words.specs.Requests.{Asking, output_name}
use Rattle.fq_app_files.specs.Trimming.{KeepsRest}

-- a call for one output keeps the rest
pub rest_of : (a : Asking) (out : Out) (name : List ℕ) (old new : Holding) →
    output_name a out ≡ Some name → KeepsOthers old new name → KeepsRest a old new
rest_of a out name old new named others = λ other free. others other (λ same. free out (named
    ∙ ap Some (sym same)))

-- two calls keep the rest
pub then_rest : (a : Asking) (x y z : Holding) → KeepsRest a x y → KeepsRest a y z → KeepsRest a x z
then_rest a x y z one two = λ name free. two name free ∙ one name free
