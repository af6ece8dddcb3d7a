-- How a list of steps is stored inline.
use Rattle.std.specs.Prelude.{◌≡◌, ℕ, ◌-◌, ◌<◌, ◌≤◌, true, List, ◌++◌, length, take, replicate}
use Rattle.std.specs.List.{list_all}
use Rattle.std.proofs.Common.{arith, sym, ap, ◌∙◌}
use Rattle.std.proofs.lemmas.List.{length-take-le}
use Rattle.fq_trim.specs.declared.step.Step.{Step}
use Rattle.fq_trim.specs.declared.step.Step.TheVariants.{ToPhred33}
use Rattle.fq_trim.specs.declared.steps.Steps.TheInside.{Inside}
use Rattle.fq_trim.specs.Keeping.{is_in_range, most_steps}

-- the first 1 to `most_steps` members are the steps, and the others are TOPHRED33
pub record IsHeld (held : List Step) (count : ℕ) : Type 0 where
  pub some : 0 < count
  pub few : count ≤ most_steps
  pub in_range : list_all is_in_range (take count held) ≡ true
  pub filled : held ≡ take count held ++ replicate (most_steps - count) ToPhred33
  pub whole : length held ≡ most_steps

-- the list of steps determines what is held
pub inverse_view : (a : Inside) → IsHeld a.held a.count →
    (let steps : List Step = take a.count a.held in
    let back : Inside = record {
      held = steps ++ replicate (most_steps - length steps) ToPhred33;
      count = length steps;
    } in back ≡ a)
inverse_view a h =
    let steps : List Step = take a.count a.held in
    let count : length steps ≡ a.count =
    let fits : a.count ≤ length a.held = (let few = h.few in let whole = h.whole in omega arith) in
    length-take-le a.count a.held fits in
    let counted : ℕ → Inside = λ n.
    record { held = steps ++ replicate (most_steps - n) ToPhred33; count = n } in
    let holding : List Step → Inside = λ held. record { held = held; count = a.count } in
    ap counted count ∙ ap holding (sym h.filled)
