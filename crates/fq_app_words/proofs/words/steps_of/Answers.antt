use Rattle.std.proofs.Common.{◌∙◌, sym, ap, map, codes, refl}
use Rattle.std.proofs.lemmas.Result.{IfOk-weaker}
use Rattle.std.specs.Borrow.{Bor}
use Rattle.clap.specs.Words.{Text, found_of}
use Rattle.clap.proofs.WalkLemmas.{raw_values-rows}
use Rattle.fq_app_words.proofs.words.steps_of.Goals as goal

-- steps that are given are those that the rows have
pub returns-in-Some : goal.returns-in-Some
returns-in-Some c =
    let rows = raw_values-rows (found_of c.args.found.now) (codes "STEPS") in
    IfOk-weaker c.from_slice.result _ _ (λ words items. ap (map (λ (word : Bor Text). word.now))
    items ∙ rw (sym (c.in-Some.ensures ∙ rows)) refl) c.from_slice.ensures.items

-- if no steps are given, the rows have none
pub returns-in-None : goal.returns-in-None
returns-in-None c = rw (
  c.new.ensures.items,
  sym (c.in-None.ensures
      ∙ raw_values-rows (found_of c.args.found.now) (codes "STEPS")),
) refl
