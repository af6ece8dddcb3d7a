use Rattle.std.proofs.Common.{◌≡◌, ◌<◌, Option, IfSome, subst, [], ◌∷◌, ◌++◌, ◌+◌, length, take, ap, sym, ◌∙◌, arith}
use Rattle.std.proofs.lemmas.List.{take_more, length-take}
use Rattle.std.proofs.lemmas.Option.{get_or_from_slice_get}
use Rattle.fq_pair.specs.Mates.{Mates, mates_in, name_lengths}
use Rattle.fq_report_pairs.specs.declared.done.Done.{Done}
use Rattle.fq_report_pairs.specs.declared.tally.Tally.{Tally}
use Rattle.fq_report_pairs.specs.Results.{made_of, with_mates, tally_with}
use Rattle.fq_report_pairs.proofs.ResultLemmas.{made_more, with_more, with_nothing}
use Rattle.fq_work.proofs.trimming.add_pairs.Goals as goal

-- the lengths that the block has for a pair are those of its names
pub add-requires-clause-names : goal.add-requires-clause-names
add-requires-clause-names c =
    subst (λ (o : Option Mates). IfSome o (λ m. c.names.result ≡ name_lengths m)) c.pair.ensures
    c.names.ensures

-- no more pairs were counted than a block has, so one more can be
pub add-requires-clause-room : goal.add-requires-clause-room
add-requires-clause-room c =
    omega (
      arith,
      ap (λ (d : Done). d.texts.counts.pairs) c.loop-i.invariant.0,
      length-take c.loop-i.i
          c.args.block.now.pairs,
      c.len-i-end.ensures.limit,
    )

-- at the start nothing is made, and nothing counted
pub loop-i-init : goal.loop-i-init
loop-i-init c = (c.requires, sym (with_nothing c.args.steps.now c.args.tally.now))

-- what is made of the pairs so far and of one more is made of them together, and so is the tally
pub loop-i-preserved : goal.loop-i-preserved
loop-i-preserved c =
    let steps = c.args.steps.now in
    let pairs = c.args.block.now.pairs in
    let number = c.args.block.now.number in
    let i = c.loop-i.i in
    let m = mates_in c.pair.result.forward c.pair.result.reverse in
    let within : i < length pairs = omega (arith, c.len-i-end.ensures.len) in
    let here = get_or_from_slice_get pairs i m m c.pair.ensures in
    let more : take i pairs ++ m ∷ [] ≡ take (i + 1) pairs =
    ap (λ (k : Mates). take i pairs ++ k ∷ []) (sym here) ∙ sym (take_more pairs i m within) in (
      c.in_ok-add.ensures.ok
          ∙ ap (λ (d : Done). with_mates steps d m) c.loop-i.invariant.0
          ∙ made_more steps number (take i pairs) m
          ∙ ap (made_of steps number) more,
      c.in_ok-add.ensures.tally
          ∙ ap (λ (t : Option Tally). tally_with steps t (m ∷ [])) c.loop-i.invariant.1
          ∙ with_more steps c.args.tally.now (take i pairs) (m ∷ [])
          ∙ ap (tally_with steps c.args.tally.now) more,
    )
