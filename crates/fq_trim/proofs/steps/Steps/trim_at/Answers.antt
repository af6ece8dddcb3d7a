use Rattle.std.proofs.Common.{length, drop, take, ap, sym, ◌∙◌, arith}
use Rattle.std.proofs.lemmas.List.{drop_more}
use Rattle.fq_trim.specs.declared.step.Step.TheVariants.{Leading}
use Rattle.fq_trim.specs.Keeping.{scores, kept}
use Rattle.fq_trim.proofs.PlaceLemmas.{step_alone}
use Rattle.fq_trim.proofs.steps.Steps.trim_at.Goals as goal

-- the list of only this step
pub returns-clause-kept : goal.returns-clause-kept
returns-clause-kept c =
    let q = scores c.args.encoding c.args.qual.now in
    let same = c.as_slice.ensures.steps in
    let size = ap length same in
    let is = ap (λ ss. take 1 (drop c.args.place ss)) (sym same)
    ∙ ap (take 1) (drop_more c.as_slice.result.now c.args.place (Leading 0) (omega arith)) in
    let step = step_alone _ c.args.encoding c.args.qual.now c.kept_by-left.result.start
    c.kept_by-left.result.stop c.kept_by-left.ensures in
    rw (ap (λ ss. kept ss q) is ∙ step) c.kept_between.ensures.kept
