use Rattle.std.proofs.Common.{◌≡◌, ◌+◌, ◌-◌, drop, arith, ap, sym, ◌∙◌}
use Rattle.std.proofs.lemmas.List.{drop_more}
use Rattle.fq_trim.specs.declared.step.Step.TheVariants.{Leading}
use Rattle.fq_trim.specs.Keeping.{scores, kept_of, places}
use Rattle.fq_trim.proofs.PlaceLemmas.{step_keeps, length-scores, part_between}
use Rattle.fq_trim.proofs.trimming.trim_by.Goals as goal

-- of the bases that are left, the step leaves those between two indices
pub loop-step-preserved : goal.loop-step-preserved
loop-step-preserved c =
    let old = c.loop-step.invariant in
    let order = old.order in
    let within = old.within in
    let start = c.loop-step.start in
    let stop = c.loop-step.stop in
    let lo = c.kept_by-left.result.start in
    let hi = c.kept_by-left.result.stop in
    let e = c.args.encoding in
    let qual = c.args.qual.now in
    let part = part_between e qual _ start stop lo hi order within c.kept_by-left.ensures in
    let rest = drop (c.loop-step.step-index + 1) c.args.steps.now in
    let len = length-scores e qual in
    let width : start + hi - (start + lo) ≡ hi - lo = omega arith in
    record {
      order = omega arith;
      within = omega arith;
      left = ap (λ n. kept_of rest (scores e qual) (places (start + lo) n)) width
          ∙ sym (step_keeps _ rest (scores e qual) start stop lo hi order (omega arith) part)
          ∙ ap (λ ss. kept_of ss (scores e qual) (places start (stop - start)))
          (sym (drop_more c.args.steps.now c.loop-step.step-index (Leading 0)
          c.loop-step-test.true))
          ∙ old.left;
    }
