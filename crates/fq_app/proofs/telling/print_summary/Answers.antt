use Rattle.std.proofs.Common.{◌≡◌, ◌<◌, ◌++◌, ◌∙◌, ℕ, List, length, take, Result, Ok, Err, is_ok, IsTrue, OnOk, IfErr, if◌then◌else◌, subst, arith}
use Rattle.fq_text.specs.declared.outlet.Sent.{Sent}
use Rattle.fq_app.specs.Answers.{Device, TookPart, device_of}
use Rattle.fq_app.proofs.telling.print_summary.Goals as goal

took : {T : Type 0} (r : Result T Sent) (d : Device) (text : List ℕ) →
    d.failures ≡ (if is_ok r then 0 else 1) → OnOk r (IsTrue d.tells → d.after ≡ d.before ++ text) →
    IfErr r (λ sent. sent.count < length text) →
    IfErr r (λ sent. IsTrue d.tells → d.after ≡ d.before ++ take sent.count text) → TookPart d text
took (Ok x) d text failures ok short err = record {
  whole = λ told healthy. ok told;
  part =
      λ told failed. absurd (failed failures);
}
took (Err sent) d text failures ok short err =
    record {
      whole = λ told healthy. absurd (omega arith);
      part =
          λ told failed. (sent.count, short, err told);
    }

-- the text that was sent is the summary
pub returns-clause-printed : goal.returns-clause-printed
returns-clause-printed g c =
    let text_is = c.as_bytes.ensures.value ∙ c.in_ok-text.ensures in
    let d = device_of g.O.Outlet.state c.args.out.now c.send.new.outlet in
    let failures : d.failures ≡ (if is_ok c.send.result then 0 else 1) = omega arith in
    subst (λ (text : List ℕ). TookPart d text) text_is
    (took c.send.result d c.as_bytes.result.now failures c.send.ensures.ok c.send.ensures.short
    c.send.ensures.err)
