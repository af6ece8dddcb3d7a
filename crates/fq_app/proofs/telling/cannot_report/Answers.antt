use Rattle.std.proofs.Common.{◌∙◌, List, ℕ, inl, inr, subst}
use Rattle.fq_app_words.specs.Requests.{asking_of}
use Rattle.fq_app.specs.Answers.{Device, TookText, device_of}
use Rattle.fq_app.proofs.AnswerLemmas.{plain_report}
use Rattle.fq_app.proofs.telling.cannot_report.Goals as goal

pub returns-in-Ok-clause-told : goal.returns-in-Ok-clause-told
returns-in-Ok-clause-told g c =
    let err : Device = device_of g.E.Outlet.state c.args.err.now c.fail_with.new.err in
    inl (subst (λ (text : List ℕ). TookText err text)
    (c.as_str.ensures.value ∙ c.in-Ok.ensures) c.fail_with.ensures.told)

pub returns-in-Err-clause-told : goal.returns-in-Err-clause-told
returns-in-Err-clause-told g c =
    let err : Device = device_of g.E.Outlet.state c.args.err.now c.fail_with-in-Err.new.err in
    inr (subst (λ (text : List ℕ). TookText err text)
    (plain_report (asking_of c.args.request.now)) c.fail_with-in-Err.ensures.told)
