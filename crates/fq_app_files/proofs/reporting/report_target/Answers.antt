use Rattle.std.proofs.Common.{◌≡◌, ◌⊎◌, ◌∙◌, ⊎_elim, ℕ, IsTrue, List, [], inl, inr, Some, Err, sym, ap, subst}
use Rattle.std.specs.Option.{option_map}
use Rattle.fq_files.specs.States.{MayRefuse}
use Rattle.fq_app_words.specs.Requests.{asking_of}
use Rattle.fq_app_files.specs.Trimming.{filed}
use Rattle.fq_app_files.proofs.FiledLemmas.{report_filed}
use Rattle.fq_app_files.proofs.OpeningLemmas.{report_is_refused}
use Rattle.fq_app_files.proofs.reporting.report_target.Goals as goal

-- a refused report: its refusal is true, and its file holds what it held, or nothing
pub returns-in-Err-clause-refused : goal.returns-in-Err-clause-refused
returns-in-Err-clause-refused g c =
    let asked = asking_of c.args.request.now in
    let old = g.T.Files.state c.args.files.now in
    let new = g.T.Files.state c.target.new.self in
    let a = filed old asked in
    let file = old.leads c.in-Some.name.now in
    let named : a.report ≡ Some file =
    report_filed old asked _ (ap (option_map (λ name. name.now)) c.in-Some.is) in
    let why = c.report_refused.ensures.why in
    record {
      why_is = ⊎_elim (λ report. inl (report.0, report.2)) (λ memory. inr memory) why;
      refused = report_is_refused a file named (MayRefuse old) c.in-Err.fault _
          (λ cause is. c.target.ensures.rightly cause (c.in-Err.is ∙ ap Err is)) why;
      left = λ other is told.
          let same : Some file ≡ Some other = sym named ∙ is in
          let equal : file ≡ other = cc in
          let P : List ℕ → Type 0 =
          λ x. IsTrue (old.tells x) → (new.bytes x ≡ old.bytes x) ⊎ (new.bytes x ≡ Some []) in
          subst P equal c.in-Err.ensures.refused told;
    }
