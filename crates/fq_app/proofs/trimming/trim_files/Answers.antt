use Rattle.std.proofs.lemmas.Result.{err_from_is_err_and}
use Rattle.std.proofs.Common.{subst}
use Rattle.fq_files.specs.States.{FilesState}
use Rattle.fq_app_files.specs.Trimming.{filed}
use Rattle.fq_app_words.specs.Requests.{asking_of}
use Rattle.fq_app_files.specs.Seeing.{IsReportError}
use Rattle.fq_app_files.proofs.OpeningLemmas.{refusable_right, wrong_refused}
use Rattle.fq_app.proofs.trimming.trim_files.Goals as goal

-- the refusal of a wrong request is true, and no file has changed
pub returns-in_err-settings-clause-refused : goal.returns-in_err-settings-clause-refused
returns-in_err-settings-clause-refused g c =
    let p = err_from_is_err_and c.from_residual.result c.from_residual.ensures.1 in
    rw (p.1, p.2) (wrong_refused (asking_of c.args.request.now) _ _ _
    c.in_err-settings.ensures.wrong)

-- the refusal of a file or of memory is true, and the files hold what it leaves
pub returns-in_err-devices-clause-refused : goal.returns-in_err-devices-clause-refused
returns-in_err-devices-clause-refused g c =
    let p = err_from_is_err_and c.from_residual-in_err-devices.result
    c.from_residual-in_err-devices.ensures.1 in
    let unopened = c.in_err-devices.ensures.unopened in
    rw (p.1, p.2) (record {
      refused = refusable_right (asking_of c.args.request.now)
          (g.T.Files.state c.args.files.now) _ c.in_ok-settings.ensures.right unopened.refused;
      inputs = unopened.inputs;
      left =
          unopened.left;
      report_left = unopened.report_left;
    })

-- if an output or the report leads to an input, the call fails and no file changes
pub returns-in_err-devices-clause-spared : goal.returns-in_err-devices-clause-spared
returns-in_err-devices-clause-spared g c = λ name made told leads. (
  c.from_residual-in_err-devices.ensures.0,
  (c.in_err-devices.ensures.spared name made told leads).1,
)

-- a run changes only the files of the outputs and of the report
pub returns-clause-rest : goal.returns-clause-rest
returns-clause-rest g c =
    let devices = c.in_ok-devices.ensures in
    (c.complete.ensures.completed _ devices.sound devices.opened
    c.in_ok-settings.ensures.settings).rest

-- the error that is told of the report is one that its device may say, if that has failed
pub returns-clause-report_says : goal.returns-clause-report_says
returns-clause-report_says g c =
    let P : FilesState → Type 0 = λ s.
    IsReportError (filed s (asking_of c.args.request.now)) s.may_say
    c.complete.result.reported c.complete.result.report_error in
    subst P c.in_ok-devices.ensures.sound c.complete.ensures.report_says
