use Rattle.std.proofs.Common.{◌≡◌, ◌++◌, ◌∙◌, ℕ, List, map, subst, ap}
use Rattle.std.specs.Prelude.{IfOk}
use Rattle.std.specs.String.{string_bytes}
use Rattle.fq_report.specs.Reports.{text_of}
use Rattle.fq_app_words.specs.Requests.{asking_of}
use Rattle.fq_app_files.specs.Faults.{outcome_line}
use Rattle.fq_app_files.specs.Reporting.{asked_facts}
use Rattle.fq_app_files.proofs.ReportingLemmas.{fault_words_are}
use Rattle.fq_app_files.proofs.reporting.run_text.Goals as goal

-- the text is the report of what was asked for and counted, with the words of the fault
pub returns : goal.returns
returns c =
    let a = asking_of c.args.request.now in
    let outcome = c.args.account.now.outcome in
    let line_is = c.as_str.ensures.value ∙ (c.in_ok-fault_line.ensures.ok
    ∙ ap (λ bytes. bytes ++ outcome_line outcome) c.new-line.ensures.bytes) in
    let fault = fault_words_are outcome _ _ line_is c.requires c.without_end-fault.ensures.some
    c.without_end-fault.ensures.none in
    let P : List ℕ → Type 0 = λ t. IfOk c.report_text.result (λ text. string_bytes text ≡ t) in
    subst P (λ i. text_of (asked_facts a c.args.encoding
    (ap (map (λ word. word.now)) c.deref.ensures.value i) (fault i) c.args.account.now.counts
    c.args.tally.now)) c.report_text.ensures
