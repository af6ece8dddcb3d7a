use Rattle.std.proofs.Common.{◌≡◌, ◌∙◌, ◌++◌, Some, codes, ap, sym}
use Rattle.std.specs.Option.{option_map}
use Rattle.std.specs.String.{string_bytes}
use Rattle.std.proofs.lemmas.Result.{IfOk-weaker}
use Rattle.fq_text.specs.Written.{line}
use Rattle.fq_app_words.specs.Requests.{asking_of}
use Rattle.fq_app_files.specs.Faults.{settled, outcome_line, outcome_words}
use Rattle.fq_app_reasons.specs.Ended.{ending_reason}
use Rattle.fq_app_reasons.proofs.LineLemmas.{known_ending}
use Rattle.fq_app_reasons.proofs.lines.ending_line.Goals as goal

-- if a reason is asked for and known, it is added to the line of the outcome
pub returns-in-Some : goal.returns-in-Some
returns-in-Some c =
    let a = asking_of c.args.request.now in
    let seen = c.args.seen.now in
    let o = settled c.args.outcome in
    let text = string_bytes c.in-Some.reason in
    let is : ending_reason a seen o ≡ Some text =
    ap (ending_reason a seen) (sym c.settled.ensures) ∙ sym c.in_ok-reason.ensures
    ∙ ap (option_map string_bytes) c.in-Some.is in
    let add = known_ending a seen o text c.if-not-request.false is in
    let plain = c.as_str.ensures.value ∙ (c.in_ok-fault_line.ensures.ok
    ∙ ap (λ bytes. bytes ++ outcome_line c.args.outcome) c.new-line.ensures.bytes)
    ∙ add.plain in
    IfOk-weaker c.with_reason.result _ _
    (λ explained e. e ∙ ap (λ r. line (outcome_words o ++ codes ": " ++ r))
    c.as_str-in-Some.ensures.value ∙ add.whole)
    (c.with_reason.ensures (outcome_words o) plain)
