use Rattle.std.proofs.Common.{rules, ◌∙◌, Option, List, ℕ, inl, ap, sym, subst}
use Rattle.std.specs.Option.{option_map}
use Rattle.fq_app_words.specs.Requests.{Asking, asking_of}
use Rattle.fq_app_files.specs.Faults.{outcome_status}
use Rattle.fq_app_reasons.specs.Lines.{line_for}
use Rattle.fq_app.specs.Answers.{Device, TookText, device_of}
use Rattle.fq_app.proofs.AnswerLemmas.{told_memory}
use Rattle.fq_app.proofs.telling.tell_account.Goals as goal
use Rattle.fq_app.proofs.telling.tell_account.Goals.{in-Lane, in_default}

-- standard error took the line of a lane that is not confirmed
pub returns-then-matches-clause-line : goal.returns-then-matches-clause-line
returns-then-matches-clause-line g c = λ some.
    let asked : Option Asking = option_map (λ r. asking_of r.now) c.args.request in
    let err : Device = device_of g.E.Outlet.state c.args.err.now c.send_line.new.err in
    elim c.match-matches.branch [
      | in-Lane w ↦ inl (
        sym (ap outcome_status w.in-Lane.is),
        subst (λ (text : List ℕ). TookText err text)
            (c.told_lane.ensures c.args.seen.now ∙ ap (line_for asked c.args.seen.now)
            (sym w.in-Lane.is))
            c.send_line.ensures.told,
      )
      | in_default w ↦ absurd (search rules)
    ]

-- at status 5 standard error took the line for refused memory
pub returns-clause-prints : goal.returns-clause-prints
returns-clause-prints g c =
    let asked : Option Asking = option_map (λ r. asking_of r.now) c.args.request in
    let err : Device = device_of g.E.Outlet.state c.args.err.now c.send_line-2.new.err in record {
      finished = search rules;
      quiet = search rules;
      failed = search rules;
      memory = λ five. (
        search rules,
        told_memory asked c.args.seen.now c.args.account.now.outcome err
            (sym c.status_of-status.ensures ∙ five)
            (subst (λ (text : List ℕ). TookText err text)
            (c.as_str.ensures.value ∙ c.in-Ok.ensures) c.send_line-2.ensures.told),
      );
    }
