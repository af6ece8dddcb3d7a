use Rattle.std.proofs.Common.{◌∙◌, Option, ap, sym}
use Rattle.std.specs.Option.{option_map}
use Rattle.fq_run_core.specs.declared.outcome.Outcome.TheVariants.{Lane}
use Rattle.fq_app_words.specs.Requests.{Asking, asking_of}
use Rattle.fq_app_reasons.specs.Lines.{line_for}
use Rattle.fq_app.proofs.telling.told_lane.Goals as goal

-- a request has the line of its own
pub returns-in-Some : goal.returns-in-Some
returns-in-Some c = λ seen. c.lane_line.ensures seen
    ∙ ap (λ (asked : Option Asking). line_for asked seen Lane)
    (sym (ap (option_map (λ r. asking_of r.now)) c.in-Some.is))
