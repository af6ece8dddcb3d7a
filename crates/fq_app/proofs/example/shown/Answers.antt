use Rattle.std.proofs.Common.{Some, ◌∙◌, ap, sym}
use Rattle.std.specs.Option.{option_map}
use Rattle.fq_app.proofs.example.shown.Goals as goal

-- a run that is shown has finished, and each of its texts is below its label
pub returns-in_ok-labelled-in-Finished-Some-clause-text : goal.returns-in_ok-labelled-in-Finished-Some-clause-text
returns-in_ok-labelled-in-Finished-Some-clause-text c =
    let log = ap (option_map (λ l. l.bytes)) c.in-Finished-Some.is-1
    ∙ ap Some (sym c.bytes.ensures) in
    (c.in-Finished-Some.is-0, (c.bytes.result.now, log, c.in_ok-labelled-in-Finished-Some.ensures))
