use Rattle.std.proofs.Common.{◌≡◌, Bool, true, [], sym, ap, refl, subst}
use Rattle.fq_text.specs.Devices.{FeedState}
use Rattle.fq_text.specs.declared.encoding.Encoding.{Encoding}
use Rattle.fq_text.specs.Grammar.{Read, front}
use Rattle.fq_text.specs.Reading.{Lined}
use Rattle.fq_text.specs.Phases.{Goes, in_sequence, FindsTitle}
use Rattle.fq_text.proofs.GoLemmas.{returned, go_on, go_stop}
use Rattle.fq_text.proofs.parse.read_record.Goals as goal

-- a reader that found a title after it took no record has gone on to the sequence
titled : {F : Type 0} {state : F → FeedState} {a b c : Lined F} (e : Encoding) (parts : Read)
    (more : Bool) → b ≡ a → more ≡ true → FindsTitle state b c e parts more →
    Goes state a c (front e) (in_sequence parts.encoding parts.title [])
titled {F} {state} {a} {b} {c} e parts more same is step =
    let found = subst (λ (found : Bool). FindsTitle state b c e parts found) is step in
    subst (λ (r : Lined F). Goes state r c (front e) (in_sequence parts.encoding parts.title []))
    same (subst (λ x. Goes state b c (front e) (in_sequence x parts.title []))
    (sym (ap (λ (r : Read). r.encoding) found.1)) found.0)

-- a stop after the title is a stop as seen from before the title
pub returns-in_err-read_rest-in-None-clause-step : goal.returns-in_err-read_rest-in-None-clause-step
returns-in_err-read_rest-in-None-clause-step g c =
    returned _ _ _ c.from_residual-in_err-read_rest-in-None.ensures.1 (go_stop
    (titled c.args.encoding c.read_title.new.parts _ (c.in-None.ensures.none refl)
    c.if-not-branch.false c.in_ok-read_title-in-None.ensures.step) _
    c.in_ok-read_title-in-None.ensures.sound _ c.in_err-read_rest-in-None.ensures.step)

-- a title and what follows it are the next record
pub returns-in_ok-read_rest-in-None-clause-step : goal.returns-in_ok-read_rest-in-None-clause-step
returns-in_ok-read_rest-in-None-clause-step g c =
    go_on (titled c.args.encoding c.read_title.new.parts _ (c.in-None.ensures.none refl)
    c.if-not-branch.false c.in_ok-read_title-in-None.ensures.step)
    c.in_ok-read_rest-in-None.ensures.step
