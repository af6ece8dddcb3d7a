use Rattle.std.proofs.Common.{◌≡◌, ◌∙◌, ap, length, map, min, take, arith}
use Rattle.std.proofs.lemmas.List.{take_all, take_min}
use Rattle.fq_app_reasons.specs.Ended.{shown_byte}
use Rattle.fq_app_reasons.proofs.ended.shown_name.Goals as goal

-- all of the front was taken, which is the first 100 bytes
pub returns : goal.returns
returns c =
    let name = c.args.name.now in
    let most : c.min.result ≡ min 100 (length name) = omega arith in
    c.loop-byte.invariant
    ∙ ap (map shown_byte) (take_all c.loop-byte.byte-index _ c.loop-byte-test.false
    ∙ (ap (λ k. take k name) most ∙ take_min 100 name))
