use Rattle.std.proofs.Common.{◌+◌, get_or, set, arith, ap, ◌∙◌}
use Rattle.std.proofs.lemmas.List.{get_or_default}
use Rattle.std.proofs.lemmas.List.Edits.{map_over_more}
use Rattle.fq_text.specs.Scores.{recoded}
use Rattle.fq_text.proofs.encoding.Encoding.recode.Goals as goal

-- the next byte is recoded, and the others stay as they are
pub loop-byte-preserved : goal.loop-byte-preserved
loop-byte-preserved c =
    let next = get_or c.loop-byte.bytes c.loop-byte.byte-index 0 in
    ap (λ b. set c.loop-byte.bytes c.loop-byte.byte-index b) (c.from_score33.ensures
    ∙ ap (λ s. s + 33) c.phred.ensures)
    ∙ map_over_more (recoded c.args.self) c.args.bytes.now c.loop-byte.bytes c.loop-byte.byte-index
    next (omega arith) c.loop-byte.invariant
    (get_or_default c.loop-byte.bytes c.loop-byte.byte-index 0 next (omega arith))
