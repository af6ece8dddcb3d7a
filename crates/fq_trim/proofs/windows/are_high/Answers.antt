use Rattle.std.proofs.Common.{◌&&◌, nat_le, take, ap, sym, ◌∙◌, arith}
use Rattle.std.specs.List.{list_all}
use Rattle.std.proofs.lemmas.List.Folds.{list_all_more}
use Rattle.fq_trim.specs.Keeping.{scores}
use Rattle.fq_trim.proofs.PlaceLemmas.{length-scores, score_at}
use Rattle.fq_trim.proofs.windows.are_high.Goals as goal

-- one more score is compared
pub loop-byte-preserved : goal.loop-byte-preserved
loop-byte-preserved c =
    let i = c.loop-byte.byte-index in
    let q = scores c.args.encoding c.args.qual.now in
    let same = c.from.ensures ∙ c.phred.ensures
    ∙ sym (score_at c.args.encoding c.args.qual.now i (omega arith)) in
    ap (λ b. b && nat_le c.args.score c.from.result) c.loop-byte.invariant
    ∙ ap (λ v. list_all (nat_le c.args.score) (take i q) && nat_le c.args.score v) same
    ∙ sym (list_all_more (nat_le c.args.score) q i 0
    (omega (arith, length-scores c.args.encoding c.args.qual.now)))
