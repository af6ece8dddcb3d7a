use Rattle.std.proofs.Common.{◌≡◌, ◌-◌, ◌+◌, arith, ap, sym, ◌∙◌, true, nat_le, take, drop}
use Rattle.std.specs.List.{list_all}
use Rattle.fq_trim.specs.Keeping.{scores}
use Rattle.fq_trim.specs.declared.windows.TheConstants.{HIGH_CHUNK}
use Rattle.fq_trim.proofs.PlaceLemmas.{scores_of_part, high_more}
use Rattle.fq_trim.proofs.windows.high_stop.Goals as goal

-- a chunk of high scores comes after the high scores so far
pub loop-stop-preserved : goal.loop-stop-preserved
loop-stop-preserved c =
    let stop = c.loop-stop.stop in
    let q = scores c.args.encoding c.args.qual.now in
    let within = c.loop-stop.invariant.within in
    let size : stop + HIGH_CHUNK - stop ≡ HIGH_CHUNK = omega arith in
    let next : list_all (nat_le c.args.score) (take HIGH_CHUNK (drop stop q)) ≡ true =
    ap (λ n. list_all (nat_le c.args.score) (take n (drop stop q))) (sym size)
    ∙ ap (list_all (nat_le c.args.score)) (sym (scores_of_part c.args.encoding c.args.qual.now stop
    (stop + HIGH_CHUNK - stop)))
    ∙ sym c.are_high.ensures ∙ c.if-are_high.true in
    record {
      within = omega arith;
      high = high_more c.args.score stop HIGH_CHUNK q c.loop-stop.invariant.high next;
    }
