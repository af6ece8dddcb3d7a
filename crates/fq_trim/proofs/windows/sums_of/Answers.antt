use Rattle.std.proofs.Common.{refl, arith, ap, ◌∙◌, ◌-◌, ℕ, map, get_or}
use Rattle.std.proofs.lemmas.List.{get_or-replicate, length-map}
use Rattle.fq_trim.proofs.PlaceLemmas.{map_part}
use Rattle.fq_trim.proofs.WindowLemmas.{lane_more}
use Rattle.fq_trim.proofs.windows.sums_of.Goals as goal

-- the sums of no bases are 0
pub loop-i-init : goal.loop-i-init
loop-i-init c = record {
  long = refl;
  each = λ k lt. get_or-replicate 32 k 0 0 lt;
}

-- each sum is now that of one more base
pub loop-i-preserved : goal.loop-i-preserved
loop-i-preserved c =
    let old = c.loop-i.invariant in
    let less = λ (byte : ℕ). byte - c.args.offset in
    let q = map less c.args.qual.now in
    let len = length-map c.args.qual.now less in
    record {
      long = c.type_inv.sums.0;
      each = λ k lt. ap (λ sums. get_or sums k 0) c.plus-sums.ensures
          ∙ lane_more c.loop-i.i k q c.loop-i.sums c.less_32-scores.result old.long
          (omega arith) lt (c.less_32-scores.ensures ∙ map_part less c.loop-i.i 32 c.args.qual.now)
          (old.each k lt);
    }
