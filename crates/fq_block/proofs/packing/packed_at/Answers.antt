use Rattle.std.proofs.Common.{Some, ap, sym, subst, ◌∙◌}
use Rattle.fq_pair.specs.Mates.{Mates}
use Rattle.fq_block.specs.Packing.{HoldsPair, pair_in}
use Rattle.fq_block.proofs.BlockLemmas.{held_at, start_within, slice_get-pairs_at}
use Rattle.fq_block.proofs.packing.packed_at.Goals as goal

-- the pair begins within the bytes
pub split_at-requires : goal.split_at-requires
split_at-requires c = start_within _ _ _ c.requires.packed c.args.i c.requires.within

-- the bytes from its place on begin with pair i
pub returns : goal.returns
returns c = record {
  held = subst (HoldsPair c.args.encoding) (sym c.split_at.ensures.back)
      (held_at _ _ _ c.requires.packed c.args.i c.requires.within);
  pair = slice_get-pairs_at _ _ _ c.requires.packed c.args.i c.requires.within
      ∙ ap (λ (m : Mates). Some m) (ap (pair_in c.args.encoding) (sym c.split_at.ensures.back));
}
