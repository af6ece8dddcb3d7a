-- Worked inputs: a pair of four bases, two empty reads, and no pairs.
use Rattle.std.proofs.Common.{◌≡◌, ℕ, List, [], ◌∷◌, ◌++◌, codes, refl}
use Rattle.fq_text.specs.declared.encoding.Encoding.TheVariants.{Sanger}
use Rattle.fq_text.specs.Grammar.{Read}
use Rattle.fq_pair.specs.Mates.{mates_in}
use Rattle.fq_block.specs.Packing.{packed_length, packed_pairs}

abbrev four_and_four : List ℕ
four_and_four = 0 ∷ 0 ∷ 0 ∷ 4 ∷ 0 ∷ 0 ∷ 0 ∷ 4 ∷ []

abbrev forward : Read
forward = record {
  encoding = Sanger;
  title = codes "p1/1";
  seq = codes "ACGT";
  qual =
      codes "#!II";
}

abbrev reverse : Read
reverse = record {
  encoding = Sanger;
  title = codes "p1/2";
  seq = codes "TTTT";
  qual =
      codes "IIII";
}

forty_bytes : packed_pairs (mates_in forward reverse ∷ [])
    ≡ four_and_four ++ codes "p1/1ACGT#!II" ++ four_and_four ++ codes "p1/2TTTTIIII"
unfolding packed_length
forty_bytes = refl

abbrev empty : Read
empty = record { encoding = Sanger; title = []; seq = []; qual = [] }

sixteen_zeros : packed_pairs (mates_in empty empty ∷ [])
    ≡ 0 ∷ 0 ∷ 0 ∷ 0 ∷ 0 ∷ 0 ∷ 0 ∷ 0 ∷ 0 ∷ 0 ∷ 0 ∷ 0 ∷ 0 ∷ 0 ∷ 0 ∷ 0 ∷ []
unfolding packed_length
sixteen_zeros = refl

-- A length of more than a byte: 1,048,576 is 0x00100000, and 0x01020304 is four different bytes.
most_bases : packed_length 1048576 ≡ 0 ∷ 16 ∷ 0 ∷ 0 ∷ []
unfolding packed_length
most_bases = refl

four_bytes : packed_length 16909060 ≡ 1 ∷ 2 ∷ 3 ∷ 4 ∷ []
unfolding packed_length
four_bytes = refl

no_bytes : packed_pairs [] ≡ []
no_bytes = refl
