-- What a block is.
use Rattle.std.specs.Prelude.{◌≡◌, ℕ, ◌+◌, ◌≤◌, List, [], ◌∷◌, length, drop, map}
use Rattle.fq_text.specs.declared.encoding.Encoding.{Encoding}
use Rattle.fq_text.specs.Grammar.{IsLawful}
use Rattle.fq_pair.specs.declared.name.NameLengths.{NameLengths}
use Rattle.fq_pair.specs.Mates.{Mates, name_lengths}
use Rattle.fq_block.specs.Packing.{packed_pair, packed_pairs, pair_in}

-- how many pairs a block has at most
abbrev pub most_pairs : ℕ
most_pairs = 65536

-- a number, an encoding and a list of pairs
pub record Numbered : Type 0 where
  pub number : ℕ
  pub encoding : Encoding
  pub pairs : List Mates

-- both mates are in this encoding
abbrev pub IsOf : Encoding → Mates → Type 0
IsOf encoding m = (m.forward.encoding ≡ encoding) × (m.reverse.encoding ≡ encoding)

-- How a block keeps its pairs: their bytes, where each begins, and the lengths of its names.

-- the pairs that begin at these places
abbrev pub pairs_at : Encoding → List ℕ → List ℕ → List Mates
pairs_at encoding bytes starts = map (λ start. pair_in encoding (drop start bytes)) starts

-- the places at which pairs begin if the first begins at n
abbrev pub starts_from : ℕ → List Mates → List ℕ
starts_from n [] = []
starts_from n (m ∷ ms) = n ∷ starts_from (n + length (packed_pair m)) ms

-- both mates are lawful and in this encoding
pub record Fits (encoding : Encoding) (m : Mates) : Type 0 where
  pub encodings : IsOf encoding m
  pub forward : IsLawful m.forward
  pub reverse : IsLawful m.reverse

abbrev pub AllFit : Encoding → List Mates → Type 0
AllFit encoding [] = Unit {0}
AllFit encoding (m ∷ ms) = Fits encoding m × AllFit encoding ms

-- the bytes are the packing of the pairs that begin at these places, and nothing else
pub record IsPacked (encoding : Encoding) (bytes starts : List ℕ) : Type 0 where
  pub packed : bytes ≡ packed_pairs (pairs_at encoding bytes starts)
  pub placed : starts ≡ starts_from 0 (pairs_at encoding bytes starts)
  pub fit : AllFit encoding (pairs_at encoding bytes starts)
  pub few : length starts ≤ most_pairs

-- these are the lengths of the names of each pair
abbrev pub AreNamed : List Mates → List NameLengths → Type 0
AreNamed pairs names = names ≡ map name_lengths pairs
