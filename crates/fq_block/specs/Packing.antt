-- Pairs as bytes: each mate is two lengths and its three parts.
use Rattle.std.specs.Prelude.{ℕ, ◌+◌, ◌*◌, ◌^◌, ◌≤◌, List, ◌++◌, length, take, drop, flat_map}
use Rattle.std.specs.Int.{w32, to_be_bytes, from_be_bytes}
use Rattle.fq_text.specs.declared.encoding.Encoding.{Encoding}
use Rattle.fq_text.specs.Grammar.{Read, IsLawful}
use Rattle.fq_pair.specs.Mates.{Mates, mates_in}

-- four bytes can hold the lengths below this
abbrev pub length_limit : ℕ
length_limit = 2 ^ 32

-- a length in four bytes, most significant byte first
unfoldable pub packed_length : ℕ → List ℕ
packed_length n = to_be_bytes w32 n

-- a read: the length of its title, its number of bases, and then title, sequence and quality
abbrev pub packed_read : Read → List ℕ
packed_read read = packed_length (length read.title) ++ packed_length (length read.seq)
    ++ read.title ++ read.seq ++ read.qual

-- a pair: its forward read, then its reverse read
abbrev pub packed_pair : Mates → List ℕ
packed_pair m = packed_read m.forward ++ packed_read m.reverse

-- pairs, one after the other
abbrev pub packed_pairs : List Mates → List ℕ
packed_pairs pairs = flat_map packed_pair pairs

-- how many bytes a read takes
abbrev pub room_of : Read → ℕ
room_of read = length read.title + 2 * length read.seq + 8

-- Read back.

-- the length at the front
unfoldable pub length_in : List ℕ → ℕ
length_in packed = from_be_bytes w32 (take 4 packed)

-- the title length and number of bases of the read at the front, and its parts with the rest
abbrev pub title_len_in : List ℕ → ℕ
title_len_in packed = length_in packed

abbrev pub bases_in : List ℕ → ℕ
bases_in packed = length_in (drop 4 packed)

abbrev pub parts_in : List ℕ → List ℕ
parts_in packed = drop 4 (drop 4 packed)

-- the read at the front
abbrev pub read_in : Encoding → List ℕ → Read
read_in encoding packed = record {
  encoding = encoding;
  title = take (title_len_in packed) (parts_in packed);
  seq = take (bases_in packed) (drop (title_len_in packed) (parts_in packed));
  qual = take (bases_in packed)
      (drop (bases_in packed) (drop (title_len_in packed) (parts_in packed)));
}

-- what comes after it
abbrev pub after_read : List ℕ → List ℕ
after_read packed = drop (bases_in packed)
    (drop (bases_in packed) (drop (title_len_in packed) (parts_in packed)))

-- the pair at the front
abbrev pub pair_in : Encoding → List ℕ → Mates
pair_in encoding packed = mates_in (read_in encoding packed) (read_in encoding (after_read packed))

-- a whole lawful read is at the front
pub record HoldsRead (encoding : Encoding) (packed : List ℕ) : Type 0 where
  pub whole : 8 + title_len_in packed + bases_in packed + bases_in packed ≤ length packed
  pub lawful : IsLawful (read_in encoding packed)

-- a pair is at the front
abbrev pub HoldsPair : Encoding → List ℕ → Type 0
HoldsPair encoding packed = HoldsRead encoding packed × HoldsRead encoding (after_read packed)
