-- What was packed is read back.
use Rattle.std.proofs.Common.{◌≡◌, ℕ, ◌+◌, ◌<◌, ◌≤◌, ◌^◌, List, ◌++◌, length, take, drop, refl, sym, ap, ◌∙◌, subst, append_assoc, length-append, arith}
use Rattle.std.proofs.Math.Seq.{take-append_seam, drop-append_seam}
use Rattle.std.proofs.lemmas.Nat.{from_be_bytes-to_be_bytes_4}
use Rattle.fq_text.specs.declared.encoding.Encoding.{Encoding}
use Rattle.fq_text.specs.Grammar.{Read, IsLawful}
use Rattle.fq_pair.specs.Mates.{Mates}
use Rattle.fq_block.specs.Packing.{packed_length, packed_read, packed_pair, length_in, title_len_in, bases_in, parts_in, read_in, after_read, pair_in, HoldsRead, HoldsPair}
use Rattle.fq_block.specs.Blocks.{Fits}
use Rattle.std.proofs.lemmas.Grind.{common_steps}

-- A length.

-- a length takes four bytes
pub length-packed_length : (n : ℕ) → length (packed_length n) ≡ 4
unfolding packed_length
length-packed_length n = refl

-- a length that was packed is read back
pub length_in-packed_length : (n : ℕ) (rest : List ℕ) → n < 2 ^ 32 →
    length_in (packed_length n ++ rest) ≡ n
unfolding packed_length length_in
length_in-packed_length n rest fits = from_be_bytes-to_be_bytes_4 n fits

-- after the four bytes of a length come the bytes that follow it
pub drop-packed_length : (n : ℕ) (rest : List ℕ) → drop 4 (packed_length n ++ rest) ≡ rest
unfolding packed_length
drop-packed_length n rest = refl

-- The parts of bytes that begin with two lengths.
module _ (packed title seq qual rest : List ℕ)
    (is : packed ≡ packed_length (length title) ++ (packed_length
    (length seq) ++ (title ++ (seq ++ (qual ++ rest)))))
    (title_fits : length title < 2 ^ 32) (seq_fits : length seq < 2 ^ 32) (same_len : length qual
    ≡ length seq) where
  -- the first length is that of the title
  pub title_len_is : title_len_in packed ≡ length title
  title_len_is = ap length_in is ∙ length_in-packed_length (length title) _ title_fits

  lengths_is : drop 4 packed ≡ packed_length (length seq) ++ (title ++ (seq ++ (qual ++ rest)))
  lengths_is = ap (drop 4) is ∙ drop-packed_length (length title) _

  -- the second length is that of the sequence
  pub bases_is : bases_in packed ≡ length seq
  bases_is = ap length_in lengths_is ∙ length_in-packed_length (length seq) _ seq_fits

  parts_is : parts_in packed ≡ title ++ (seq ++ (qual ++ rest))
  parts_is = ap (drop 4) lengths_is ∙ drop-packed_length (length seq) _

  -- the title is read back
  pub title_is : take (title_len_in packed) (parts_in packed) ≡ title
  title_is = ap (λ n. take n (parts_in packed)) title_len_is ∙ ap (take (length title)) parts_is
      ∙ take-append_seam title _

  scored_is : drop (title_len_in packed) (parts_in packed) ≡ seq ++ (qual ++ rest)
  scored_is = ap (λ n. drop n (parts_in packed)) title_len_is ∙ ap (drop (length title)) parts_is
      ∙ drop-append_seam title _

  -- the sequence is read back
  pub seq_is : take (bases_in packed) (drop (title_len_in packed) (parts_in packed)) ≡ seq
  seq_is = ap (λ n. take n (drop (title_len_in packed) (parts_in packed))) bases_is
      ∙ ap (take (length seq)) scored_is ∙ take-append_seam seq _

  scores_is : drop (bases_in packed) (drop (title_len_in packed) (parts_in packed)) ≡ qual ++ rest
  scores_is = ap (λ n. drop n (drop (title_len_in packed) (parts_in packed))) bases_is
      ∙ ap (drop (length seq)) scored_is ∙ drop-append_seam seq _

  scores_len : bases_in packed ≡ length qual
  scores_len = bases_is ∙ sym same_len

  -- the quality is read back
  pub qual_is : take (bases_in packed) (drop (bases_in packed) (drop (title_len_in packed)
      (parts_in packed))) ≡ qual
  qual_is = ap (take (bases_in packed)) scores_is ∙ ap (λ n. take n (qual ++ rest)) scores_len
      ∙ take-append_seam qual rest

  -- after the read come the bytes that follow it
  pub after_is : after_read packed ≡ rest
  after_is = ap (drop (bases_in packed)) scores_is ∙ ap (λ n. drop n (qual ++ rest)) scores_len
      ∙ drop-append_seam qual rest

  -- both lengths and all three parts are within the bytes
  pub whole_is : 8 + title_len_in packed + bases_in packed + bases_in packed ≤ length packed
  whole_is =
      grind (arith, common_steps, length-packed_length, length-append, title_len_is, bases_is)

-- A read.
module _ (r : Read) (lawful : IsLawful r) where
  title_small : length r.title < 2 ^ 32
  title_small = omega (arith, lawful.title_fits)

  seq_small : length r.seq < 2 ^ 32
  seq_small = omega (arith, lawful.seq_fits)

  module _ (rest : List ℕ) where
    bytes_are : packed_read r ++ rest ≡ packed_length (length r.title) ++ (packed_length
        (length r.seq) ++ (r.title ++ (r.seq ++ (r.qual ++ rest))))
    bytes_are = simp append_assoc

    -- a valid read that was packed is read back
    pub read_in-packed_read : read_in r.encoding (packed_read r ++ rest) ≡ r
    read_in-packed_read =
        grind (arith, common_steps, title_is, bytes_are, title_small, seq_small, seq_is, qual_is)

    -- after a valid read that was packed come the bytes that follow it
    pub after_read-packed_read : after_read (packed_read r ++ rest) ≡ rest
    after_read-packed_read = after_is (packed_read r ++ rest) r.title r.seq r.qual rest bytes_are
        title_small seq_small lawful.same_len

    -- bytes that begin with a packed valid read hold a whole valid read
    pub HoldsRead-packed_read : HoldsRead r.encoding (packed_read r ++ rest)
    HoldsRead-packed_read = record {
      whole = whole_is (packed_read r ++ rest) r.title r.seq r.qual rest bytes_are title_small
          seq_small lawful.same_len;
      lawful = subst IsLawful (sym read_in-packed_read) lawful;
    }

-- A pair.

module _ (encoding : Encoding) (m : Mates) (fits : Fits encoding m) (rest : List ℕ) where
  pair_bytes : packed_pair m ++ rest ≡ packed_read m.forward ++ (packed_read m.reverse ++ rest)
  pair_bytes = append_assoc (packed_read m.forward) (packed_read m.reverse) rest

  forward_in : read_in encoding (packed_pair m ++ rest) ≡ m.forward
  forward_in =
      grind (arith, common_steps, pair_bytes, read_in-packed_read)

  after_forward : after_read (packed_pair m ++ rest) ≡ packed_read m.reverse ++ rest
  after_forward = ap after_read pair_bytes
      ∙ after_read-packed_read m.forward fits.forward (packed_read m.reverse ++ rest)

  reverse_in : read_in encoding (after_read (packed_pair m ++ rest)) ≡ m.reverse
  reverse_in = ap (read_in encoding) after_forward
      ∙ ap (λ e. read_in e (packed_read m.reverse ++ rest)) (sym fits.encodings.1)
      ∙ read_in-packed_read m.reverse fits.reverse rest

  -- a pair that was packed is read back
  pub pair_in-packed_pair : pair_in encoding (packed_pair m ++ rest) ≡ m
  pair_in-packed_pair =
      grind (arith, common_steps, forward_in, reverse_in)

  -- bytes that begin with a packed pair hold a pair
  pub HoldsPair-packed_pair : HoldsPair encoding (packed_pair m ++ rest)
  HoldsPair-packed_pair =
      grind (arith, common_steps, pair_bytes, HoldsRead-packed_read, after_forward)
