-- Worked reads, counted by position, computed from the definitions alone.
use Rattle.std.proofs.Common.{◌≡◌, ◌<◌, ℕ, nat_le, sum, List, [], ◌∷◌, ◌++◌, length, codes, refl, ap₂, ◌∙◌, arith}
use Rattle.std.proofs.lemmas.List.{take_at, drop_at, length-append}
use Rattle.std.proofs.lemmas.Bool.{cond-true, cond-false, le-leb, lt-leb}
use Rattle.fq_text.specs.declared.encoding.Encoding.TheVariants.{Sanger, Solexa}
use Rattle.fq_report_reads.specs.Counting.{by_position}
use Rattle.fq_report_reads.specs.Columns.{columns_from, columns_of, columns_plus}

-- A read of 10,000 bases, one of 10,001 and one of 10,002, by the numbers at its first 10,000.

first_ones : (front : List ℕ) → length front ≡ 10000 → by_position front ≡ front
first_ones front is = cond-true (nat_le (length front) 10000) _ _
    (le-leb (length front) 10000 (omega arith))

beyond : (front behind : List ℕ) → length front ≡ 10000 → 0 < length behind →
    by_position (front ++ behind) ≡ front ++ (sum behind ∷ [])
beyond front behind is some =
    cond-false (nat_le (length (front ++ behind)) 10000) _ _
    (lt-leb (length (front ++ behind)) 10000 (omega (arith, length-append front behind)))
    ∙ ap₂ (λ x y. x ++ (sum y ∷ [])) (take_at front behind 10000 is) (drop_at front behind 10000 is)

one_beyond : (front : List ℕ) → length front ≡ 10000 →
    by_position (front ++ (1 ∷ [])) ≡ front ++ (1 ∷ [])
one_beyond front is = beyond front (1 ∷ []) is (omega arith)

two_beyond : (front : List ℕ) → length front ≡ 10000 →
    by_position (front ++ (40 ∷ 2 ∷ [])) ≡ front ++ (42 ∷ [])
two_beyond front is = beyond front (40 ∷ 2 ∷ []) is (omega arith)

-- The scores 30, 29 and 2.
three_bases : columns_of (record { encoding = Sanger; seq = codes "aGN"; qual = codes "?>#" })
    ≡ record {
      bases = 1 ∷ 1 ∷ 1 ∷ [];
      score_sum = 30 ∷ 29 ∷ 2 ∷ [];
      q30_bases = 1 ∷ 0 ∷ 0 ∷ [];
      a = 1 ∷ 0 ∷ 0 ∷ [];
      c = 0 ∷ 0 ∷ 0 ∷ [];
      g = 0 ∷ 1 ∷ 0 ∷ [];
      t = 0 ∷ 0 ∷ 0 ∷ [];
      n = 0 ∷ 0 ∷ 1 ∷ [];
    }
three_bases = refl

-- Byte 59 is the Solexa score -5, the Phred score 1. An S is a base and no letter that is counted.
third_base : columns_from 2 Solexa (codes "S") (codes ";") ≡ record {
  bases = 0 ∷ 0 ∷ 1 ∷ [];
  score_sum = 0 ∷ 0 ∷ 1 ∷ [];
  q30_bases = 0 ∷ 0 ∷ 0 ∷ [];
  a = 0 ∷ 0 ∷ 0 ∷ [];
  c = 0 ∷ 0 ∷ 0 ∷ [];
  g = 0 ∷ 0 ∷ 0 ∷ [];
  t = 0 ∷ 0 ∷ 0 ∷ [];
  n = 0 ∷ 0 ∷ 0 ∷ [];
}
third_base = refl

two_reads : (columns_plus (columns_from 0 Sanger (codes "TT") (codes "II"))
    (columns_from 0 Sanger (codes "t") (codes "!"))).t ≡ 2 ∷ 1 ∷ []
two_reads = refl
