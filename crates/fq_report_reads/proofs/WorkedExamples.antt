-- Worked reads, computed from the definitions alone.
use Rattle.std.proofs.Common.{◌≡◌, ℕ, true, false, List, [], ◌∷◌, codes, refl}
use Rattle.fq_text.specs.declared.encoding.Encoding.TheVariants.{Sanger}
use Rattle.fq_text.specs.Grammar.{Read}
use Rattle.fq_trim.specs.declared.step.Step.{Step}
use Rattle.fq_trim.specs.declared.step.Step.TheVariants.{Leading, Trailing, MinLen}
use Rattle.fq_report_reads.specs.declared.bases.BaseTally.{BaseTally}
use Rattle.fq_report_reads.specs.Rows.{row_of, counted, rows_plus}
use Rattle.fq_report_reads.specs.Courses.{course, passage}
use Rattle.fq_report_reads.specs.Letters.{is_gc, is_n}
use Rattle.fq_report_reads.specs.SideTallies.{mean_score, gc_percent, bases_of}

-- Rows.

row_of_longest : row_of 10000 ≡ 10000
row_of_longest = refl

row_of_longer : row_of 1048576 ≡ 10001
row_of_longer = refl

counted_behind : counted 2 (5 ∷ []) ≡ 5 ∷ 0 ∷ 1 ∷ []
counted_behind = refl

counted_there : counted 0 (5 ∷ 7 ∷ []) ≡ 6 ∷ 7 ∷ []
counted_there = refl

counted_most : counted 0 (18446744073709551615 ∷ []) ≡ 18446744073709551615 ∷ []
counted_most = refl

rows_of_both : rows_plus (1 ∷ 2 ∷ []) (10 ∷ 0 ∷ 30 ∷ []) ≡ 11 ∷ 2 ∷ 30 ∷ []
rows_of_both = refl

-- Bases.

lower_c : is_gc 99 ≡ true
lower_c = refl

no_s : is_gc 83 ≡ false
no_s = refl

lower_n : is_n 110 ≡ true
lower_n = refl

-- The scores 2, 20, 30, 29 and 40.
some_bases : bases_of (record { encoding = Sanger; seq = codes "GcANn"; qual = codes "#5?>I" })
    ≡ record { bases = 5; at_least_20 = 4; at_least_30 = 2; score_sum = 121; gc = 2; n = 2 }
some_bases = refl

abbrev scored : ℕ → ℕ → ℕ → BaseTally
scored bases score_sum gc = record {
  bases = bases;
  at_least_20 = 0;
  at_least_30 = 0;
  score_sum =
      score_sum;
  gc = gc;
  n = 0;
}

-- 119 / 4 is 29.75
mean_is_cut : mean_score (scored 4 119 0) ≡ 29
mean_is_cut = refl

-- 1 of 3 is 33.3 per cent, 2 of 3 are 66.7, 1 of 8 is 12.5
a_third : gc_percent (scored 3 0 1) ≡ 33
a_third = refl

two_thirds : gc_percent (scored 3 0 2) ≡ 67
two_thirds = refl

half_a_per_cent : gc_percent (scored 8 0 1) ≡ 13
half_a_per_cent = refl

-- What steps do.

-- a read of Sanger scores
abbrev pub read_of : List ℕ → List ℕ → Read
read_of seq qual = record { encoding = Sanger; title = codes "r"; seq = seq; qual = qual }

abbrev ends : List (List Step)
ends = (Leading 3 ∷ []) ∷ (Trailing 3 ∷ []) ∷ (MinLen 2 ∷ []) ∷ []

both_ends : course ends (read_of (codes "ACGT") (codes "#II#")) ≡ record {
  left =
      record { encoding = Sanger; seq = codes "CG"; qual = codes "II" };
  front = 1;
  shortened =
      0 ∷ 1 ∷ [];
  dropped = [];
}
both_ends = refl

both_ends_pass : passage (Leading 3 ∷ Trailing 3 ∷ MinLen 2 ∷ [])
    (read_of (codes "ACGT") (codes "#II#")) ≡ record {
      kept = 1 ∷ 2 ∷ [];
      front = 1;
      shortened =
          0 ∷ 1 ∷ [];
      dropped = [];
    }
both_ends_pass = refl

short_pass : passage (Leading 3 ∷ Trailing 3 ∷ MinLen 2 ∷ [])
    (read_of (codes "ACGT") (codes "##I#")) ≡ record {
      kept = [];
      front = 2;
      shortened =
          0 ∷ 1 ∷ [];
      dropped = 2 ∷ [];
    }
short_pass = refl

too_short : (course ends (read_of (codes "ACGT") (codes "##I#"))).dropped ≡ 2 ∷ []
too_short = refl

low_throughout : (course ends (read_of (codes "ACGT") (codes "####"))).dropped ≡ 0 ∷ []
low_throughout = refl

no_bases_to_drop : (course ends (read_of [] [])).dropped ≡ 0 ∷ []
no_bases_to_drop = refl

untouched : course ends (read_of (codes "AC") (codes "II")) ≡ record {
  left =
      record { encoding = Sanger; seq = codes "AC"; qual = codes "II" };
  front = 0;
  shortened =
      [];
  dropped = [];
}
untouched = refl
