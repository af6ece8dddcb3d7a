-- What is counted of bases by their positions in reads: eight columns, each of which has a row for
-- each position up to 10,000, as far as bases were counted, and one more for all positions above.
-- What names them one by one is here.
use Rattle.std.specs.Prelude.{ℕ, ◌+◌, ◌*◌, ◌≤◌, ◌<◌, nat_le, List, [], ◌∷◌, take, map, replicate}
use Rattle.fq_text.specs.declared.encoding.Encoding.{Encoding}
use Rattle.fq_trim.specs.Keeping.{scores}
use Rattle.fq_report_reads.specs.declared.columns.Columns.{Columns}
use Rattle.fq_report_reads.specs.Rows.{rows_plus}
use Rattle.fq_report_reads.specs.Courses.{Part}
use Rattle.fq_report_reads.specs.Letters.{is_a, is_c, is_g, is_t, is_n}
use Rattle.fq_report_reads.specs.Counting.{last_position, placed, shifted, one_if, lane_score}
use Rattle.fq_report_reads.specs.Counting.{most_reads, IsFew}

-- what some bases count in each column, by these numbers: 1 for each base, its score, and its
-- letter
abbrev pub counted_by : List ℕ → List ℕ → List ℕ → Columns
counted_by ones scores letters = record {
  bases = ones;
  score_sum = scores;
  q30_bases = map (one_if (nat_le 30)) scores;
  a = map (one_if is_a) letters;
  c = map (one_if is_c) letters;
  g = map (one_if is_g) letters;
  t = map (one_if is_t) letters;
  n = map (one_if is_n) letters;
}

-- the same rows in each column
abbrev pub all_columns : List ℕ → Columns
all_columns rows = record {
  bases = rows;
  score_sum = rows;
  q30_bases = rows;
  a = rows;
  c = rows;
  g = rows;
  t = rows;
  n = rows;
}

-- each column, changed in the same way
abbrev pub each_column : (List ℕ → List ℕ) → Columns → Columns
each_column change x = record {
  bases = change x.bases;
  score_sum = change x.score_sum;
  q30_bases = change x.q30_bases;
  a = change x.a;
  c = change x.c;
  g = change x.g;
  t = change x.t;
  n = change x.n;
}

-- the columns of both together
abbrev pub columns_plus : Columns → Columns → Columns
columns_plus x y = record {
  bases = rows_plus x.bases y.bases;
  score_sum = rows_plus x.score_sum y.score_sum;
  q30_bases = rows_plus x.q30_bases y.q30_bases;
  a = rows_plus x.a y.a;
  c = rows_plus x.c y.c;
  g = rows_plus x.g y.g;
  t = rows_plus x.t y.t;
  n = rows_plus x.n y.n;
}

-- All columns have the rows that this many reads can give. The highest score is 93.
pub record AreFew (rows len reads : ℕ) (x : Columns) : Type 0 where
  pub bases : IsFew rows len reads x.bases
  pub score_sum : IsFew rows len (93 * reads) x.score_sum
  pub q30_bases : IsFew rows len reads x.q30_bases
  pub a : IsFew rows len reads x.a
  pub c : IsFew rows len reads x.c
  pub g : IsFew rows len reads x.g
  pub t : IsFew rows len reads x.t
  pub n : IsFew rows len reads x.n

-- all columns, one after the other
abbrev pub columns_tables : Columns → List (List ℕ)
columns_tables t = t.bases ∷ t.score_sum ∷ t.q30_bases ∷ t.a ∷ t.c ∷ t.g ∷ t.t ∷ t.n ∷ []

-- Columns of all kinds.

abbrev pub no_columns : Columns
no_columns = all_columns []

-- this many rows in each column, all of which count 0
abbrev pub empty_rows : ℕ → Columns
empty_rows rows = all_columns (replicate rows 0)

-- the first rows of each column
abbrev pub first_rows : ℕ → Columns → Columns
first_rows rows x = each_column (take rows) x

-- the columns of bases, if the first is at this index of its read
abbrev pub columns_from : ℕ → Encoding → List ℕ → List ℕ → Columns
columns_from at encoding seq qual =
    each_column (placed at) (counted_by (map (λ _. 1) seq) (scores encoding qual) seq)

abbrev pub columns_of : Part → Columns
columns_of part = columns_from 0 part.encoding part.seq part.qual

-- one base with this score, in this row
abbrev pub one_in : ℕ → ℕ → ℕ → Columns
one_in row base score = each_column (shifted row) (counted_by (1 ∷ []) (score ∷ []) (base ∷ []))

-- the columns of two vectors, the first lane of which has this place
abbrev pub lanes_at : ℕ → Encoding → List ℕ → List ℕ → Columns
lanes_at at encoding bases bytes =
    each_column (shifted at)
    (counted_by (map (one_if (nat_le 1)) bytes) (map (lane_score encoding) bytes) bases)

-- What a counter holds of reads that are not among its totals yet. There is a row for each position
-- up to the last, and room for a vector after them. With one more read there is still room.
pub record HoldsFew (last reached reads : ℕ) (x : Columns) : Type 0 where
  pub few : AreFew (last + 32) reached reads x
  pub within : reached ≤ last
  pub near : last ≤ last_position
  pub room : reads < most_reads
