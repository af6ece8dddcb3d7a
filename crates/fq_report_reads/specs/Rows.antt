-- How many reads have each number, a histogram: row n counts the reads that have n.
use Rattle.std.specs.Prelude.{ℕ, ◌≤◌, Bool, List, [], ◌∷◌, ◌++◌, length, min, replicate, if◌then◌else◌}
use Rattle.fq_trim.specs.Sums.{capped_sum}

-- the index of the last row of a histogram, which counts all numbers above 10,000
abbrev pub last_row : ℕ
last_row = 10001

-- how many rows there can be
abbrev pub most_rows : ℕ
most_rows = 10002

-- the rows of both together
abbrev pub rows_plus : List ℕ → List ℕ → List ℕ
rows_plus [] ns = ns
rows_plus (m ∷ ms) [] = m ∷ ms
rows_plus (m ∷ ms) (n ∷ ns) = capped_sum m n ∷ rows_plus ms ns

-- one more in a row
abbrev pub with_one : ℕ → List ℕ → List ℕ
with_one row rows = rows_plus rows (replicate row 0 ++ (1 ∷ []))

-- the row of a number: those above 10,000 share one
abbrev pub row_of : ℕ → ℕ
row_of number = min number last_row

-- one more of a number
abbrev pub counted : ℕ → List ℕ → List ℕ
counted number rows = with_one (row_of number) rows

-- one more of a number, if this holds
abbrev pub counted_if : Bool → ℕ → List ℕ → List ℕ
counted_if holds number rows = if holds then counted number rows else rows

-- one more of each of these numbers
abbrev pub counted_all : List ℕ → List ℕ → List ℕ
counted_all [] rows = rows
counted_all (n ∷ ns) rows = counted_all ns (counted n rows)

-- there is room for each row
pub record HasRoom (rows : List ℕ) (most : ℕ) : Type 0 where
  pub few : length rows ≤ most_rows
  pub room : most_rows ≤ most
