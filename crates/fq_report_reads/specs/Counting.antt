-- How bases are counted by their positions in one column.
use Rattle.std.specs.Prelude.{◌≡◌, ◌≤◌, ℕ, Bool, nat_le, ◌==◌, ◌||◌, if◌then◌else◌}
use Rattle.std.specs.Prelude.{List, [], ◌∷◌, ◌++◌, length, get_or, take, drop, replicate, sum}
use Rattle.fq_text.specs.declared.encoding.Encoding.{Encoding}
use Rattle.fq_text.specs.Scores.{is_scored, value_of}

-- the largest position that has a row of its own
abbrev pub last_position : ℕ
last_position = 10000

-- numbers in the order of their positions, those of the positions above 10,000 added up
abbrev pub by_position : List ℕ → List ℕ
by_position ns =
    if nat_le (length ns) last_position then ns
    else take last_position ns ++ (sum (drop last_position ns) ∷ [])

-- numbers behind this many rows that count 0
abbrev pub shifted : ℕ → List ℕ → List ℕ
shifted at ns = replicate at 0 ++ ns

-- numbers in the order of their positions, if the first is at this index of its read
abbrev pub placed : ℕ → List ℕ → List ℕ
placed at ns = by_position (shifted at ns)

-- 1 if this holds of a number, or else 0
abbrev pub one_if : (ℕ → Bool) → ℕ → ℕ
one_if holds n = if holds n then 1 else 0

-- Vectors: a quality byte 0 means that there is no base.

-- the byte has a score, or there is none
abbrev pub is_lane : Encoding → ℕ → Bool
is_lane encoding byte = byte == 0 || is_scored encoding byte

-- the score, or 0 if there is no base
abbrev pub lane_score : Encoding → ℕ → ℕ
lane_score encoding byte = if byte == 0 then 0 else value_of encoding byte

-- Bounds of the counts of a few reads, which have 8 or 16 bits.

-- how many reads are counted before their counts are added to the totals: each adds at most 1 to a
-- count of 8 bits, and 1 more still fits
abbrev pub most_reads : ℕ
most_reads = 254

-- the largest number of 16 bits
abbrev pub largest_word : ℕ
largest_word = 65535

-- the largest number of 16 bits to which any byte can be added
abbrev pub word_before_byte : ℕ
word_before_byte = 65280

-- the most rows that count anything: one for each position up to 10,000, and a vector's 32 more
abbrev pub few_rows : ℕ
few_rows = 10032

-- no number of a list is above this
abbrev pub AtMost : ℕ → List ℕ → Type 0
AtMost most xs = (k : ℕ) → get_or xs k 0 ≤ most

-- Rows that a few reads can have, of which there are at least so many: those from `len` on count 0,
-- and none counts more than this.
pub record IsFew (rows len most : ℕ) (counts : List ℕ) : Type 0 where
  pub size : rows ≤ length counts
  pub behind : (k : ℕ) → len ≤ k → get_or counts k 0 ≡ 0
  pub small : AtMost most counts
