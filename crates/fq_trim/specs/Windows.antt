-- The windows of a read, and vectors of scores.
use Rattle.std.specs.Prelude.{ℕ, ◌+◌, ◌-◌, ◌<◌, ◌≤◌, List, length, take, drop, map, sum, slice_index}

-- the scores of quality bytes in an encoding in which each score is the byte minus the same number
abbrev pub distances : ℕ → List ℕ → List ℕ
distances offset qual = map (λ byte. byte - offset) qual

-- The first window of w scores that sums to less than `least` ends at index `stop`. If there is no
-- such window, `stop` is the number of scores.
pub record IsGoodStop (w least : ℕ) (q : List ℕ) (stop : ℕ) : Type 0 where
  pub within : stop ≤ length q
  pub some : w ≤ stop + 1
  pub good : (s : ℕ) → s + w ≤ stop → least ≤ sum (take w (drop s q))
  pub bad : stop < length q → sum (take w (drop (stop + 1 - w) q)) < least

-- `count` sums are before the first that is less than `least`, or all of them if there is none.
pub record IsFirstBelow (least : ℕ) (sums : List ℕ) (count : ℕ) : Type 0 where
  pub within : count ≤ length sums
  pub good : (k : ℕ) → k < count → least ≤ slice_index sums k
  pub bad : count < length sums → slice_index sums count < least

-- how many scores a vector holds where the end of a read is searched
abbrev pub vector_scores : ℕ
vector_scores = 16

-- the last `count` scores of a vector are less than `score`
pub record IsLowEnd (score : ℕ) (q : List ℕ) (count : ℕ) : Type 0 where
  pub within : count ≤ vector_scores
  pub low : (k : ℕ) → vector_scores ≤ k + count → k < vector_scores → slice_index q k < score
