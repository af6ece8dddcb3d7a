-- The bases of a read that a step keeps, and those that a list of steps keeps: the steps of the
-- Trimmomatic manual, applied in order. AVGQUAL, and the base at which SLIDINGWINDOW cuts, are
-- defined by this project.
use Rattle.std.specs.Prelude.{◌≡◌, ℕ, zero, suc, ◌+◌, ◌-◌, ◌*◌, ◌<◌, ◌≤◌, Bool, true, false, ◌&&◌, nat_le, nat_lt, List, [], ◌∷◌, length, take, drop, map, sum, slice_index, if◌then◌else◌}
use Rattle.std.specs.List.{list_any, list_all}
use Rattle.fq_text.specs.declared.encoding.Encoding.{Encoding}
use Rattle.fq_text.specs.Scores.{value_of}
use Rattle.fq_trim.specs.declared.step.Step.{Step}
use Rattle.fq_trim.specs.declared.step.Step.TheVariants.{Leading, Trailing, Crop, HeadCrop, SlidingWindow, AverageQuality, MinLen, ToPhred33}

-- n indices, from a on
abbrev pub places : ℕ → ℕ → List ℕ
places a zero = []
places a (suc n) = a ∷ places (suc a) n

-- the scores of quality bytes
abbrev pub scores : Encoding → List ℕ → List ℕ
scores encoding qual = map (value_of encoding) qual

-- the w scores from index s on sum to at least w * t
abbrev pub is_good_window : ℕ → ℕ → List ℕ → ℕ → Bool
is_good_window w t q s = nat_le (w * t) (sum (take w (drop s q)))

-- the score at index j is at least t, and each window of w scores that ends at or before j is good
abbrev pub is_good_end : ℕ → ℕ → List ℕ → ℕ → Bool
is_good_end w t q j =
    nat_le t (slice_index q j) && list_all (is_good_window w t q) (places 0 (j + 2 - w))

-- the step keeps index i of the scores q
abbrev pub keeps : Step → List ℕ → ℕ → Bool
keeps (Leading t) q i = list_any (nat_le t) (take (suc i) q)
keeps (Trailing t) q i = list_any (nat_le t) (drop i q)
keeps (Crop m) q i = nat_lt i m
keeps (HeadCrop m) q i = nat_le m i
keeps (SlidingWindow w t) q i = (nat_le w (length q) && is_good_window w t q 0)
    && list_any (is_good_end w t q) (places i (length q - i))
keeps (AverageQuality t) q i = nat_le (t * length q) (sum q)
keeps (MinLen m) q i = nat_le m (length q)
keeps ToPhred33 q i = true

-- the members whose indices, counted from j, pass a test
abbrev pub select : (ℕ → Bool) → ℕ → List ℕ → List ℕ
select test j [] = []
select test j (p ∷ ps) = if test j then p ∷ select test (suc j) ps else select test (suc j) ps

-- the indices of the original read that are left of ps; each step is applied to the scores that are
-- still left
abbrev pub kept_of : List Step → List ℕ → List ℕ → List ℕ
kept_of [] q ps = ps
kept_of (step ∷ steps) q ps = kept_of steps q (select (keeps step (map (slice_index q) ps)) 0 ps)

-- the indices of a read with scores q that a list of steps keeps
abbrev pub kept : List Step → List ℕ → List ℕ
kept steps q = kept_of steps q (places 0 (length q))

-- the list of only the step at an index
abbrev pub only : ℕ → List Step → List Step
only place steps = take 1 (drop place steps)

-- of n indices, those from lo up to, not including, hi pass a test
pub record IsBetween (test : ℕ → Bool) (n lo hi : ℕ) : Type 0 where
  pub order : lo ≤ hi
  pub within : hi ≤ n
  pub before : (k : ℕ) → k < lo → k < n → test k ≡ false
  pub inside : (k : ℕ) → lo ≤ k → k < hi → test k ≡ true
  pub behind : (k : ℕ) → hi ≤ k → k < n → test k ≡ false

-- the most steps of a list
abbrev pub most_steps : ℕ
most_steps = 64

-- the largest number of a step: the largest of 9 digits
abbrev pub largest_number : ℕ
largest_number = 999999999

-- a number of a step is within the limit
abbrev pub is_small : ℕ → Bool
is_small m = nat_le m largest_number

-- the numbers of a step are within the limit, and a window has at least one base
abbrev pub is_in_range : Step → Bool
is_in_range (Leading t) = is_small t
is_in_range (Trailing t) = is_small t
is_in_range (Crop m) = is_small m
is_in_range (HeadCrop m) = is_small m
is_in_range (SlidingWindow w t) = nat_lt 0 w && (is_small w && is_small t)
is_in_range (AverageQuality t) = is_small t
is_in_range (MinLen m) = is_small m
is_in_range ToPhred33 = true

-- the step is TOPHRED33
abbrev pub is_recoding : Step → Bool
is_recoding ToPhred33 = true
is_recoding step = false

-- TOPHRED33 is in the list
abbrev pub recodes : List Step → Bool
recodes steps = list_any is_recoding steps
