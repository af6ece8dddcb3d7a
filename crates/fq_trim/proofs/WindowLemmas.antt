-- Windows that are compared in a vector.
use Rattle.std.proofs.Common.{◌≡◌, ℕ, suc, zero, ◌+◌, ◌-◌, ◌%◌, ◌*◌, ◌^◌, ◌<◌, ◌≤◌, Fits, w8, Bool, true, false, not, ◌&&◌, cond, ltb, leb, eqb, List, [], ◌∷◌, length, take, drop, get_or, map, min, sum, refl, sym, ap, ap₂, ◌∙◌, arith, replicate, take-add, ⊎_elim}
use Rattle.std.specs.List.{prefix_len, list_all}
use Rattle.std.proofs.lemmas.Bool.{ltb-true, ltb-false, lt-leb, le-leb, and_left, and_right, and_from, eq-eqb, ne_eqb, cases_eq, cases_lt, not-true, not-false}
use Rattle.std.proofs.lemmas.List.{length-map, length-drop, length-take, length-take-le, drop-map, drop-drop, take_all}
use Rattle.std.proofs.lemmas.List.Folds.{list_all-append}
use Rattle.std.proofs.lemmas.List.Sums.{prefix_len-le-length, prefix_len_passes, prefix_len_stops}
use Rattle.std.proofs.lemmas.Simd.{get_or-chunk, get_or-zip2, length-chunk}
use Rattle.std.proofs.lemmas.Grind.{common_steps}
use Rattle.fq_trim.specs.Windows.{distances, IsGoodStop, IsFirstBelow}
use Rattle.fq_trim.proofs.PlaceLemmas.{high_window, sum_more, map_part}
use Rattle.fq_text.proofs.VectorLemmas.{flag, mask_of, both_in}
use native.Mathlib.Nat.{one-le-pow, two-pow-succ}
use lib.Lanes.{Each1, zip2, sel_l, mask_l, chunk, top}

-- A vector with 255 at each index for which a comparison holds, and 0 at the others, chooses
-- between two other vectors.
chosen : (b : Bool) (x y : ℕ) → cond (top 7 (cond b 255 0)) x y ≡ cond b x y
chosen true x y = refl
chosen false x y = refl

-- the larger of two bytes minus one of them
less_one : (x o : ℕ) → Fits w8 x → Fits w8 o → (cond (ltb x o) o x + (256 - o)) % 256 ≡ x - o
less_one x o small off = grind (arith, common_steps, ltb-true, ltb-false)

-- a byte plus the smaller of another byte and what is left of 255
plus_one : (x y : ℕ) → Fits w8 x → Fits w8 y →
    (x + cond (ltb y (255 - x)) y (255 - x)) % 256 ≡ min 255 (x + y)
plus_one x y small other = grind (arith, common_steps, ltb-true, ltb-false)

-- each byte minus the same number
pub each_less : (v : List ℕ) (o n : ℕ) → length v ≡ n → Each1 (Fits w8) v → Fits w8 o →
    zip2 (λ a b. (a + (256 - b)) % 256) (sel_l (map (top 7)
    (zip2 (λ a b. cond (ltb a b) 255 0) v (replicate n o))) (replicate n o) v) (replicate n o)
    ≡ map (λ x. x - o) v
each_less [] o n long fits off = refl
each_less (x ∷ xs) o zero long fits off = absurd (omega arith)
each_less (x ∷ xs) o (suc n) long fits off =
    grind (arith, common_steps, chosen, less_one, each_less xs o n)

-- the pair of bytes at an index of two vectors
pub each_plus : (v u : List ℕ) → length v ≡ length u → Each1 (Fits w8) v → Each1 (Fits w8) u →
    zip2 (λ a b. (a + b) % 256) v
    (sel_l (map (top 7) (zip2 (λ a b. cond (ltb a b) 255 0) u (map (λ a. 255 - a) v))) u
    (map (λ a. 255 - a) v)) ≡ zip2 (λ x y. min 255 (x + y)) v u
each_plus [] [] long fits others = refl
each_plus [] (y ∷ ys) long fits others = refl
each_plus (x ∷ xs) [] long fits others = absurd (omega arith)
each_plus (x ∷ xs) (y ∷ ys) long fits others =
    grind (arith, common_steps, chosen, plus_one, each_plus xs ys)

-- the lower of each two bytes
pub each_lower : (v u : List ℕ) → sel_l (map (top 7) (zip2 (λ a b. cond (ltb a b) 255 0) v u)) v u
    ≡ zip2 min v u
each_lower [] u = refl
each_lower (x ∷ xs) [] = refl
each_lower (x ∷ xs) (y ∷ ys) =
    grind (arith, common_steps, chosen, ltb-true, ltb-false, each_lower xs ys)

-- The lower of two bytes has a high score exactly if both have.
both_high : (score o x y : ℕ) → leb score (min x y - o) ≡ leb score (x - o) && leb score (y - o)
both_high score o x y =
    grind (arith, common_steps, lt-leb, and_left, and_right, cases_lt, le-leb, and_from)

all_both_high : (score o : ℕ) (v u : List ℕ) → length v ≡ length u →
    list_all (leb score) (distances o (zip2 min v u))
    ≡ list_all (leb score) (distances o v) && list_all (leb score) (distances o u)
all_both_high score o [] [] long = refl
all_both_high score o [] (y ∷ ys) long = absurd (omega arith)
all_both_high score o (x ∷ xs) [] long = absurd (omega arith)
all_both_high score o (x ∷ xs) (y ∷ ys) long =
    grind (arith, common_steps, both_high, both_in, all_both_high score o xs ys)

-- so of 32 bytes, only the lower of two that are 16 apart is compared
pub all_high_by_lower : (offset score : ℕ) (qual : List ℕ) {lower scores : List ℕ} →
    32 ≤ length qual → lower ≡ zip2 min (chunk 0 16 qual) (chunk 16 16 qual) →
    scores ≡ distances offset lower →
    list_all (leb score) scores ≡ list_all (leb score) (take 32 (distances offset qual))
all_high_by_lower offset score qual room lower_is scores_is =
    let q = distances offset qual in
    let left = length-take-le 16 qual (omega arith) in
    let right = length-take-le 16 (drop 16 qual) (omega (arith, length-drop 16 qual)) in
    ap (list_all (leb score)) (scores_is ∙ ap (distances offset) lower_is)
    ∙ all_both_high score offset (take 16 qual) (take 16 (drop 16 qual)) (omega arith)
    ∙ ap₂ (λ v u. list_all (leb score) v && list_all (leb score) u)
    (map_part (λ byte. byte - offset) 0 16 qual) (map_part (λ byte. byte - offset) 16 16 qual)
    ∙ sym (ap (list_all (leb score)) (take-add 16 16 q)
    ∙ list_all-append (leb score) (take 16 q) (take 16 (drop 16 q)))

-- how many sums are before the first that is too small
pub first_below : (least : ℕ) (sums : List ℕ) →
    IsFirstBelow least sums (prefix_len (λ x. not (ltb x least)) sums)
first_below least sums = record {
  within = prefix_len-le-length _ sums;
  good = λ k lt. ltb-false _ least (not-true _ (prefix_len_passes _ sums k 0 lt));
  bad = λ lt. ltb-true _ least (not-false _ (prefix_len_stops _ sums 0 lt));
}

-- Whether each byte of a vector passes, by the mask of those that do: it has one bit per byte.
each_bit : (b : Bool) (m full : ℕ) → 0 < full →
    eqb (cond b 1 0 + 2 * m) (2 * full - 1) ≡ b && eqb m (full - 1)
each_bit true m full some = grind (arith, common_steps, eq-eqb, ne_eqb, cases_eq)
each_bit false m full some = ne_eqb (0 + 2 * m) (2 * full - 1) (λ e. omega arith)

all_set : (p : ℕ → Bool) (v : List ℕ) → eqb (mask_l (map p v)) (2 ^ length v - 1) ≡ list_all p v
all_set p [] = refl
all_set p (x ∷ xs) =
    let some : 0 < 2 ^ length xs = one-le-pow (length xs) 2 (omega arith) in
    let twice : 2 ^ suc (length xs) ≡ 2 * 2 ^ length xs = omega (arith, two-pow-succ (length xs)) in
    ap (λ n. eqb (cond (p x) 1 0 + 2 * mask_l (map p xs)) (n - 1)) twice
    ∙ each_bit (p x) (mask_l (map p xs)) (2 ^ length xs) some
    ∙ ap (λ b. p x && b) (all_set p xs)

-- all 16 bytes of a vector pass a test exactly if the mask has all 16 bits
pub all_pass : (p : ℕ → Bool) (v : List ℕ) {z : List ℕ} → length v ≡ 16 →
    z ≡ map (λ x. flag (p x)) v → eqb (mask_l (map (top 7) z) % 2 ^ 64) 65535 ≡ list_all p v
all_pass p v long same = grind (arith, common_steps, mask_of p v, all_set p v)

-- each sum of a vector has one more score, saturated at 255
pub lane_more : (i k : ℕ) (q sums scores : List ℕ) → length sums ≡ 32 → i + 32 ≤ length q →
    k < 32 → scores ≡ take 32 (drop i q) →
    get_or sums k 0 ≡ min 255 (sum (take i (drop k q))) →
    get_or (zip2 (λ x y. min 255 (x + y)) sums scores) k 0
    ≡ min 255 (sum (take (i + 1) (drop k q)))
lane_more i k q sums scores long room lt is so_far =
    let size = ap length is ∙ length-chunk i 32 q room in
    let read = ap (λ s. get_or s k 0) is ∙ get_or-chunk i 32 q k 0 lt in
    let place : i + k ≡ k + i = omega arith in
    let at = ap (λ n. get_or q n 0) place in
    let next = sum_more q i k (omega arith) in
    let both = get_or-zip2 (λ x y. min 255 (x + y)) sums scores k 0 0 0 (omega arith)
    (omega arith) in
    omega arith

-- a window of the scores from `start` on
abbrev behind : List ℕ → ℕ → List ℕ
behind qual start = take (length qual - start) (drop start qual)

window_behind : (offset start k w : ℕ) (qual : List ℕ) →
    sum (take w (drop k (distances offset (behind qual start))))
    ≡ sum (take w (drop (start + k) (distances offset qual)))
window_behind offset start k w qual =
    grind (arith, common_steps, take_all, length-drop, drop-map, drop-drop)

-- the windows up to index n are good if those before `start` are, and those from there on
good_from : (offset w least start n : ℕ) (qual : List ℕ) →
    ((s : ℕ) → s < start → least ≤ sum (take w (drop s (distances offset qual)))) →
    ((k : ℕ) → start + k < n →
    least ≤ sum (take w (drop k (distances offset (behind qual start))))) →
    (s : ℕ) → s < n → least ≤ sum (take w (drop s (distances offset qual)))
good_from offset w least start n qual before there s lt = ⊎_elim (before s)
    (λ here.
    let place : start + (s - start) ≡ s = omega arith in
    let is = window_behind offset start (s - start) w qual
    ∙ ap (λ n. sum (take w (drop n (distances offset qual)))) place in
    omega arith)
    (cases_lt s start)

-- windows of scores that are all high, after others that are good
pub good_over_high : (offset w score least start : ℕ) (qual : List ℕ) → least ≡ w * score →
    start + 32 ≤ length qual →
    list_all (leb score) (take 32 (distances offset (behind qual start))) ≡ true →
    ((s : ℕ) → s < start → least ≤ sum (take w (drop s (distances offset qual)))) →
    (s : ℕ) → s + w < start + 33 → least ≤ sum (take w (drop s (distances offset qual)))
good_over_high offset w score least start qual least_is fits high before s le =
    let part = behind qual start in
    let len = length-map part (λ byte. byte - offset) in
    good_from offset w least start (start + 33 - w) qual before
    (λ k lt. let good = high_window w score 32 k (distances offset part) (omega (
      arith,
      length-take (length qual - start) (drop start qual),
      length-drop start qual,
    )) high (omega arith) in omega arith) s (omega arith)

-- Windows from `start` on, the first `good` of which are good, after others that are.
module _ (offset w least start good : ℕ) (qual sums : List ℕ) (small : least < 256)
    (each : (k : ℕ) → k < 32 →
    get_or sums k 0 ≡ min 255 (sum (take w (drop k (distances offset (behind qual start))))))
    (few : good ≤ 32) (before : (s : ℕ) → s < start →
    least ≤ sum (take w (drop s (distances offset qual))))
    (high : (k : ℕ) → k < good → least ≤ get_or sums k 0) where
  -- each window that begins before index `start + good` is good
  pub good_up_to : (s : ℕ) → s < start + good →
      least ≤ sum (take w (drop s (distances offset qual)))
  good_up_to = good_from offset w least start (start + good) qual before (λ k lt.
      let lane = each k (omega arith) in let enough = high k (omega arith) in omega arith)

  -- if the next sum is too small, the window that begins at index `start + good` is bad
  pub bad_there : good < 32 → get_or sums good 0 < least →
      sum (take w (drop (start + good) (distances offset qual))) < least
  bad_there lt low = let lane = each good lt in let is = window_behind offset start good w qual in
      omega arith

  -- the window after the good ones is bad: it ends in the read
  pub stops_there : 0 < w → start + good + w ≤ length qual → good < 32 →
      get_or sums good 0 < least → IsGoodStop w least (distances offset qual) (start + good + w - 1)
  stops_there some fits lt low = grind (arith, common_steps, length-map, good_up_to, bad_there)
