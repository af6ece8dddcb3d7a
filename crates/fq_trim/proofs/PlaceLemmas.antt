-- Indices and the tests that select them.
use Rattle.std.proofs.Common.{◌≡◌, ℕ, zero, suc, ◌+◌, ◌-◌, ◌*◌, ◌<◌, ◌≤◌, ◌⊎◌, Bool, true, false, List, [], ◌∷◌, ◌++◌, length, take, drop, get_or, map, sum, max, refl, ap, ap₂, sym, subst, ◌∙◌, arith, add-one, take-add, ⊎_elim, leb}
use Rattle.std.specs.List.{list_any, list_all}
use Rattle.std.proofs.lemmas.List.{append-nil, length-drop, drop_more, take_more, length-take, length-take-le, length-map, get_or-map, get_or-drop, get_or-take, take-map, take-take, take_all, drop-map, drop-take}
use Rattle.std.proofs.lemmas.List.Folds.{list_any_at, list_all-append}
use Rattle.std.proofs.lemmas.List.Sums.{sum_by-cons, sum_by_push}
use Rattle.std.proofs.lemmas.Bool.{cond-true, cond-false, or_left, or_right, or_from, and_from, and_left, and_right, and_parts, le-leb, lt-leb, leb-true, cases_lt}
use Rattle.fq_trim.specs.declared.step.Step.{Step}
use Rattle.fq_trim.specs.declared.step.Step.TheVariants.{Leading, Trailing, SlidingWindow}
use Rattle.fq_text.specs.declared.encoding.Encoding.{Encoding}
use Rattle.fq_text.specs.Scores.{is_scored, value_of}
use Rattle.fq_text.proofs.ScoreLemmas.{all_parts, value_small}
use Rattle.fq_trim.specs.Keeping.{scores, places, select, keeps, is_good_end, is_good_window, IsBetween, kept_of, kept}
use Rattle.fq_trim.specs.Windows.{IsGoodStop}
use Rattle.std.proofs.lemmas.Grind.{common_steps}

-- `places a n` has n indices
pub length-places : (a n : ℕ) → length (places a n) ≡ n
length-places a zero = refl
length-places a (suc n) = ap suc (length-places (suc a) n)

-- m + n indices are the first m of them, and the n after those
pub places-append : (a m n : ℕ) → places a (m + n) ≡ places a m ++ places (a + m) n
places-append a zero n = let e : zero + n ≡ n = omega arith in let f : a + zero ≡ a = omega arith in
    rw (e, f) refl
places-append a (suc m) n = let e : suc m + n ≡ suc (m + n) = omega arith in
    let f : a + suc m ≡ suc a + m = omega arith in
    rw (e, f) (ap (λ ps. a ∷ ps) (places-append (suc a) m n))

select_append : (test : ℕ → Bool) (j : ℕ) (xs ys : List ℕ) →
    select test j (xs ++ ys) ≡ select test j xs ++ select test (j + length xs) ys
select_append test j [] ys = let e : j + 0 ≡ j = omega arith in rw e refl
select_append test j (x ∷ xs) ys =
    grind (arith, common_steps, select_append test (suc j) xs ys)

select_all : (test : ℕ → Bool) (j : ℕ) (xs : List ℕ) →
    ((k : ℕ) → j ≤ k → k < j + length xs → test k ≡ true) → select test j xs ≡ xs
select_all test j [] all = refl
select_all test j (x ∷ xs) all = cond-true (test j) _ _ (all j (omega arith) (omega arith))
    ∙ ap (λ zs. x ∷ zs) (select_all test (suc j) xs (λ k le lt. all k (omega arith) (omega arith)))

select_none : (test : ℕ → Bool) (j : ℕ) (xs : List ℕ) →
    ((k : ℕ) → j ≤ k → k < j + length xs → test k ≡ false) → select test j xs ≡ []
select_none test j [] none = refl
select_none test j (x ∷ xs) none = cond-false (test j) _ _ (none j (omega arith) (omega arith))
    ∙ select_none test (suc j) xs (λ k le lt. none k (omega arith) (omega arith))

-- what a test between two indices selects
pub select_between : (test : ℕ → Bool) (a n lo hi : ℕ) → IsBetween test n lo hi →
    select test 0 (places a n) ≡ places (a + lo) (hi - lo)
select_between test a n lo hi b =
    let e : n ≡ lo + ((hi - lo) + (n - hi)) = omega arith in
    let first = places a lo in
    let mid = places (a + lo) (hi - lo) in
    let last = places (a + lo + (hi - lo)) (n - hi) in
    let l1 = length-places a lo in
    let l2 = length-places (a + lo) (hi - lo) in
    let l3 = length-places (a + lo + (hi - lo)) (n - hi) in
    let all : places a n ≡ first ++ (mid ++ last) = ap (places a) e
    ∙ places-append a lo ((hi - lo) + (n - hi))
    ∙ ap (λ ps. first ++ ps) (places-append (a + lo) (hi - lo) (n - hi)) in
    ap (select test 0) all ∙ select_append test 0 first (mid ++ last)
    ∙ ap₂ (λ xs ys. xs ++ ys)
    (select_none test 0 first (λ k le lt. b.before k (omega arith) (omega arith)))
    (select_append test (0 + length first) mid last
    ∙ ap₂ (λ xs ys. xs ++ ys)
    (select_all test (0 + length first) mid (λ k le lt. b.inside k (omega arith) (omega arith)))
    (select_none test (0 + length first + length mid) last
    (λ k le lt. b.behind k (omega arith) (omega arith))))
    ∙ append-nil mid

-- the scores at consecutive indices
pub scores_at : (q : List ℕ) (a n : ℕ) → a + n ≤ length q →
    map (λ p. get_or q p 0) (places a n) ≡ take n (drop a q)
scores_at q a zero le = refl
scores_at q a (suc n) le = grind (arith, common_steps, drop_more q a 0, scores_at q (suc a) n)

-- one step of several, if it keeps the indices between two
pub step_keeps : (step : Step) (steps : List Step) (q : List ℕ) (start stop lo hi : ℕ) →
    start ≤ stop → stop ≤ length q →
    IsBetween (keeps step (take (stop - start) (drop start q))) (stop - start) lo hi →
    kept_of (step ∷ steps) q (places start (stop - start))
    ≡ kept_of steps q (places (start + lo) (hi - lo))
step_keeps step steps q start stop lo hi le within b =
    grind (
      arith,
      common_steps,
      scores_at q start (stop - start),
      select_between _ start (stop - start) lo hi b,
    )

-- one step alone, applied to all bases
pub step_alone : (step : Step) (e : Encoding) (qual : List ℕ) (lo hi : ℕ) →
    IsBetween (keeps step (scores e qual)) (length qual) lo hi →
    kept (step ∷ []) (scores e qual) ≡ places lo (hi - lo)
step_alone step e qual lo hi b =
    let q = scores e qual in
    let len = length-map qual (value_of e) in
    ap (λ xs. select (keeps step xs) 0 (places 0 (length q)))
    (scores_at q 0 (length q) (omega arith) ∙ take_all (length q) q (omega arith))
    ∙ ap (λ n. select (keeps step q) 0 (places 0 n)) len
    ∙ select_between (keeps step q) 0 (length qual) lo hi b
    ∙ ap (λ a. places a (hi - lo)) (omega arith)

-- The first index with a score.
pub any_from : (t : ℕ) (q : List ℕ) (lo j : ℕ) → lo ≤ j → lo < length q → t ≤ get_or q lo 0 →
    list_any (leb t) (take (suc j) q) ≡ true
any_from t q lo j le lt at =
    let there = get_or-take (suc j) q lo 0 (omega arith) in
    list_any_at (leb t) (take (suc j) q) lo 0 (omega (arith, length-take (suc j) q))
    (le-leb t _ (omega arith))

none_in : (t : ℕ) (q : List ℕ) → ((k : ℕ) → k < length q → get_or q k 0 < t) →
    list_any (leb t) q ≡ false
none_in t [] none = refl
none_in t (x ∷ xs) none = or_from _ _ (lt-leb t x (none 0 (omega arith)))
    (none_in t xs (λ k lt. none (suc k) (omega arith)))

-- if each of the first n scores is below t, none of them is at least t
pub none_to : (t : ℕ) (q : List ℕ) (n : ℕ) → ((k : ℕ) → k < n → get_or q k 0 < t) →
    list_any (leb t) (take n q) ≡ false
none_to t q n none = grind (arith, common_steps, length-take, none_in, get_or-take)

-- for any scores, LEADING keeps the bases from the first score of at least t on
pub leading_between : (t : ℕ) (q : List ℕ) (n lo : ℕ) → length q ≡ n → lo ≤ n →
    ((k : ℕ) → k < lo → get_or q k 0 < t) → (lo < n → t ≤ get_or q lo 0) →
    IsBetween (keeps (Leading t) q) n lo n
leading_between t q n lo len le none at = record {
  order = le;
  within = omega arith;
  before = λ k lt in_q. none_to t q (suc k) (λ m below. none m (omega arith));
  inside = λ k from lt. any_from t q lo k from (omega arith) (at (omega arith));
  behind = λ k from lt. absurd (omega arith);
}

-- The last index with a score.
any_behind : (t : ℕ) (q : List ℕ) (k j : ℕ) → k ≤ j → j < length q → t ≤ get_or q j 0 →
    list_any (leb t) (drop k q) ≡ true
any_behind t q k j le lt at =
    let there : k + (j - k) ≡ j = omega arith in
    let is : get_or (drop k q) (j - k) 0 ≡ get_or q j 0 = get_or-drop k q (j - k) 0
    ∙ ap (λ n. get_or q n 0) there in
    let len = length-drop k q in
    list_any_at (leb t) (drop k q) (j - k) 0 (omega arith) (le-leb t _ (omega arith))

none_behind : (t : ℕ) (q : List ℕ) (k : ℕ) → ((j : ℕ) → k ≤ j → j < length q → get_or q j 0 < t) →
    list_any (leb t) (drop k q) ≡ false
none_behind t q k none =
    grind (arith, common_steps, length-drop, none_in, get_or-drop)

-- for any scores, TRAILING keeps the bases up to the last score of at least t
pub trailing_between : (t : ℕ) (q : List ℕ) (n hi : ℕ) → length q ≡ n → hi ≤ n →
    (0 < hi → t ≤ get_or q (hi - 1) 0) → ((k : ℕ) → hi ≤ k → k < n → get_or q k 0 < t) →
    IsBetween (keeps (Trailing t) q) n 0 hi
trailing_between t q n hi len within at low = record {
  order = omega arith;
  within = within;
  before = λ k lt in_q. absurd (omega arith);
  inside = λ k from lt. any_behind t q k (hi - 1) (omega arith) (omega arith) (at (omega arith));
  behind = λ k from lt. none_behind t q k (λ j le in_q. low j (omega arith) (omega arith));
}

-- A step that keeps nothing.
pub empty_between : (test : ℕ → Bool) (n : ℕ) → ((k : ℕ) → test k ≡ false) → IsBetween test n 0 0
empty_between test n none = record {
  order = omega arith;
  within = omega arith;
  before = λ k lt in_q. absurd (omega arith);
  inside = λ k from lt. absurd (omega arith);
  behind = λ k from lt. none k;
}

-- Windows.
pub all_places : (test : ℕ → Bool) (a n : ℕ) → ((k : ℕ) → a ≤ k → k < a + n → test k ≡ true) →
    list_all test (places a n) ≡ true
all_places test a zero all = refl
all_places test a (suc n) all = and_from _ _ (all a (omega arith) (omega arith))
    (all_places test (suc a) n (λ k le lt. all k (omega arith) (omega arith)))

-- a test that fails at one of n indices is not true of all
pub one_fails : (test : ℕ → Bool) (a n k : ℕ) → a ≤ k → k < a + n → test k ≡ false →
    list_all test (places a n) ≡ false
one_fails test a zero k le lt bad = absurd (omega arith)
one_fails test a (suc n) k le lt bad =
    grind (arith, common_steps, and_left, and_right, one_fails test (suc a) n k)

any_places : (test : ℕ → Bool) (a n k : ℕ) → a ≤ k → k < a + n → test k ≡ true →
    list_any test (places a n) ≡ true
any_places test a zero k le lt good = absurd (omega arith)
any_places test a (suc n) k le lt good =
    grind (arith, common_steps, or_left, or_right, any_places test (suc a) n k)

none_places : (test : ℕ → Bool) (a n : ℕ) → ((k : ℕ) → a ≤ k → k < a + n → test k ≡ false) →
    list_any test (places a n) ≡ false
none_places test a zero none = refl
none_places test a (suc n) none = or_from _ _ (none a (omega arith) (omega arith))
    (none_places test (suc a) n (λ k le lt. none k (omega arith) (omega arith)))

-- SLIDINGWINDOW keeps nothing if the first window is bad
pub window_bad : (w t n : ℕ) (q : List ℕ) → sum (take w q) < w * t →
    IsBetween (keeps (SlidingWindow w t) q) n 0 0
window_bad w t n q bad = empty_between (keeps (SlidingWindow w t) q) n
    (λ k. and_left _ _ (and_right _ _ (lt-leb (w * t) (sum (take w q)) bad)))

-- a function of each member of a part of a list
pub map_part : (f : ℕ → ℕ) (s n : ℕ) (xs : List ℕ) →
    map f (take n (drop s xs)) ≡ take n (drop s (map f xs))
map_part f s n xs = sym (take-map f n (drop s xs)) ∙ ap (take n) (sym (drop-map f s xs))

-- Scores of quality bytes.
module _ (e : Encoding) (qual : List ℕ) where
  -- there are as many scores as quality bytes
  pub length-scores : length (scores e qual) ≡ length qual
  length-scores = length-map qual (value_of e)

  -- the score at an index is that of the byte there
  pub score_at : (i : ℕ) → i < length qual →
      get_or (scores e qual) i 0 ≡ value_of e (get_or qual i 0)
  score_at i lt = get_or-map (value_of e) qual i 0 0 lt

  -- the scores of a part of a read are that part of its scores
  pub scores_of_part : (s n : ℕ) → scores e (take n (drop s qual)) ≡ take n (drop s (scores e qual))
  scores_of_part s n = map_part (value_of e) s n qual

  -- what a step keeps of a part of a read is what it keeps of that part of the scores
  pub part_between : (step : Step) (start stop lo hi : ℕ) → start ≤ stop → stop ≤ length qual →
      IsBetween (keeps step (scores e (take (stop - start) (drop start qual))))
      (length (take (stop - start) (drop start qual))) lo hi →
      IsBetween (keeps step (take (stop - start) (drop start (scores e qual)))) (stop - start) lo hi
  part_between step start stop lo hi le within b =
      grind (arith, common_steps, length-take-le, length-drop, scores_of_part)

-- Ends of windows.
low_end : (w t : ℕ) (q : List ℕ) (k : ℕ) → get_or q k 0 < t → is_good_end w t q k ≡ false
low_end w t q k low = and_left _ _ (lt-leb t (get_or q k 0) low)

bad_end : (w t : ℕ) (q : List ℕ) (s k : ℕ) → 0 < w → s + w ≤ k + 1 →
    sum (take w (drop s q)) < w * t → is_good_end w t q k ≡ false
bad_end w t q s k some within bad =
    and_right _ _ (one_fails (is_good_window w t q) 0 (k + 2 - w) s (omega arith) (omega arith)
    (lt-leb (w * t) (sum (take w (drop s q))) bad))

good_end : (w t : ℕ) (q : List ℕ) (k : ℕ) → t ≤ get_or q k 0 →
    ((s : ℕ) → s + w ≤ k + 1 → w * t ≤ sum (take w (drop s q))) → is_good_end w t q k ≡ true
good_end w t q k at good =
    grind (arith, common_steps, and_from, le-leb, all_places)

-- what a sliding window keeps, if the first bad window ends at index `good`, and `last` is after
-- the last score of at least t before that
pub window_kept : (w t n : ℕ) (q front : List ℕ) (good last : ℕ) → length q ≡ n → 0 < w → w ≤ n →
    IsGoodStop w (w * t) q good → w ≤ good → front ≡ take good q → last ≤ good →
    (0 < last → t ≤ get_or front (last - 1) 0) →
    ((k : ℕ) → last ≤ k → k < good → get_or front k 0 < t) →
    IsBetween (keeps (SlidingWindow w t) q) n 0 last
window_kept w t n q front good last len some fits stop first front_is under high low =
    let within = stop.within in
    let same : (k : ℕ) → k < good → get_or front k 0 ≡ get_or q k 0 =
    λ k lt. ap (λ xs. get_or xs k 0) front_is ∙ get_or-take good q k 0 lt in
    let ready = and_from _ _ (le-leb w (length q) (omega arith))
    (le-leb (w * t) (sum (take w q)) (stop.good 0 (omega arith))) in
    let good_last : 0 < last → is_good_end w t q (last - 1) ≡ true = λ has.
    let at = high has in let is = same (last - 1) (omega arith) in
    good_end w t q (last - 1) (omega arith) (λ s le. stop.good s (omega arith)) in
    let none : (k : ℕ) → last ≤ k → k < n → is_good_end w t q k ≡ false = λ k from lt. ⊎_elim
    (λ (below : k < good). let at = low k from below in let is = same k below in
    low_end w t q k (omega arith))
    (λ (above : good ≤ k). bad_end w t q (good + 1 - w) k some (omega arith)
    (stop.bad (omega arith)))
    (cases_lt k good) in
    record {
      order = omega arith;
      within = omega arith;
      before = λ k lt in_q. absurd (omega arith);
      inside = λ k from lt. and_from _ _ ready (any_places (is_good_end w t q) k (length q - k)
          (last - 1) (omega arith) (omega arith) (good_last (omega arith)));
      behind = λ k from lt. and_right _ _ (none_places (is_good_end w t q) k (length q - k)
          (λ m le below. none m (omega arith) (omega arith)));
    }

-- a window and one more score
pub sum_more : (q : List ℕ) (w s : ℕ) → s + w < length q →
    sum (take (w + 1) (drop s q)) ≡ sum (take w (drop s q)) + get_or q (s + w) 0
sum_more q w s lt = grind (arith, common_steps, take_more, length-drop, sum_by_push, get_or-drop)

-- the sum of the next window: one score is added, one subtracted
window_moves : (w : ℕ) (q : List ℕ) (s : ℕ) → s + w < length q →
    sum (take w (drop (s + 1) q)) + get_or q s 0 ≡ sum (take w (drop s q)) + get_or q (s + w) 0
window_moves w q s lt =
    let more = ap (λ n. sum (take n (drop s q))) (sym (add-one w)) ∙ sum_more q w s lt in
    let first = ap (λ xs. sum (take (suc w) xs)) (drop_more q s 0 (omega arith))
    ∙ sum_by-cons (λ x. x) (get_or q s 0) (take w (drop (s + 1) q)) in
    omega arith

-- what holds of each member holds of each of the first n
pub all_taken : {T : Type 0} (p : T → Bool) (xs : List T) (n : ℕ) → list_all p xs ≡ true →
    list_all p (take n xs) ≡ true
all_taken p xs n all = (and_parts _ _ (sym (all_parts p n xs) ∙ all)).0

-- what holds of each member holds of each after the first n
pub all_dropped : {T : Type 0} (p : T → Bool) (xs : List T) (n : ℕ) → list_all p xs ≡ true →
    list_all p (drop n xs) ≡ true
all_dropped p xs n all = (and_parts _ _ (sym (all_parts p n xs) ∙ all)).1

-- Scores of which each is high enough.
pub high_more : (t n m : ℕ) (q : List ℕ) → list_all (leb t) (take n q) ≡ true →
    list_all (leb t) (take m (drop n q)) ≡ true → list_all (leb t) (take (n + m) q) ≡ true
high_more t n m q first next = ap (list_all (leb t)) (take-add n m q)
    ∙ list_all-append (leb t) (take n q) (take m (drop n q)) ∙ and_from _ _ first next

high_sum : (t : ℕ) (q : List ℕ) → list_all (leb t) q ≡ true → length q * t ≤ sum q
high_sum t [] all = omega arith
high_sum t (x ∷ xs) all =
    grind (arith, common_steps, and_parts, leb-true, sum_by-cons, high_sum t xs)

-- a window of high scores is good
pub high_window : (w t front s : ℕ) (q : List ℕ) → front ≤ length q →
    list_all (leb t) (take front q) ≡ true → s + w ≤ front → w * t ≤ sum (take w (drop s q))
high_window w t front s q within high le =
    let window = take w (drop s q) in
    let fits = ap (list_all (leb t)) (sym (take-take (s + w) front q le))
    ∙ all_taken (leb t) (take front q) (s + w) high in
    let all : list_all (leb t) window ≡ true = ap (list_all (leb t)) (sym (drop-take s w q))
    ∙ all_dropped (leb t) (take (s + w) q) s fits in
    let len : length window ≡ w = length-take-le w (drop s q) (omega (arith, length-drop s q)) in
    subst (λ n. n * t ≤ sum window) len (high_sum t window all)

-- Sums of scores.
pub sum_small : (e : Encoding) (qual : List ℕ) → list_all (is_scored e) qual ≡ true →
    sum (scores e qual) ≤ 126 * length qual
sum_small e [] all = omega arith
sum_small e (b ∷ bs) all =
    grind (arith, common_steps, and_parts, value_small, sum_by-cons, sum_small e bs)

module _ (e : Encoding) (qual : List ℕ) where
  -- n scores in a row sum to at most 126 * n
  pub part_small : (s n : ℕ) → list_all (is_scored e) qual ≡ true →
      sum (take n (drop s (scores e qual))) ≤ 126 * n
  part_small s n all =
      let part = take n (drop s qual) in
      let small =
      sum_small e part (all_taken (is_scored e) (drop s qual) n (all_dropped (is_scored e) qual
      s all)) in
      let same = ap sum (scores_of_part e qual s n) in
      let len : length part ≤ n = omega (arith, length-take n (drop s qual)) in
      omega arith

  -- the window that ends at an index, after the window that ends before it
  pub next_window : (w end : ℕ) → w ≤ end → end < length qual →
      sum (take w (drop (end + 1 - w) (scores e qual))) + value_of e (get_or qual (end - w) 0)
      ≡ sum (take w (drop (end - w) (scores e qual))) + value_of e (get_or qual end 0)
  next_window w end from lt =
      let q = scores e qual in
      let len = length-scores e qual in
      let moves = window_moves w q (end - w) (omega arith) in
      let start : end - w + 1 ≡ end + 1 - w = omega arith in
      let new = ap (λ s. sum (take w (drop s q))) start in
      let stop : end - w + w ≡ end = omega arith in
      let entering : get_or q (end - w + w) 0 ≡ value_of e (get_or qual end 0) =
      ap (λ n. get_or q n 0) stop ∙ score_at e qual end lt in
      let leaving = score_at e qual (end - w) (omega arith) in
      omega arith

-- The first window that is summed is the one that ends at `from`. Each of the first `front` scores
-- is at least `score`.
module _ (e : Encoding) (qual : List ℕ) (w score front from total : ℕ)
    (fits : w ≤ length qual) (within : front ≤ length qual)
    (high : list_all (leb score) (take front (scores e qual)) ≡ true) (from_is : from ≡ max front w)
    (total_is : total ≡ sum (scores e (take (from - (from - w)) (drop (from - w) qual)))) where
  -- `total` is the sum of the window that ends at `from`
  pub from_sum : total ≡ sum (take w (drop (from - w) (scores e qual)))
  from_sum =
      grind (arith, common_steps, scores_of_part)

  -- a window up to there is good, or it is the first of all
  window_up_to : (s : ℕ) → s + w ≤ from → (w * score ≤ sum (take w (drop s (scores e qual))))
      ⊎ (from ≡ w)
  window_up_to s le =
      grind (arith, common_steps, length-scores, high_window)

  -- if this window is good, each window that ends at or before `from` is good
  pub from_good : w * score ≤ total → (s : ℕ) → s + w ≤ from →
      w * score ≤ sum (take w (drop s (scores e qual)))
  from_good good s le =
      grind (arith, common_steps, from_sum, window_up_to)

  -- if this window is bad, the first window of the read is bad: it is the same
  pub from_bad : total < w * score → sum (take w (drop 0 (scores e qual))) < w * score
  from_bad bad =
      grind (arith, common_steps, from_sum, window_up_to)
