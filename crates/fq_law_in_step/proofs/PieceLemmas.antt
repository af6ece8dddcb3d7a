-- What is left of a read is one piece of it: steps keep consecutive places.
use Rattle.std.proofs.Common.{◌≡◌, ℕ, zero, suc, ◌+◌, ◌-◌, ◌<◌, ◌≤◌, Bool, true, not, List, [], ◌∷◌, length, take, drop, ap, subst, ◌∙◌, arith, ⊎_elim, ltb, ◌++◌, flat_map}
use Rattle.std.proofs.lemmas.Bool.{cases_Bool, cases_lt, and_parts, and_from}
use Rattle.std.proofs.lemmas.List.{length-map, length-take-le, length-drop, take-append-drop, drop-drop}
use Rattle.std.proofs.lemmas.List.Folds.{list_any-append}
use Rattle.std.proofs.Math.Seq.{take-add}
use Rattle.fq_text.specs.Scores.{value_of}
use Rattle.fq_text.specs.Written.{line}
use Rattle.fq_trim.specs.declared.step.Step.{Step}
use Rattle.fq_trim.specs.declared.step.Step.TheVariants.{Leading, Trailing, Crop, HeadCrop, SlidingWindow, AverageQuality, MinLen, ToPhred33}
use Rattle.fq_trim.specs.Keeping.{scores, places, keeps, kept, kept_of, IsBetween}
use Rattle.fq_trim.specs.KeptPlaces.{kept_places, bytes_at, is_empty}
use Rattle.fq_trim.proofs.PlaceLemmas.{scores_at, places-append, step_keeps}
use Rattle.fq_pair.specs.Mates.{name_of}
use Rattle.fq_pair.specs.Outputs.{log_numbers, log_line, field}
use Rattle.fq_pair.proofs.TextLemmas.{log_numbers-places}
use Rattle.fq_law_in_step.specs.Pieces.{piece_numbers, ReadsStayInOnePiece}
use Rattle.std.proofs.lemmas.Grind.{common_steps}

-- A test that holds at two places holds between them.
abbrev IsClosed : (ℕ → Bool) → ℕ → Type 0
IsClosed test n = (i j k : ℕ) →
    i < j → j < k → k < n → test i ≡ true → test k ≡ true → test j ≡ true

-- it holds of the places between two places
record Between (test : ℕ → Bool) (n : ℕ) : Type 0 where
  lo : ℕ
  hi : ℕ
  is : IsBetween test n lo hi

one_more : (test : ℕ → Bool) (n lo hi : ℕ) → IsBetween test n lo hi →
    ((k : ℕ) → lo < k → k < n → test lo ≡ true → test n ≡ true → test k ≡ true) →
    Between test (suc n)
one_more test n lo hi b fills = ⊎_elim
    (λ yes. ⊎_elim
    (λ (some : lo < hi). record { lo = lo; hi = suc n; is = grind (arith, common_steps, cases_lt) })
    (λ (none : hi ≤ lo). record { lo = n; hi = suc n; is = grind (arith, common_steps, cases_lt) })
    (cases_lt lo hi))
    (λ no. record { lo = lo; hi = hi; is = grind (arith, common_steps, cases_lt) })
    (cases_Bool (test n))

between : (test : ℕ → Bool) (n : ℕ) → IsClosed test n → Between test n
between test zero closed = record { lo = 0; hi = 0; is = grind (arith, common_steps) }
between test (suc n) closed =
    let b = between test n (λ i j k from to lt. closed i j k from to (omega arith)) in
    one_more test n b.lo b.hi b.is (λ k from to. closed b.lo k n from to (omega arith))

-- Steps.

closed : (step : Step) (q : List ℕ) → IsClosed (keeps step q) (length q)
closed (Leading t) q i j k from to lt at_i at_k =
    let more : suc i + (j - i) ≡ suc j = omega arith in
    grind (arith, common_steps, list_any-append, take-add (suc i) (j - i) q)
closed (Trailing t) q i j k from to lt at_i at_k =
    let more : j + (k - j) ≡ k = omega arith in
    grind (arith, common_steps, list_any-append, take-append-drop (k - j) (drop j q), drop-drop)
closed (Crop m) q i j k from to lt at_i at_k = grind (arith, common_steps)
closed (HeadCrop m) q i j k from to lt at_i at_k = grind (arith, common_steps)
closed (SlidingWindow w t) q i j k from to lt at_i at_k =
    let all : (k - j) + (length q - k) ≡ length q - j = omega arith in
    let more : j + (k - j) ≡ k = omega arith in
    let split = places-append j (k - j) (length q - k) in
    grind (arith, common_steps, and_parts, and_from, list_any-append)
closed (AverageQuality t) q i j k from to lt at_i at_k = at_i
closed (MinLen m) q i j k from to lt at_i at_k = at_i
closed ToPhred33 q i j k from to lt at_i at_k = at_i

-- the kept places are those from `start` on, up to but not including `stop`
pub record Span (q : List ℕ) (kept : List ℕ) : Type 0 where
  pub start : ℕ
  pub stop : ℕ
  pub order : start ≤ stop
  pub within : stop ≤ length q
  pub places_are : kept ≡ places start (stop - start)

-- of consecutive places steps keep consecutive places
spans : (steps : List Step) (q : List ℕ) (start stop : ℕ) → start ≤ stop → stop ≤ length q →
    Span q (kept_of steps q (places start (stop - start)))
spans [] q start stop order within = grind (arith, common_steps)
spans (step ∷ steps) q start stop order within =
    let part = take (stop - start) (drop start q) in
    let size : length part ≡ stop - start = length-take-le (stop - start) (drop start q)
    (omega (arith, length-drop start q)) in
    let b = between (keeps step part) (stop - start) (subst (IsClosed (keeps step part)) size
    (closed step part)) in
    let lo_hi = b.is.order in
    let hi_in = b.is.within in
    let e : (start + b.hi) - (start + b.lo) ≡ b.hi - b.lo = omega arith in
    let next = spans steps q (start + b.lo) (start + b.hi) (omega arith) (omega arith) in
    grind (arith, common_steps, step_keeps step steps q start stop b.lo b.hi order within b.is)

-- steps keep consecutive places of a read
pub whole_span : (steps : List Step) (q : List ℕ) → Span q (kept steps q)
whole_span steps q =
    let all : length q - 0 ≡ length q = omega arith in
    subst (λ (n : ℕ). Span q (kept_of steps q (places 0 n))) all
    (spans steps q 0 (length q) (omega arith) (omega arith))

some_places : (start n : ℕ) → not (is_empty (places start n)) ≡ ltb 0 n
some_places start n = grind (arith, common_steps)

numbers_are : (bases start n : ℕ) → log_numbers bases (places start n) ≡ piece_numbers bases start n
numbers_are bases start n = grind (arith, common_steps, log_numbers-places)

-- what is left of a read is one piece of it, and its log line has the numbers of that piece
pub one_piece : ReadsStayInOnePiece
one_piece steps read same =
    let q = scores read.encoding read.qual in
    let size : length q ≡ length read.qual = length-map read.qual (value_of read.encoding) in
    let s = whole_span steps q in
    let order = s.order in
    let within = s.within in
    let len = s.stop - s.start in
    let kept_are : kept_places steps read ≡ places s.start len = s.places_are in
    let bases : bytes_at (kept_places steps read) read.seq ≡ take len (drop s.start read.seq) =
    ap (λ (is : List ℕ). bytes_at is read.seq) kept_are
    ∙ scores_at read.seq s.start len (omega arith) in
    let quality : bytes_at (kept_places steps read) read.qual ≡ take len (drop s.start read.qual) =
    ap (λ (is : List ℕ). bytes_at is read.qual) kept_are
    ∙ scores_at read.qual s.start len (omega arith) in
    record {
      start = s.start;
      len = len;
      within = omega arith;
      title = grind (arith, common_steps, cases_Bool);
      bases = grind (arith, common_steps, cases_Bool);
      quality = grind (arith, common_steps, cases_Bool);
      some = ap (λ (is : List ℕ). not (is_empty is)) kept_are ∙ some_places s.start len;
      logged = λ side.
          ap (λ (is : List ℕ). log_line side is read) kept_are
          ∙ ap (λ (ns : List ℕ). line (name_of side read.title ++ flat_map field ns))
          (numbers_are (length read.seq) s.start len);
    }
