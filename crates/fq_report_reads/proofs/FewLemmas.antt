-- Rows of a few reads, of which a vector holds some.
use Rattle.std.proofs.Common.{◌≡◌, ℕ, zero, suc, ◌+◌, ◌<◌, ◌≤◌, true, false, nat_le, List, [], ◌∷◌, ◌++◌, length, take, map, get_or, replicate, refl, ap, ap₂, sym, ◌∙◌, arith, eqb, max, Fits, w8, w16, subst}
use Rattle.std.specs.List.{list_all}
use Rattle.std.proofs.lemmas.List.{length-append, length-replicate, get_or_past, get_or-replicate, map-id, append-nil}
use Rattle.std.proofs.lemmas.Bool.{and_parts, le-leb, leb-true, ne_eqb}
use Rattle.fq_text.specs.declared.encoding.Encoding.{Encoding}
use Rattle.fq_text.specs.Scores.{is_scored}
use Rattle.fq_text.proofs.ScoreLemmas.{value_small, low_base}
use Rattle.fq_trim.specs.Keeping.{scores}
use Rattle.fq_trim.specs.Sums.{capped_sum}
use Rattle.fq_report_reads.specs.Rows.{rows_plus}
use Rattle.fq_report_reads.proofs.RowLemmas.{plus_none, length-rows_plus}
use Rattle.std.proofs.lemmas.Simd.{Each1-from_get_or, Each1-chunk, Each2-of}
use lib.Lanes.{Each1, Each2, zip2, chunk, put_chunk}
use Rattle.fq_report_reads.specs.Counting.{AtMost, IsFew, lane_score, one_if, placed}
use Rattle.fq_report_reads.proofs.PositionLemmas.{Small, grown_within}
use Rattle.std.proofs.lemmas.Grind.{common_steps}

-- A vector is added from a row on.

stored_first : (xs ys : List ℕ) → AtMost 65535 xs → AtMost 65535 ys → (n : ℕ) → n ≡ length ys →
    n ≤ length xs →
    put_chunk 0 xs (zip2 (λ a b. a + b) (take n xs) ys) ≡ rows_plus xs ys
stored_first [] [] few small zero is room = refl
stored_first [] [] few small (suc n) is room = absurd (omega arith)
stored_first [] (y ∷ ys) few small n is room = absurd (omega arith)
stored_first (x ∷ xs) [] few small zero is room = refl
stored_first (x ∷ xs) [] few small (suc n) is room = absurd (omega arith)
stored_first (x ∷ xs) (y ∷ ys) few small zero is room = absurd (omega arith)
stored_first (x ∷ xs) (y ∷ ys) few small (suc n) is room =
    let a : x ≤ 65535 = few 0 in
    let b : y ≤ 65535 = small 0 in
    let both : x + y ≡ capped_sum x y = omega arith in
    ap₂ (λ z zs. z ∷ zs) both (stored_first xs ys (λ k. few (suc k)) (λ k. small (suc k)) n
    (omega arith) (omega arith))

-- storing the sums of a chunk and a vector adds the vector to the rows from its place on
pub stored_plus : (at : ℕ) (xs ys : List ℕ) → AtMost 65535 xs → AtMost 65535 ys → (n : ℕ) →
    n ≡ length ys → at + n ≤ length xs →
    put_chunk at xs (zip2 (λ a b. a + b) (chunk at n xs) ys) ≡ rows_plus xs (replicate at 0 ++ ys)
stored_plus zero xs ys few small n is room = stored_first xs ys few small n is (omega arith)
stored_plus (suc at) [] ys few small n is room = absurd (omega arith)
stored_plus (suc at) (x ∷ xs) ys few small n is room =
    let a : x ≤ 65535 = few 0 in
    let same : x ≡ capped_sum x 0 = omega arith in
    ap₂ (λ z zs. z ∷ zs) same (stored_plus at xs ys (λ k. few (suc k)) small n is (omega arith))

each_at_most : (most : ℕ) (xs : List ℕ) → AtMost most xs → Each1 (λ x. x ≤ most) xs
each_at_most most xs small = Each1-from_get_or (λ x. x ≤ most) xs 0 (λ i _. small i)

-- counts of at most 254, with at most 1 added to each, fit into 8 bits
pub byte_sums : (at : ℕ) (xs ys : List ℕ) → AtMost 254 xs → AtMost 1 ys →
    Each2 (λ x y. Fits w8 (x + y)) (chunk at 32 xs) ys
byte_sums at xs ys few ones =
    Each2-of (λ x. x ≤ 254) (λ y. y ≤ 1) (λ x y. Fits w8 (x + y))
    (λ x y p q. let fits : x + y < 256 = omega arith in record { fits = fits })
    (chunk at 32 xs) ys (Each1-chunk (λ x. x ≤ 254) at 32 xs (each_at_most 254 xs few))
    (each_at_most 1 ys ones)

-- counts of at most 65,280, with a byte added to each, fit into 16 bits
pub word_sums : (at : ℕ) (xs ys : List ℕ) → AtMost 65280 xs → Each1 (λ y. y ≤ 255) ys →
    Each2 (λ x y. Fits w16 (x + y)) (chunk at 32 xs) (map (λ (x : ℕ). x) ys)
word_sums at xs ys few bytes =
    subst (λ zs. Each2 (λ x y. Fits w16 (x + y)) (chunk at 32 xs) zs) (sym (map-id ys)) (
    Each2-of (λ x. x ≤ 65280) (λ y. y ≤ 255) (λ x y. Fits w16 (x + y))
    (λ x y p q. let fits : x + y < 65536 = omega arith in record { fits = fits })
    (chunk at 32 xs) ys (Each1-chunk (λ x. x ≤ 65280) at 32 xs (each_at_most 65280 xs few)) bytes)

bytes_small : (ys : List ℕ) → Each1 (λ y. y ≤ 255) ys → AtMost 65535 ys
bytes_small [] each k = let none = get_or_past {X = ℕ} [] k 0 (omega arith) in omega arith
bytes_small (y ∷ ys) each zero = grind (arith, common_steps)
bytes_small (y ∷ ys) each (suc k) = bytes_small ys each.1 k

-- a vector of at most 1 per lane is added to counts of 8 bits from its place on
pub stored_bytes : (at : ℕ) (xs ys : List ℕ) → AtMost 254 xs → AtMost 1 ys → length ys ≡ 32 →
    at + 32 ≤ length xs →
    put_chunk at xs (zip2 (λ a b. a + b) (chunk at 32 xs) ys) ≡ rows_plus xs (replicate at 0 ++ ys)
stored_bytes at xs ys few ones long room =
    stored_plus at xs ys (λ k. let one = few k in omega arith) (λ k. let one = ones k in
    omega arith) 32 (sym long) room

-- a vector of bytes is added to counts of 16 bits from its place on
pub stored_words : (at : ℕ) (xs ys : List ℕ) → AtMost 65280 xs → Each1 (λ y. y ≤ 255) ys →
    length ys ≡ 32 → at + 32 ≤ length xs →
    put_chunk at xs (zip2 (λ a b. a + b) (chunk at 32 xs) (map (λ (x : ℕ). x) ys))
    ≡ rows_plus xs (replicate at 0 ++ ys)
stored_words at xs ys few bytes long room =
    ap (λ zs. put_chunk at xs (zip2 (λ a b. a + b) (chunk at 32 xs) zs)) (map-id ys)
    ∙ stored_plus at xs ys (λ k. let one = few k in
    omega arith) (bytes_small ys bytes) 32 (sym long) room

-- Sums of rows of a few reads.

plus_at_most : (xs ys : List ℕ) (k : ℕ) → get_or (rows_plus xs ys) k 0 ≤ get_or xs k 0 + get_or ys k
    0
plus_at_most [] ys k = omega arith
plus_at_most (x ∷ xs) [] k = omega arith
plus_at_most (x ∷ xs) (y ∷ ys) zero = let least : capped_sum x y ≤ x + y = omega arith in least
plus_at_most (x ∷ xs) (y ∷ ys) (suc k) = plus_at_most xs ys k

shifted_at_most : (at most : ℕ) (ys : List ℕ) → AtMost most ys → AtMost most (replicate at 0 ++ ys)
shifted_at_most zero most ys small k = small k
shifted_at_most (suc at) most ys small zero = let least : 0 ≤ most = omega arith in least
shifted_at_most (suc at) most ys small (suc k) = shifted_at_most at most ys small k

-- a row that begins so many places further on is longer by as many
pub length-shifted : (at : ℕ) (ys : List ℕ) → length (replicate at 0 ++ ys) ≡ at + length ys
length-shifted at ys = grind (arith, common_steps, length-append, length-replicate)

-- with at most `more` added to each of some rows, none is above `most + more`
pub row_more : (rows len len' most more most' at n : ℕ) (xs ys : List ℕ) → IsFew rows len most xs →
    AtMost more ys → length ys ≡ n → len ≤ len' → at + n ≤ len' → at + n ≤ rows →
    most + more ≤ most' → IsFew rows len' most' (rows_plus xs (replicate at 0 ++ ys))
row_more rows len len' most more most' at n xs ys few small long order within room bound =
    grind (
      arith,
      common_steps,
      length-shifted,
      plus_at_most,
      length-rows_plus,
      get_or_past,
      shifted_at_most,
    )

-- the rows that are reached, of a sum
cut_plus : (xs zs : List ℕ) (len len' : ℕ) → ((k : ℕ) → len ≤ k → get_or xs k 0 ≡ 0) → Small zs →
    len' ≡ max len (length zs) → len' ≤ length xs →
    take len' (rows_plus xs zs) ≡ rows_plus (take len xs) zs
cut_plus xs [] len len' behind small is room = grind (arith, common_steps, plus_none)
cut_plus [] (z ∷ zs) len len' behind small is room = absurd (omega arith)
cut_plus (x ∷ xs) (z ∷ zs) len zero behind small is room = absurd (omega arith)
cut_plus (x ∷ xs) (z ∷ zs) zero (suc len') behind small is room =
    let none : x ≡ 0 = behind 0 (omega arith) in
    let few : z ≤ 18446744073709551615 = small 0 in
    let first : capped_sum x z ≡ z = omega arith in
    ap₂ (λ n ns. n ∷ ns) first (cut_plus xs zs zero len' (λ k _. behind (suc k) (omega arith))
    (λ k. small (suc k)) (omega arith) (omega arith))
cut_plus (x ∷ xs) (z ∷ zs) (suc len) (suc len') behind small is room =
    ap (λ ns. capped_sum x z ∷ ns) (cut_plus xs zs len len' (λ k from. behind (suc k) (omega arith))
    (λ k. small (suc k)) (omega arith) (omega arith))

-- rows can be added before or after they are cut to those that were reached
pub row_cut : (rows len len' most more at n : ℕ) (xs ys : List ℕ) → IsFew rows len most xs →
    AtMost more ys → length ys ≡ n → more ≤ 255 → len' ≡ max len (at + n) → len' ≤ rows →
    take len' (rows_plus xs (replicate at 0 ++ ys)) ≡ rows_plus (take len xs) (replicate at 0 ++ ys)
row_cut rows len len' most more at n xs ys few small long bound is room =
    grind (arith, common_steps, length-shifted, shifted_at_most, cut_plus)

-- up to position 10,000, numbers by position are the numbers at their places
pub placed_short : (at : ℕ) (ns : List ℕ) → at + length ns ≤ 10000 →
    placed at ns ≡ replicate at 0 ++ ns
placed_short at ns short = grind (arith, common_steps, le-leb, length-shifted)

scored_low : (e : Encoding) (b : ℕ) → is_scored e b ≡ true → 33 ≤ b
scored_low e b is = grind (arith, common_steps, low_base, leb-true, and_parts)

not_none : (e : Encoding) (b : ℕ) → is_scored e b ≡ true → eqb b 0 ≡ false
not_none e b is = let low = scored_low e b is in ne_eqb b 0 (λ z. omega arith)

-- the scores of lanes with a base each are the scores of these bases
pub lanes_scores : (e : Encoding) (q : List ℕ) → list_all (is_scored e) q ≡ true →
    map (lane_score e) q ≡ scores e q
lanes_scores e [] all = refl
lanes_scores e (b ∷ bs) all = grind (arith, common_steps, and_parts, not_none, lanes_scores e bs)

-- lanes with a base each count 1 for each
pub lanes_bases : (e : Encoding) (q s : List ℕ) → list_all (is_scored e) q ≡ true →
    length q ≡ length s → map (one_if (nat_le 1)) q ≡ map (λ _. 1) s
lanes_bases e [] [] all same = refl
lanes_bases e [] (c ∷ s) all same = absurd (omega arith)
lanes_bases e (b ∷ q) [] all same = absurd (omega arith)
lanes_bases e (b ∷ q) (c ∷ s) all same =
    grind (arith, common_steps, and_parts, scored_low, le-leb, lanes_bases e q s)

-- if each number is at most this, so are all of a list
pub mapped_at_most : (f : ℕ → ℕ) (most : ℕ) → ((x : ℕ) → f x ≤ most) → (xs : List ℕ) →
    AtMost most (map f xs)
mapped_at_most f most small [] k = let least : 0 ≤ most = omega arith in least
mapped_at_most f most small (x ∷ xs) zero = small x
mapped_at_most f most small (x ∷ xs) (suc k) = mapped_at_most f most small xs k

-- no score is above 93
pub scores_at_most : (e : Encoding) (q : List ℕ) → list_all (is_scored e) q ≡ true →
    AtMost 93 (map (lane_score e) q)
scores_at_most e [] all k = let least : 0 ≤ 93 = omega arith in least
scores_at_most e (b ∷ bs) all zero = grind (arith, common_steps, and_parts, not_none, value_small)
scores_at_most e (b ∷ bs) all (suc k) = scores_at_most e bs
    (and_parts (is_scored e b) (list_all (is_scored e) bs) all).1 k

-- rows such as some reads can give are such as more reads can give that reach further
pub row_weaker : (rows rows' len len' most most' : ℕ) (xs : List ℕ) → IsFew rows len most xs →
    rows' ≤ rows → len ≤ len' → most ≤ most' → IsFew rows' len' most' xs
row_weaker rows rows' len len' most most' xs few less order bound = grind (arith, common_steps)

-- rows that count 0 hold nothing
pub row_none : (rows : ℕ) (xs : List ℕ) → xs ≡ replicate rows 0 → IsFew rows 0 0 xs
row_none rows xs is = grind (arith, common_steps, length-replicate, get_or-replicate, get_or_past)

-- after all are set to 0, rows hold nothing
pub row_cleared : (rows len most : ℕ) (xs ys : List ℕ) → length ys ≡ length xs →
    ((k : ℕ) → get_or ys k 0 ≡ 0) → IsFew rows len most xs → IsFew rows 0 0 ys
row_cleared rows len most xs ys size none few = grind (arith)

-- adding no numbers changes nothing
pub row_nothing : (rows len most at : ℕ) (xs : List ℕ) → IsFew rows len most xs → most ≤ 65535 →
    at ≤ rows → xs ≡ rows_plus xs (replicate at 0 ++ [])
row_nothing rows len most at xs few bound within =
    grind (arith, common_steps, grown_within, append-nil)
