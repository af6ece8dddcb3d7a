-- Rows of bases by position, and their sums, in one column.
use Rattle.std.proofs.Common.{◌≡◌, ℕ, zero, suc, ◌+◌, ◌*◌, ◌<◌, ◌≤◌, Bool, true, cond, nat_le, List, [], ◌∷◌, ◌++◌, length, take, drop, map, set, get_or, replicate, sum, min, add-one, refl, ap, ap₂, sym, ◌∙◌, arith}
use Rattle.std.specs.List.{list_all}
use Rattle.std.proofs.lemmas.List.{get_or_read, append_assoc, length-append, length-replicate, length-map, map-append}
use Rattle.std.proofs.lemmas.List.Sums.{sum_by-cons, sum_by-append}
use Rattle.std.proofs.lemmas.List.Folds.{sum_by-replicate}
use Rattle.std.proofs.lemmas.Bool.{cases_lt, and_parts, le-leb, lt-leb}
use Rattle.fq_text.specs.declared.encoding.Encoding.{Encoding}
use Rattle.fq_text.specs.Scores.{is_scored}
use Rattle.fq_text.proofs.ScoreLemmas.{value_small}
use Rattle.fq_trim.specs.Keeping.{scores}
use Rattle.fq_trim.specs.Sums.{capped_sum}
use Rattle.fq_report_reads.specs.Rows.{rows_plus}
use Rattle.fq_report_reads.proofs.RowLemmas.{plus_none}
use Rattle.fq_report_reads.specs.Counting.{by_position, one_if, placed}
use Rattle.std.proofs.lemmas.Grind.{common_steps}

-- Sums of rows.

-- of three counts, it makes no difference which two are added first
pub capped_assoc : (a b c : ℕ) → capped_sum (capped_sum a b) c ≡ capped_sum a (capped_sum b c)
capped_assoc a b c = omega arith

-- of three lists of rows, it makes no difference which two are added first
pub rows_assoc : (xs ys zs : List ℕ) → rows_plus (rows_plus xs ys) zs ≡ rows_plus xs
    (rows_plus ys zs)
rows_assoc [] ys zs = refl
rows_assoc (x ∷ xs) [] zs = refl
rows_assoc (x ∷ xs) (y ∷ ys) [] = refl
rows_assoc (x ∷ xs) (y ∷ ys) (z ∷ zs) = ap₂ (λ n ns. n ∷ ns) (capped_assoc x y z)
    (rows_assoc xs ys zs)

-- two lists of rows can be added in either order
pub rows_comm : (xs ys : List ℕ) → rows_plus xs ys ≡ rows_plus ys xs
rows_comm [] ys = sym (plus_none ys)
rows_comm (x ∷ xs) [] = refl
rows_comm (x ∷ xs) (y ∷ ys) = grind (arith, common_steps, rows_comm xs ys)

-- numbers that a u64 can hold
abbrev pub Small : List ℕ → Type 0
Small xs = (k : ℕ) → get_or xs k 0 ≤ 18446744073709551615

-- 0 more of a number that a u64 can hold is that number
pub none_more : (x : ℕ) → x ≤ 18446744073709551615 → capped_sum x 0 ≡ x
none_more x small = omega arith

-- if a u64 can hold each of some numbers, it can hold the first
pub first_small : (x : ℕ) (xs : List ℕ) → Small (x ∷ xs) → x ≤ 18446744073709551615
first_small x xs small = small 0

-- empty rows after those that are there, and none
pub grown_behind : (xs : List ℕ) (n m : ℕ) → Small xs → length xs + m ≡ n →
    xs ++ replicate m 0 ≡ rows_plus xs (replicate n 0)
grown_behind [] n m small size = ap (λ k. replicate k 0) (omega arith)
grown_behind (x ∷ xs) zero m small size = absurd (omega arith)
grown_behind (x ∷ xs) (suc n) m small size =
    grind (arith, common_steps, none_more, first_small, grown_behind xs n m (λ k. small (suc k)))

-- growing to no more rows than there are changes nothing
pub grown_within : (xs : List ℕ) (n : ℕ) → Small xs → n ≤ length xs →
    xs ≡ rows_plus xs (replicate n 0)
grown_within xs zero small within = sym (plus_none xs)
grown_within [] (suc n) small within = absurd (omega arith)
grown_within (x ∷ xs) (suc n) small within =
    grind (arith, common_steps, none_more, first_small, grown_within xs n (λ k. small (suc k)))

-- a number more in a row, which is there
more_at : (xs : List ℕ) (row a : ℕ) → a ≤ 18446744073709551615 →
    set (rows_plus xs (replicate (suc row) 0)) row
    (capped_sum (get_or (rows_plus xs (replicate (suc row) 0)) row 0) a)
    ≡ rows_plus xs (replicate row 0 ++ (a ∷ []))
more_at [] zero a small = ap (λ n. n ∷ []) (omega arith)
more_at [] (suc row) a small = ap (λ ns. 0 ∷ ns) (more_at [] row a small)
more_at (x ∷ xs) zero a small = ap (λ n. n ∷ rows_plus xs []) (omega arith)
more_at (x ∷ xs) (suc row) a small = ap (λ ns. capped_sum x 0 ∷ ns) (more_at xs row a small)

-- a number more in a row of a list that was grown to have it
pub more_in : (xs zs : List ℕ) (row x w a : ℕ) → zs ≡ rows_plus xs (replicate (row + 1) 0) →
    row < length zs → x ≡ get_or zs row x → w ≡ min (x + a) 18446744073709551615 →
    a ≤ 18446744073709551615 → set zs row w ≡ rows_plus xs (replicate row 0 ++ (a ∷ []))
more_in xs zs row x w a grown long read sum small =
    let here = get_or_read zs row x long read 0 in
    ap (set zs row) (sum ∙ ap (λ n. capped_sum n a) here)
    ∙ ap (λ ys. set ys row (capped_sum (get_or ys row 0) a))
    (grown ∙ ap (λ n. rows_plus xs (replicate n 0)) (add-one row))
    ∙ more_at xs row a small

-- Numbers by their positions. All after `most` are added up.

cut_at : ℕ → List ℕ → List ℕ
cut_at most [] = []
cut_at zero (n ∷ ns) = sum (n ∷ ns) ∷ []
cut_at (suc most) (n ∷ ns) = n ∷ cut_at most ns

cut_short : (most : ℕ) (ns : List ℕ) → length ns ≤ most → ns ≡ cut_at most ns
unfolding cut_at
cut_short most [] short = refl
cut_short zero (n ∷ ns) short = absurd (omega arith)
cut_short (suc most) (n ∷ ns) short = ap (λ ms. n ∷ ms) (cut_short most ns (omega arith))

cut_long : (most : ℕ) (ns : List ℕ) → most < length ns →
    take most ns ++ (sum (drop most ns) ∷ []) ≡ cut_at most ns
unfolding cut_at
cut_long most [] long = absurd (omega arith)
cut_long zero (n ∷ ns) long = refl
cut_long (suc most) (n ∷ ns) long = ap (λ ms. n ∷ ms) (cut_long most ns (omega arith))

cut_is : (most : ℕ) (ns : List ℕ) → cond (nat_le (length ns) most) ns
    (take most ns ++ (sum (drop most ns) ∷ [])) ≡ cut_at most ns
cut_is most ns = grind (arith, common_steps, lt-leb, cut_long, le-leb, cut_short, cases_lt)

-- no number of a list is above its sum
abbrev Bounded : List ℕ → Type 0
Bounded ns = sum ns ≤ 18446744073709551615

sum-cons : (n : ℕ) (ns : List ℕ) → sum (n ∷ ns) ≡ n + sum ns
sum-cons n ns = sum_by-cons (λ (x : ℕ). x) n ns

sum-append : (ms ns : List ℕ) → sum (ms ++ ns) ≡ sum ms + sum ns
sum-append ms ns = sum_by-append (λ (x : ℕ). x) ms ns

sum-zeros : (k : ℕ) → sum (replicate k 0) ≡ 0
sum-zeros k = let e = sum_by-replicate (λ (x : ℕ). x) k 0 in omega arith

cut_joined : (most : ℕ) (us vs : List ℕ) → Bounded (us ++ vs) →
    rows_plus (cut_at most us) (cut_at most (replicate (length us) 0 ++ vs))
    ≡ cut_at most (us ++ vs)
unfolding cut_at
cut_joined most [] vs small = refl
cut_joined zero (u ∷ us) vs small = grind (arith, common_steps, sum-cons, sum-append, sum-zeros)
cut_joined (suc most) (u ∷ us) vs small =
    grind (arith, common_steps, sum-cons, none_more, cut_joined most us vs)

-- numbers by position, added to those after them at their own positions, are all by position
pub joined : (us vs : List ℕ) → sum us + sum vs ≤ 18446744073709551615 →
    rows_plus (by_position us) (by_position (replicate (length us) 0 ++ vs))
    ≡ by_position (us ++ vs)
joined us vs small =
    ap₂ rows_plus (cut_is 10000 us) (cut_is 10000 (replicate (length us) 0 ++ vs))
    ∙ cut_joined 10000 us vs (omega (arith, sum-append us vs))
    ∙ sym (cut_is 10000 (us ++ vs))

-- the same if the first number has a place
pub placed_joined : (at k : ℕ) (us vs : List ℕ) → k ≡ at + length us →
    sum us + sum vs ≤ 18446744073709551615 →
    rows_plus (placed at us) (placed k vs) ≡ placed at (us ++ vs)
placed_joined at k us vs behind small =
    let none = sum-zeros at in
    grind (arith, common_steps, length-append, length-replicate, sum-append, joined, append_assoc)

cut_none : (most at : ℕ) → cut_at most (replicate at 0 ++ []) ≡ replicate (min at (suc most)) 0
unfolding cut_at
cut_none most zero = let none : 0 ≡ min 0 (suc most) = omega arith in ap (λ n. replicate n 0) none
cut_none zero (suc at) = grind (arith, common_steps, sum-cons, sum-append, sum-zeros)
cut_none (suc most) (suc at) =
    let f : suc (min at (suc most)) ≡ min (suc at) (suc (suc most)) = omega arith in
    ap (λ ns. 0 ∷ ns) (cut_none most at) ∙ ap (λ n. replicate n 0) f

-- no number, after a place
pub placed_none : (at rows : ℕ) → rows ≡ min at 10001 → replicate rows 0 ≡ placed at []
placed_none at rows is = ap (λ n. replicate n 0) is ∙ sym (cut_none 10000 at)
    ∙ sym (cut_is 10000 (replicate at 0 ++ []))

cut_one : (most at a : ℕ) → cut_at most (replicate at 0 ++ (a ∷ [])) ≡ replicate (min at most)
    0 ++ (a ∷ [])
unfolding cut_at
cut_one zero zero a = grind (arith, common_steps, sum-cons)
cut_one (suc most) zero a = grind (arith, common_steps)
cut_one zero (suc at) a = grind (arith, common_steps, sum-cons, sum-append, sum-zeros)
cut_one (suc most) (suc at) a =
    let f : suc (min at most) ≡ min (suc at) (suc most) = omega arith in
    ap (λ ns. 0 ∷ ns) (cut_one most at a) ∙ ap (λ n. replicate n 0 ++ (a ∷ [])) f

-- one number at a place
pub placed_one : (at row a : ℕ) → row ≡ min at 10000 →
    replicate row 0 ++ (a ∷ []) ≡ placed at (a ∷ [])
placed_one at row a is = ap (λ n. replicate n 0 ++ (a ∷ [])) is ∙ sym (cut_one 10000 at a)
    ∙ sym (cut_is 10000 (replicate at 0 ++ (a ∷ [])))

-- Bases that follow one another.

-- a test counts a number once, or not at all
pub one_if_small : (p : ℕ → Bool) (x : ℕ) → one_if p x ≤ 1
one_if_small p x = grind (arith, common_steps)

ones_small : (f : ℕ → ℕ) → ((x : ℕ) → f x ≤ 1) → (xs : List ℕ) → sum (map f xs) ≤ length xs
ones_small f small [] = omega arith
ones_small f small (x ∷ xs) =
    omega (arith, sum-cons (f x) (map f xs), small x, ones_small f small xs)

-- what each base counts, of some bases and of those after them, is what all count
pub ones_joined : (f : ℕ → ℕ) → ((x : ℕ) → f x ≤ 1) → (at k : ℕ) (xs ys : List ℕ) →
    k ≡ at + length xs → length xs ≤ 1048576 → length ys ≤ 1048576 →
    rows_plus (placed at (map f xs)) (placed k (map f ys)) ≡ placed at (map f (xs ++ ys))
ones_joined f small at k xs ys behind few less =
    grind (arith, ones_small, length-map, placed_joined, map-append)

-- no score is above 93, so their sum is at most 93 for each base
pub scores_small : (e : Encoding) (qual : List ℕ) → list_all (is_scored e) qual ≡ true →
    sum (scores e qual) ≤ 93 * length qual
scores_small e [] all = omega arith
scores_small e (b ∷ bs) all =
    grind (arith, common_steps, and_parts, sum-cons, value_small, scores_small e bs)
