-- Rows and their sums.
use Rattle.std.proofs.Common.{◌≡◌, ℕ, zero, suc, ◌+◌, ◌<◌, ◌≤◌, List, [], ◌∷◌, length, take, set, get_or, replicate, min, max, refl, ap, ap₂, arith, add-one}
use Rattle.std.proofs.lemmas.List.{get_or_read, length-append, length-replicate}
use Rattle.fq_trim.specs.Sums.{capped_sum}
use Rattle.fq_report_reads.specs.Rows.{with_one, rows_plus}
use Rattle.std.proofs.lemmas.Grind.{common_steps}

-- Sums of rows.
pub plus_none : (xs : List ℕ) → rows_plus xs [] ≡ xs
plus_none [] = refl
plus_none (x ∷ xs) = refl

-- two lists of rows together have as many rows as the longer one
pub length-rows_plus : (xs ys : List ℕ) → length (rows_plus xs ys) ≡ max (length xs) (length ys)
length-rows_plus [] ys = omega arith
length-rows_plus (x ∷ xs) [] = omega arith
length-rows_plus (x ∷ xs) (y ∷ ys) = let more = length-rows_plus xs ys in omega arith

-- with one more in a row, there are as many rows as before or as it needs, whichever is more
pub length-with_one : (row : ℕ) (xs : List ℕ) → length (with_one row xs) ≡ max (length xs) (suc row)
length-with_one row xs =
    grind (arith, common_steps, length-rows_plus, length-append, length-replicate)

-- rows that were made to reach a row have it
pub grown_row : (xs zs : List ℕ) (row : ℕ) → zs ≡ rows_plus xs (replicate (row + 1) 0) →
    row < length zs
grown_row xs zs row is = grind (arith, common_steps, length-rows_plus, length-replicate)

-- one row more is added
pub plus_more : (xs ys : List ℕ) (i : ℕ) → i < length xs → i < length ys →
    rows_plus xs (take (suc i) ys) ≡ set (rows_plus xs (take i ys)) i (capped_sum
    (get_or (rows_plus xs (take i ys)) i 0) (get_or ys i 0))
plus_more [] ys i lx ly = absurd (omega arith)
plus_more (x ∷ xs) [] i lx ly = absurd (omega arith)
plus_more (x ∷ xs) (y ∷ ys) zero lx ly = ap (λ ns. capped_sum x y ∷ ns) (plus_none xs)
plus_more (x ∷ xs) (y ∷ ys) (suc i) lx ly = grind (arith, common_steps, plus_more xs ys i)

-- Rows are added to rows that are at least as many.
pub grown_long : (xs ys zs : List ℕ) (i : ℕ) →
    zs ≡ rows_plus (rows_plus xs (replicate (length ys) 0)) (take i ys) → i < length ys →
    i < length zs
grown_long xs ys zs i is below = grind (arith, common_steps, length-rows_plus, length-replicate)

-- if i rows are added to a list grown to at least as many as all, and then row i, i + 1 are
pub grown_next : (xs ys zs : List ℕ) (i x w : ℕ) → i < length ys →
    zs ≡ rows_plus (rows_plus xs (replicate (length ys) 0)) (take i ys) → x ≡ get_or zs i x →
    w ≡ min (x + get_or ys i 0) 18446744073709551615 →
    set zs i w ≡ rows_plus (rows_plus xs (replicate (length ys) 0)) (take (i + 1) ys)
grown_next xs ys zs i x w below so_far read sum =
    let long = grown_long xs ys zs i so_far below in
    grind (arith, common_steps, length-rows_plus, length-replicate, get_or_read, plus_more, add-one)

-- once all rows are added to a list that was grown so, it is both lists together
pub grown_plus : (xs ys : List ℕ) → ((k : ℕ) → get_or ys k 0 ≤ 18446744073709551615) →
    rows_plus (rows_plus xs (replicate (length ys) 0)) (take (length ys) ys) ≡ rows_plus xs ys
grown_plus [] [] small = refl
grown_plus (x ∷ xs) [] small = refl
grown_plus [] (y ∷ ys) small =
    let fits : y ≤ 18446744073709551615 = small 0 in
    let same : capped_sum 0 y ≡ y = omega arith in
    ap₂ (λ n ns. n ∷ ns) same (grown_plus [] ys (λ k. small (suc k)))
grown_plus (x ∷ xs) (y ∷ ys) small =
    grind (arith, common_steps, grown_plus xs ys (λ k. small (suc k)))
