-- Bytes that are counted in a vector.
use Rattle.std.proofs.Common.{◌≡◌, ◌≤◌, ◌+◌, ◌-◌, ◌*◌, ◌%◌, ◌^◌, Fits, w8, ℕ, zero, suc, ◌<◌, Bool, true, false, ◌||◌, eqb, cond, count_by, sum, List, [], ◌∷◌, ◌++◌, length, map, take, drop, replicate, refl, sym, ap, ap₂, ◌∙◌, arith}
use Rattle.std.specs.List.{sum_by}
use Rattle.std.proofs.Math.Seq.{take-add}
use Rattle.std.proofs.lemmas.List.{drop-drop, length-map}
use Rattle.std.proofs.lemmas.Bool.{agree_below, agree_below_at}
use Rattle.std.proofs.lemmas.List.Sums.{sum_by-cons, sum_by-append}
use Rattle.std.proofs.lemmas.List.Folds.{sum_by-replicate}
use Rattle.std.proofs.lemmas.Simd.{ones-mask_l, zip2_splat, map-map}
use lib.Bits.{bit_or}
use lib.Count.{ones}
use lib.Lanes.{zip2, sel_l, mask_l, top, sum_l, Each1}
use Rattle.fq_text.proofs.VectorLemmas.{flag, mask_of}
use Rattle.fq_report_reads.specs.Vectors.{Holds}
use Rattle.fq_report_reads.specs.Counting.{one_if, AtMost}
use Rattle.fq_report_reads.proofs.PositionLemmas.{one_if_small}
use Rattle.fq_report_reads.proofs.FewLemmas.{mapped_at_most}
use Rattle.std.proofs.lemmas.Grind.{common_steps}

-- how many bytes pass, by the bits of their flags
pub flags_counted : (p : ℕ → Bool) (v : List ℕ) {z : List ℕ} → length v ≤ 64 →
    z ≡ map (λ x. flag (p x)) v →
    ones (mask_l (map (top 7) z) % 2 ^ 64) ≡ count_by p v
flags_counted p v short same = ap ones (mask_of p v short same) ∙ ones-mask_l p v

flag_or : (a b : Bool) → bit_or (flag a) (flag b) ≡ flag (a || b)
flag_or a b = grind (arith, common_steps)

-- one or the other
either_flags : (p q : ℕ → Bool) (v : List ℕ) →
    zip2 bit_or (map (λ x. flag (p x)) v) (map (λ x. flag (q x)) v) ≡ map (λ x. flag (p x || q x)) v
either_flags p q [] = refl
either_flags p q (x ∷ xs) = ap₂ (λ y ys. y ∷ ys) (flag_or (p x) (q x)) (either_flags p q xs)

-- the flags of two tests, joined bit by bit, are those of passing one or the other
pub either : (p q : ℕ → Bool) (v : List ℕ) {a b : List ℕ} → a ≡ map (λ x. flag (p x)) v →
    b ≡ map (λ x. flag (q x)) v →
    zip2 bit_or a b ≡ map (λ x. flag (p x || q x)) v
either p q v left right = ap₂ (zip2 bit_or) left right ∙ either_flags p q v

-- the sum of a vector
pub vector_summed : (v : List ℕ) → sum_l v ≡ sum v
vector_summed [] = refl
vector_summed (x ∷ xs) = grind (arith, common_steps, sum_by-cons, vector_summed xs)

-- What a vector holds, with zeros beside it.

zeros_count : (f : ℕ → ℕ) → f 0 ≡ 0 → (k : ℕ) → sum_by f (replicate k 0) ≡ 0
zeros_count f nothing k = sum_by-replicate f k 0 ∙ ap (λ n. k * n) nothing ∙ omega arith

-- bytes after zeros
pub zeros_before : (k : ℕ) (bytes : List ℕ) → Holds bytes (replicate k 0 ++ bytes)
zeros_before k bytes f nothing =
    omega (arith, sum_by-append f (replicate k 0) bytes, zeros_count f nothing k)

-- bytes before zeros
pub zeros_behind : (k : ℕ) (bytes : List ℕ) → Holds bytes (bytes ++ replicate k 0)
zeros_behind k bytes f nothing =
    omega (arith, sum_by-append f bytes (replicate k 0), zeros_count f nothing k)

-- A loop over the places from one to another, of which a vector holds some at a time, counts on.
pub summed_on : (f : ℕ → ℕ) → f 0 ≡ 0 → (bytes vector : List ℕ) (from at stop n m : ℕ) → from ≤ at →
    at ≤ stop → Holds (take (stop - at) (drop at bytes)) vector →
    m ≡ sum_by f vector → n ≡ sum_by f (take (at - from) (drop from bytes)) →
    n + m ≡ sum_by f (take (stop - from) (drop from bytes))
summed_on f nothing bytes vector from at stop n m begun order holds here so_far =
    let more : m ≡ sum_by f (take (stop - at) (drop at bytes)) = here ∙ holds f nothing in
    let behind : drop (at - from) (drop from bytes) ≡ drop at bytes =
    drop-drop (at - from) from bytes ∙ ap (λ k. drop k bytes) (omega arith) in
    let parts : take (stop - from) (drop from bytes)
    ≡ take (at - from) (drop from bytes) ++ take (stop - at) (drop at bytes) =
    ap (λ k. take k (drop from bytes)) (omega arith)
    ∙ take-add (at - from) (stop - at) (drop from bytes)
    ∙ ap (λ xs. take (at - from) (drop from bytes) ++ take (stop - at) xs) behind in
    let both : sum_by f (take (stop - from) (drop from bytes))
    ≡ sum_by f (take (at - from) (drop from bytes)) + sum_by f
    (take (stop - at) (drop at bytes)) =
    ap (sum_by f) parts ∙ sum_by-append f (take (at - from) (drop from bytes))
    (take (stop - at) (drop at bytes)) in
    omega arith

-- the same of a count of the bytes that pass a test, which 0 doesn't
pub counted_on : (p : ℕ → Bool) → p 0 ≡ false → (bytes vector : List ℕ) (from at stop n m : ℕ) →
    from ≤ at → at ≤ stop → Holds (take (stop - at) (drop at bytes)) vector →
    m ≡ count_by p vector → n ≡ count_by p (take (at - from) (drop from bytes)) →
    n + m ≡ count_by p (take (stop - from) (drop from bytes))
counted_on p never = summed_on (λ x. cond (p x) 1 0) (ap (λ b. cond b 1 0) never)

-- Letters in either case: those of upper case lack one bit.
-- byte x with the bit of lower case is letter l
abbrev is_letter : ℕ → ℕ → Bool
is_letter l x = eqb (bit_or x 32) (97 + l)

-- byte x is letter l of either case
abbrev is_in_case : ℕ → ℕ → Bool
is_in_case l x = eqb x (65 + l) || eqb x (97 + l)

letters_agree : agree_below (λ l. agree_below (is_letter l) (is_in_case l) 256) (λ l. true) 26
    ≡ true
letters_agree = refl

one_letter : (letter x : ℕ) → 97 ≤ letter → letter ≤ 122 → x < 256 →
    eqb (bit_or x 32) letter ≡ (eqb x (letter - 32) || eqb x letter)
one_letter letter x low high small =
    let l : ℕ = letter - 97 in
    let whole : 97 + l ≡ letter = omega arith in
    let upper : 65 + l ≡ letter - 32 = omega arith in
    let same =
    agree_below_at (is_letter l) (is_in_case l) 256 x
    (agree_below_at (λ k. agree_below (is_letter k) (is_in_case k) 256) (λ k. true) 26 l
    letters_agree (omega arith)) small in
    ap (λ n. eqb (bit_or x 32) n) (sym whole) ∙ same ∙ ap₂ (λ m n. eqb x m || eqb x n) upper whole

each_letter : (letter : ℕ) (v : List ℕ) → 97 ≤ letter → letter ≤ 122 → Each1 (Fits w8) v →
    map (λ x. flag (eqb (bit_or x 32) letter)) v
    ≡ map (λ x. flag (eqb x (letter - 32) || eqb x letter)) v
each_letter letter [] low high fits = refl
each_letter letter (x ∷ xs) low high fits =
    grind (arith, common_steps, one_letter, each_letter letter xs low high fits.1)

-- comparing with a letter after setting the bit of lower case finds it in either case
pub either_case : (letter : ℕ) (v : List ℕ) → 97 ≤ letter → letter ≤ 122 → length v ≡ 32 →
    Each1 (Fits w8) v →
    zip2 (λ a b. flag (eqb a b)) (zip2 bit_or v (replicate 32 32)) (replicate 32 letter)
    ≡ map (λ x. flag (eqb x (letter - 32) || eqb x letter)) v
either_case letter v low high long fits =
    let lower = zip2_splat bit_or v 32 32 long in
    let size : length (map (λ x. bit_or x 32) v) ≡ 32 = length-map v (λ x. bit_or x 32) ∙ long in
    ap (λ xs. zip2 (λ a b. flag (eqb a b)) xs (replicate 32 letter)) lower
    ∙ zip2_splat (λ (a b : ℕ). flag (eqb a b)) (map (λ x. bit_or x 32) v) 32 letter size
    ∙ map-map (λ y. flag (eqb y letter)) (λ x. bit_or x 32) v
    ∙ each_letter letter v low high fits

-- Ones for the bytes that pass.
flag_top : (b : Bool) → top 7 (flag b) ≡ b
flag_top b = grind (arith, common_steps)

ones_for : (p : ℕ → Bool) (v : List ℕ) (n : ℕ) → length v ≡ n →
    sel_l (map (top 7) (map (λ x. flag (p x)) v)) (replicate n 1) (replicate n 0) ≡ map (one_if p) v
ones_for p [] n long = refl
ones_for p (x ∷ xs) zero long = absurd (omega arith)
ones_for p (x ∷ xs) (suc n) long = grind (arith, common_steps, flag_top, ones_for p xs n)

-- selecting 1 or 0 by flags gives 1 for each byte that passes, and 0 for the others
pub ones_chosen : (p : ℕ → Bool) (v : List ℕ) (n : ℕ) {z : List ℕ} → length v ≡ n →
    z ≡ map (λ x. flag (p x)) v → sel_l (map (top 7) z) (replicate n 1) (replicate n 0) ≡ map
    (one_if p) v
ones_chosen p v n long is = grind (arith, common_steps, sel_l, top, ones_for)

-- 1 for each byte that passes and 0 for the others is at most 1 in each lane
pub ones_are_few : (p : ℕ → Bool) (v ones : List ℕ) → ones ≡ map (one_if p) v → AtMost 1 ones
ones_are_few p v ones is = rw is (mapped_at_most (one_if p) 1 (one_if_small p) v)
