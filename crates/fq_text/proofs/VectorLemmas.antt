-- Bytes that are compared in a vector. The result of a comparison is 255 for each byte for which it
-- holds, and 0 for the others.
use Rattle.std.proofs.Common.{◌≡◌, ◌≤◌, ◌+◌, ◌*◌, ◌%◌, ◌^◌, ℕ, Bool, not, ◌&&◌, cond, ltb, leb, eqb, List, [], ◌∷◌, length, map, refl, ap, ap₂, ◌∙◌, arith}
use Rattle.std.specs.List.{list_all}
use Rattle.std.proofs.lemmas.List.{length-map}
use Rattle.std.proofs.lemmas.Bool.{ne_eqb}
use Rattle.std.proofs.lemmas.Simd.{mask_l-mod}
use Rattle.std.proofs.lemmas.Grind.{common_steps}
use lib.Lanes.{mask_l, top}

-- 255 if a comparison holds for a byte, otherwise 0
abbrev pub flag : Bool → ℕ
flag b = cond b 255 0

flag_top : (b : Bool) → top 7 (flag b) ≡ b
flag_top b = grind (arith, common_steps)

tops : (p : ℕ → Bool) (v : List ℕ) → map (top 7) (map (λ x. flag (p x)) v) ≡ map p v
tops p [] = refl
tops p (x ∷ xs) = ap₂ (λ y ys. y ∷ ys) (flag_top (p x)) (tops p xs)

-- the mask of the bytes that pass
pub mask_of : (p : ℕ → Bool) (v : List ℕ) {z : List ℕ} → length v ≤ 64 →
    z ≡ map (λ x. flag (p x)) v → mask_l (map (top 7) z) % 2 ^ 64 ≡ mask_l (map p v)
mask_of p v short same =
    grind (arith, common_steps, mask_l, top 7, tops p v, mask_l-mod (map p v) 64, length-map v p)

-- Whether no byte passes, by the mask.
twice : (m : ℕ) → eqb (2 * m) 0 ≡ eqb m 0
twice m = grind (arith, common_steps)

one_set : (b : Bool) (m : ℕ) → eqb (cond b 1 0 + 2 * m) 0 ≡ not b && eqb m 0
one_set b m = grind (arith, common_steps, ne_eqb, eqb, twice)

none_set : (p q : ℕ → Bool) → ((x : ℕ) → not (p x) ≡ q x) → (v : List ℕ) →
    eqb (mask_l (map p v)) 0 ≡ list_all q v
none_set p q same [] = refl
none_set p q same (x ∷ xs) = one_set (p x) (mask_l (map p xs))
    ∙ ap₂ (λ a b. a && b) (same x) (none_set p q same xs)

-- four conditions that are joined in another order
pub both_in : (a b c d : Bool) → (a && b) && (c && d) ≡ (a && c) && (b && d)
both_in a b c d = grind (arith, common_steps)

not_not : (b : Bool) → not (not b) ≡ b
not_not b = grind (arith, common_steps)

-- a number is not below another exactly if it is at least that
pub not_less : (x y : ℕ) → not (ltb x y) ≡ leb y x
not_less x y = grind (arith, common_steps)

-- whether each byte passes, by the mask of those that fail
pub all_by_mask : (fails passes : ℕ → Bool) → ((x : ℕ) → not (fails x) ≡ passes x) →
    (v : List ℕ) {z : List ℕ} → length v ≤ 64 → z ≡ map (λ x. flag (fails x)) v →
    not (not (eqb (mask_l (map (top 7) z) % 2 ^ 64) 0)) ≡ list_all passes v
all_by_mask fails passes same v short is = not_not (eqb (mask_l (map (top 7) _) % 2 ^ 64) 0)
    ∙ ap (λ m. eqb m 0) (mask_of fails v short is) ∙ none_set fails passes same v
