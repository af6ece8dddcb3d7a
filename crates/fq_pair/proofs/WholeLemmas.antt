-- The whole lines of a text, and what comes after them.
use Rattle.std.proofs.Common.{arith, ◌≡◌, ℕ, true, false, cond, eqb, Bool, List, [], ◌∷◌, ◌++◌, refl}
use Rattle.std.specs.List.{list_any}
use Rattle.std.proofs.lemmas.Bool.{cond-true, cond-false, cases_Bool, or_left}
use Rattle.std.proofs.lemmas.Grind.{common_steps}
use Rattle.fq_text.specs.Lines.{is_whole, whole_part}

abbrev is_lf : ℕ → Bool
is_lf c = eqb c 10

-- the bytes after the last LF
abbrev pub behind_whole : List ℕ → List ℕ
behind_whole [] = []
behind_whole (b ∷ bs) = cond (list_any is_lf (b ∷ bs)) (behind_whole bs) (b ∷ bs)

-- a text is its whole part and the bytes after its last LF
pub whole_split : (text : List ℕ) → text ≡ whole_part text ++ behind_whole text
whole_split [] = refl
whole_split (b ∷ bs) = grind (arith, common_steps, whole_split bs)

no_whole : (text : List ℕ) → list_any is_lf text ≡ false → whole_part text ≡ []
no_whole [] none = refl
no_whole (b ∷ bs) none = cond-false (list_any is_lf (b ∷ bs)) (b ∷ whole_part bs) [] none

whole_before : (b : ℕ) (bs : List ℕ) → list_any is_lf (b ∷ bs) ≡ true →
    (list_any is_lf bs ≡ true → is_whole (whole_part bs) ≡ true) →
    is_whole (b ∷ whole_part bs) ≡ true
whole_before b [] some then = grind (arith, common_steps)
whole_before b (c ∷ cs) some then = grind (arith, common_steps)

some_whole : (text : List ℕ) → list_any is_lf text ≡ true → is_whole (whole_part text) ≡ true
some_whole [] some = refl
some_whole (b ∷ bs) some = grind (arith, common_steps, whole_before, some_whole bs)

-- the whole part of a text ends with a line end, or is empty
pub is_whole-whole_part : (text : List ℕ) → is_whole (whole_part text) ≡ true
is_whole-whole_part text = grind (arith, common_steps, some_whole, no_whole, cases_Bool)

-- whole lines at the front stay
pub whole_part-whole : (xs ys : List ℕ) → is_whole xs ≡ true →
    whole_part (xs ++ ys) ≡ xs ++ whole_part ys
whole_part-whole [] ys whole = refl
whole_part-whole (b ∷ []) ys whole = cond-true _ (b ∷ whole_part ys) [] (or_left _ _ whole)
whole_part-whole (b ∷ c ∷ bs) ys whole =
    grind (arith, common_steps, whole_part-whole (c ∷ bs) ys whole)
