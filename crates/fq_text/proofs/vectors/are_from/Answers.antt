use Rattle.std.proofs.Common.{length, ◌-◌, ◌∙◌, sym, arith, leb, ◌≡◌, Bool, true, false, ◌&&◌, refl, ℕ, List, [], ◌∷◌, ap, ◌≤◌, ltb, ⊎_elim, map, ap₂, take, drop, ◌+◌, take-add}
use Rattle.std.specs.List.{list_all}
use lib.Lanes.{chunk, top, zip2, sel_l}
use Rattle.std.proofs.lemmas.Bool.{and_parts, cases_Bool}
use Rattle.std.proofs.lemmas.List.{length-drop, take_all, take-take}
use Rattle.std.proofs.lemmas.List.Folds.{list_all-append}
use Rattle.std.proofs.lemmas.Simd.{length-chunk}
use Rattle.std.proofs.lemmas.Grind.{common_steps}
use Rattle.fq_text.specs.Scores.{is_from}
use Rattle.fq_text.proofs.ScoreLemmas.{all_parts}
use Rattle.fq_text.proofs.VectorLemmas.{flag, both_in}
use Rattle.fq_text.proofs.vectors.are_from.Goals as goal

-- Conditions that are joined in another order.
last_in_front : (t l c : Bool) → (t && l) && c ≡ (t && c) && l
last_in_front t l c = grind (arith, common_steps)

-- all members pass both tests exactly if all pass the one and all pass the other
in_both : (p q : ℕ → Bool) (v : List ℕ) →
    list_all (λ x. p x && q x) v ≡ list_all p v && list_all q v
in_both p q [] = refl
in_both p q (x ∷ xs) = grind (arith, common_steps, in_both p q xs)

-- the smaller byte of two vectors at each index
abbrev smallest : List ℕ → List ℕ → List ℕ
smallest a b = sel_l (map (top 7) (zip2 (λ x y. flag (ltb x y)) a b)) a b

-- the larger of the two bytes at each index
abbrev largest : List ℕ → List ℕ → List ℕ
largest a b = sel_l (map (top 7) (zip2 (λ x y. flag (ltb x y)) a b)) b a

all_smallest : (low : ℕ) (a b : List ℕ) → length a ≡ length b →
    list_all (λ x. leb low x) (smallest a b)
    ≡ list_all (λ x. leb low x) a && list_all (λ x. leb low x) b
all_smallest low [] [] long = refl
all_smallest low [] (y ∷ ys) long = absurd (omega arith)
all_smallest low (x ∷ xs) [] long = absurd (omega arith)
all_smallest low (x ∷ xs) (y ∷ ys) long = grind (arith, common_steps, all_smallest low xs ys)

all_largest : (high : ℕ) (a b : List ℕ) → length a ≡ length b →
    list_all (λ x. leb x high) (largest a b)
    ≡ list_all (λ x. leb x high) a && list_all (λ x. leb x high) b
all_largest high [] [] long = refl
all_largest high [] (y ∷ ys) long = absurd (omega arith)
all_largest high (x ∷ xs) [] long = absurd (omega arith)
all_largest high (x ∷ xs) (y ∷ ys) long = grind (arith, common_steps, all_largest high xs ys)

-- Parts of which each byte passes.
module _ (p : ℕ → Bool) where
  more_in_front : (start n : ℕ) (xs : List ℕ) →
      list_all p (take (start + n) xs) ≡ list_all p (take start xs) && list_all p (chunk start n xs)
  more_in_front start n xs = grind (arith, common_steps, take-add, list_all-append)

  by_the_last : (start last n : ℕ) (xs : List ℕ) → last + n ≡ length xs → last ≤ start →
      list_all p (take start xs) ≡ true → list_all p (chunk last n xs) ≡ list_all p xs
  by_the_last start last n xs whole passed front =
      let before : list_all p (take last xs) ≡ true =
      ap (list_all p) (sym (take-take last start xs passed))
      ∙ (and_parts _ _ (sym (all_parts p last (take start xs)) ∙ front)).0 in
      ap (list_all p) (take_all n (drop last xs) (omega (arith, length-drop last xs)))
      ∙ sym (all_parts p last xs ∙ ap (λ b. b && list_all p (drop last xs)) before)

  -- the bytes before an index, and the last ones, which begin there or earlier
  with_the_last : (start last n : ℕ) (xs : List ℕ) → last + n ≡ length xs → last ≤ start →
      list_all p (take start xs) && list_all p (chunk last n xs) ≡ list_all p xs
  with_the_last start last n xs whole passed = ⊎_elim
      (λ (front : list_all p (take start xs) ≡ true). ap (λ b. b && list_all p (chunk last n xs))
      front ∙ by_the_last start last n xs whole passed front)
      (λ (bad : list_all p (take start xs) ≡ false). ap (λ b. b && list_all p (chunk last n xs)) bad
      ∙ sym (all_parts p start xs ∙ ap (λ b. b && list_all p (drop start xs)) bad))
      (cases_Bool (list_all p (take start xs)))

-- The least and the greatest bytes so far, and those of one more vector.
one_more : (low high start n : ℕ) (xs least most : List ℕ) (last : Bool) → length least ≡ n →
    length most ≡ n → start + n ≤ length xs →
    list_all (λ x. leb low x) least && list_all (λ x. leb x high) most
    ≡ list_all (λ x. leb low x && leb x high) (take start xs) && last →
    list_all (λ x. leb low x) (smallest least (chunk start n xs)) && list_all (λ x. leb x high)
    (largest most (chunk start n xs)) ≡ list_all (λ x. leb low x && leb x high) (take
    (start + n) xs) && last
one_more low high start n xs least most last long most_long room so_far =
    let p : ℕ → Bool = λ x. leb low x && leb x high in
    let from : ℕ → Bool = λ x. leb low x in
    let to : ℕ → Bool = λ x. leb x high in
    let next = chunk start n xs in
    let size : length next ≡ n = length-chunk start n xs room in
    ap₂ (λ a b. a && b) (all_smallest low least next (omega arith))
    (all_largest high most next (omega arith))
    ∙ both_in (list_all from least) (list_all from next) (list_all to most) (list_all to next)
    ∙ ap₂ (λ a b. a && b) so_far (sym (in_both from to next))
    ∙ last_in_front (list_all p (take start xs)) last (list_all p next)
    ∙ ap (λ b. b && last) (sym (more_in_front p start n xs))

-- at the start only the last vector has been checked
pub loop-start-init : goal.loop-start-init
loop-start-init c = record {
  room = omega arith;
  judged =
      sym (in_both (λ b. leb c.args.lowest b) (λ b. leb b 126)
      (chunk (length c.args.bytes.now - 32) 32 c.args.bytes.now));
}

-- the least and the greatest bytes now check one more vector
pub loop-start-preserved : goal.loop-start-preserved
loop-start-preserved c =
    let bytes = c.args.bytes.now in
    record {
      room = omega arith;
      judged = one_more c.args.lowest 126 c.loop-start.start 32 bytes c.loop-start.least
          c.loop-start.most (list_all (is_from c.args.lowest) (chunk (length bytes - 32) 32 bytes))
          c.loop-start.auto.least.0 c.loop-start.auto.most.0 (omega arith)
          c.loop-start.invariant.judged;
    }

-- the vectors so far and the last one hold all bytes
pub returns : goal.returns
returns c =
    c.are_between.ensures
    ∙ c.loop-start.invariant.judged
    ∙ with_the_last (is_from c.args.lowest) c.loop-start.start (length c.args.bytes.now - 32) 32
    c.args.bytes.now (omega arith) (omega arith)
