use Rattle.std.proofs.Common.{◌≡◌, ℕ, zero, suc, ◌+◌, ◌-◌, ◌<◌, ◌%◌, List, [], ◌∷◌, ◌++◌, length, map, refl, sym, ap, ◌∙◌, arith, length-append, subst, inl, inr}
use Rattle.std.proofs.Math.Nat.{suc-mod, mod-eq_of_lt, mod_self, zero-mod}
use Rattle.std.proofs.lemmas.Nat.{mod_below}
use Rattle.std.proofs.lemmas.Bool.{cases_lt}
use Rattle.std.proofs.lemmas.Grind.{common_steps}
use mathlib.Core.List.{IsPrefix}
use Rattle.fq_run.specs.Shares.{every, dealt_to, deal, gather_turns, gather, total_length}

-- the index after index n of w, in turn
pub next_wraps : (n w : ℕ) → 0 < w → suc (n % w) ≡ w → suc n % w ≡ 0
next_wraps n w pos e = suc-mod n w ∙ ap (λ k. k % w) e ∙ mod_self w

-- it is the next number, if that is below w
pub next_within : (n w : ℕ) → suc (n % w) < w → suc n % w ≡ suc (n % w)
next_within n w lt = suc-mod n w ∙ mod-eq_of_lt lt

last_before : (n w : ℕ) → 0 < w → suc n % w ≡ 0 → n % w ≡ w - 1
last_before n w pos e = grind (arith, common_steps)

last_after : (n w : ℕ) → 0 < w → n % w ≡ w - 1 → suc n % w ≡ 0
last_after n w pos e = next_wraps n w pos (let f = mod_below n w pos in omega arith)

inner_before : (n w k : ℕ) → 0 < w → suc n % w ≡ suc k → n % w ≡ k
inner_before n w k pos e = grind (arith, common_steps)

inner_after : (n w k : ℕ) → suc k < w → n % w ≡ k → suc n % w ≡ suc k
inner_after n w k lt e = next_within n w (omega arith) ∙ ap (λ i. suc i) e

module _ {T : Type 0} where
  total-append : (ls ms : List (List T)) → total_length (ls ++ ms) ≡ total_length ls + total_length
      ms
  total-append [] ms = omega arith
  total-append (l ∷ ls) ms = let ih = total-append ls ms in omega arith

  -- a first member goes to the first list, and the rest is dealt on from the second
  dealt_more : (n w : ℕ) (x : T) (xs : List T) →
      dealt_to (suc n) w (x ∷ xs) ≡ (x ∷ every (w - 1) w xs) ∷ dealt_to n w xs
  dealt_more zero w x xs = refl
  dealt_more (suc n) w x xs = ap (λ ls. ls ++ every n w xs ∷ []) (dealt_more n w x xs)

  total_dealt_none : (xs : List T) → xs ≡ [] → (n w : ℕ) → total_length (dealt_to n w xs) ≡ 0
  total_dealt_none xs none zero w = refl
  total_dealt_none xs none (suc n) w =
      let a = total-append (dealt_to n w xs) (every n w xs ∷ []) in
      let ih = total_dealt_none xs none n w in
      let b : length (every n w xs) ≡ 0 = ap (λ ys. length (every n w ys)) none in
      omega arith

  total_dealt : (xs : List T) (n : ℕ) → total_length (deal xs (suc n)) ≡ length xs
  total_dealt [] n = total_dealt_none [] refl (suc n) (suc n)
  total_dealt (x ∷ xs) n =
      let e = ap total_length (dealt_more n (suc n) x xs) in
      let ih = total_dealt xs n in
      let a = total-append (dealt_to n (suc n) xs) (every n (suc n) xs ∷ []) in
      let l : suc n - 1 ≡ n = omega arith in
      let b = ap (λ k. length (every k (suc n) xs)) l in
      e ∙ omega arith

  gathered : (xs : List T) (n : ℕ) → gather_turns (length xs) (deal xs (suc n)) ≡ xs
  gathered [] n = refl
  gathered (x ∷ xs) n =
      let l : suc n - 1 ≡ n = omega arith in
      ap (gather_turns (suc (length xs))) (dealt_more n (suc n) x xs)
      ∙ ap (λ ys. x ∷ ys) (ap (λ k. gather_turns (length xs)
      (dealt_to n (suc n) xs ++ every k (suc n) xs ∷ [])) l ∙ gathered xs n)

  -- a list that is dealt out and gathered again is as it was
  pub gather-deal : (xs : List T) (w : ℕ) → 0 < w → gather (deal xs w) ≡ xs
  gather-deal xs zero pos = absurd (omega arith)
  gather-deal xs (suc n) pos = ap (λ k. gather_turns k (deal xs (suc n))) (total_dealt xs n)
      ∙ gathered xs n

  -- one more member, in the list whose turn it is
  pub every_here : (xs : List T) (x : T) (k w : ℕ) → k < w → length xs % w ≡ k →
      every k w (xs ++ x ∷ []) ≡ every k w xs ++ x ∷ []
  every_here [] x k w lt e = grind (arith, common_steps)
  every_here (y ∷ xs) x zero w lt e =
      let pos : 0 < w = omega arith in
      ap (λ ys. y ∷ ys) (every_here xs x (w - 1) w (omega arith) (last_before (length xs) w pos e))
  every_here (y ∷ xs) x (suc k) w lt e =
      let pos : 0 < w = omega arith in
      every_here xs x k w (omega arith) (inner_before (length xs) w k pos e)

  -- and none in the others
  pub every_there : (xs : List T) (x : T) (k w : ℕ) → k < w → (length xs % w ≡ k → ⊥) →
      every k w (xs ++ x ∷ []) ≡ every k w xs
  every_there [] x zero w lt e = absurd (e (zero-mod w))
  every_there [] x (suc k) w lt e = refl
  every_there (y ∷ xs) x zero w lt e =
      let pos : 0 < w = omega arith in
      ap (λ ys. y ∷ ys) (every_there xs x (w - 1) w (omega arith) (λ h. e
      (last_after (length xs) w pos h)))
  every_there (y ∷ xs) x (suc k) w lt e = every_there xs x k w (omega arith)
      (λ h. e (inner_after (length xs) w k lt h))

  -- if each turn of one list begins that of another, the lists begin alike, and so do the turns of
  -- what follows
  after_first : (x y : T) (xs ys : List T) (w : ℕ) → 0 < w →
      ((j : ℕ) → j < w → IsPrefix (every j w (x ∷ xs)) (every j w (y ∷ ys))) →
      (x ≡ y) × ((j : ℕ) → j < w → IsPrefix (every j w xs) (every j w ys))
  after_first x y xs ys w pos pre =
      let p = pre 0 pos in
      let q : x ∷ (every (w - 1) w xs ++ p.0) ≡ y ∷ every (w - 1) w ys = p.1 in
      let head : x ≡ y = cc in
      let tail : every (w - 1) w xs ++ p.0 ≡ every (w - 1) w ys = cc in
      let P : ℕ → Type 0 = λ k. IsPrefix (every k w xs) (every k w ys) in (
        head,
        λ j lt. elim (cases_lt (suc j) w) [
          | inl more ↦ pre (suc j) more
          | inr last ↦ subst P (let e : w - 1 ≡ j = omega arith in e) (p.0, tail)
        ],
      )

  -- a list whose turns have all come, up to a list that has no more, is the whole list
  pub whole_from_turns : (xs ys : List T) (w : ℕ) → 0 < w →
      ((j : ℕ) → j < w → IsPrefix (every j w xs) (every j w ys)) →
      every (length xs % w) w ys ≡ every (length xs % w) w xs → xs ≡ ys
  whole_from_turns [] [] w pos pre end = refl
  whole_from_turns [] (y ∷ ys) w pos pre end = grind (arith, common_steps)
  whole_from_turns (x ∷ xs) [] w pos pre end =
      let p = (pre 0 pos).1 in
      cc
  whole_from_turns (x ∷ xs) (y ∷ ys) w pos pre end =
      let first = after_first x y xs ys w pos pre in
      let head : x ≡ y = first.0 in
      let end' : every (length xs % w) w ys ≡ every (length xs % w) w xs =
      (let below = mod_below (length xs) w pos in
      elim (cases_lt (suc (length xs % w)) w) [
        | inl more ↦ rw (next_within (length xs) w more) at end
        | inr last ↦ (let e : y ∷ every (w - 1) w ys ≡ x ∷ every (w - 1) w xs =
            rw (next_wraps (length xs) w pos (omega arith)) at end in
            let t : every (w - 1) w ys ≡ every (w - 1) w xs = cc in
            let here : w - 1 ≡ length xs % w = omega arith in rw here at t)
      ]) in
      let rest : xs ≡ ys = whole_from_turns xs ys w pos first.1 end' in
      cc

module _ {T : Type 0} where
  -- a list whose turns are all beginnings is a beginning
  pub prefix_from_turns : (xs ys : List T) (w : ℕ) → 0 < w →
      ((j : ℕ) → j < w → IsPrefix (every j w xs) (every j w ys)) → IsPrefix xs ys
  prefix_from_turns [] ys w pos pre = (ys, refl)
  prefix_from_turns (x ∷ xs) [] w pos pre =
      let p = (pre 0 pos).1 in
      cc
  prefix_from_turns (x ∷ xs) (y ∷ ys) w pos pre =
      let first = after_first x y xs ys w pos pre in
      let rest = prefix_from_turns xs ys w pos first.1 in
      (rest.0, ap (λ z. z ∷ (xs ++ rest.0)) first.0 ∙ ap (λ zs. y ∷ zs) rest.1)

-- what is dealt of mapped members is what is dealt of the members, mapped
pub every-map : {A B : Type 0} (f : A → B) (k w : ℕ) (xs : List A) →
    every k w (map f xs) ≡ map f (every k w xs)
every-map f k w [] = refl
every-map f zero w (x ∷ xs) = ap (λ ys. f x ∷ ys) (every-map f (w - 1) w xs)
every-map f (suc k) w (x ∷ xs) = every-map f k w xs

-- whose turn it is after one more member
pub turn_more : {T : Type 0} (xs : List T) (x : T) (turn next w : ℕ) → turn ≡ length xs % w →
    next ≡ suc turn % w → next ≡ length (xs ++ x ∷ []) % w
turn_more xs x turn next w here is =
    let grown : length (xs ++ x ∷ []) ≡ suc (length xs) =
    omega (arith, length-append xs (x ∷ [])) in
    is ∙ ap (λ n. suc n % w) here ∙ sym (suc-mod (length xs) w) ∙ ap (λ n. n % w) (sym grown)
