-- Facts about members at the same index, and what is known of new lanes.
use Rattle.std.proofs.Common.{◌≡◌, ℕ, ◌+◌, false, List, [], ◌∷◌, ◌++◌, length, length-append, arith}
use Rattle.std.specs.List.{AllZip}
use Rattle.std.proofs.lemmas.Grind.{common_steps}
use Rattle.fq_lane.specs.History.{History, Name}
use Rattle.fq_run.specs.Each.{Each3}
use Rattle.fq_run.specs.lanes.Laying.{fresh}

-- as many members were made as were taken, after one more of each
pub one_counted : {A : Type 0} {new old : ℕ} (taken : List A) (x : A) → new ≡ old + 1 →
    old ≡ length taken → new ≡ length (taken ++ x ∷ [])
one_counted taken x more same = omega (arith, length-append taken (x ∷ []))

module _ {A B : Type 0} (R : A → B → Type 0) where
  -- what holds at each index of two lists still holds after a member is added to each
  pub zip_push : (xs : List A) (ys : List B) (x : A) (y : B) → AllZip R xs ys → R x y →
      AllZip R (xs ++ x ∷ []) (ys ++ y ∷ [])
  zip_push [] [] x y h r = (r, tt)
  zip_push (a ∷ xs) (b ∷ ys) x y h r = (h.0, zip_push xs ys x y h.1 r)
  zip_push _ _ x y h r = absurd h

module _ {A B C : Type 0} (R : A → B → C → Type 0) where
  -- what holds at each index of three lists still holds after a member is added to each
  pub each3_push : (xs : List A) (ys : List B) (zs : List C) (x : A) (y : B) (z : C) →
      Each3 R xs ys zs → R x y z → Each3 R (xs ++ x ∷ []) (ys ++ y ∷ []) (zs ++ z ∷ [])
  each3_push [] [] [] x y z h r = (r, tt)
  each3_push (a ∷ xs) (b ∷ ys) (c ∷ zs) x y z h r = (h.0, each3_push xs ys zs x y z h.1 r)
  each3_push _ _ _ x y z h r = absurd h

module _ {A B C : Type 0} (R Q : A → B → C → Type 0) where
  -- what holds of nothing
  pub nothing_left : (xs : List A) (ys : List B) (zs : List C) → Each3 R xs ys zs → length zs ≡ 0 →
      Each3 Q xs ys zs
  nothing_left [] [] [] h e = tt
  nothing_left (a ∷ xs) (b ∷ ys) (c ∷ zs) h e = cc
  nothing_left _ _ _ h e = absurd h

-- a lane through which nothing has gone
pub fresh_is : {T : Type 0} (l : History T) (n : Name) → l.name ≡ n → l.items ≡ [] →
    l.marked ≡ false → l ≡ fresh n
fresh_is {T = T} l n p q r = grind (arith, common_steps)
