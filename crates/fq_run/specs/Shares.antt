-- How a list is cut into pieces, dealt out to several lists, and gathered from them again.
use Rattle.std.specs.Prelude.{◌≡◌, ℕ, zero, suc, ◌+◌, ◌-◌, ◌≤◌, List, [], ◌∷◌, ◌++◌, length}

-- Cutting.

-- the members of all pieces, one piece after the other
abbrev pub join : {T : Type 0} → List (List T) → List T
join [] = []
join (piece ∷ pieces) = piece ++ join pieces

-- each piece has `most` members, but the last may have fewer, and has at least 1
abbrev pub AreEven : {T : Type 0} → ℕ → List (List T) → Type 0
AreEven most [] = Unit {0}
AreEven most (piece ∷ []) = (1 ≤ length piece) × (length piece ≤ most)
AreEven most (piece ∷ next ∷ pieces) = (length piece ≡ most) × AreEven most (next ∷ pieces)

-- a list is cut into these pieces
pub record IsCut {T : Type 0} (most : ℕ) (xs : List T) (pieces : List (List T)) : Type 0 where
  pub joined : join pieces ≡ xs
  pub even : AreEven most pieces

-- Dealing.

-- the members at the indices skip, skip + w, skip + 2 * w and so on
abbrev pub every : {T : Type 0} → ℕ → ℕ → List T → List T
every skip w [] = []
every zero w (x ∷ xs) = x ∷ every (w - 1) w xs
every (suc k) w (x ∷ xs) = every k w xs

-- the first n of the w lists
abbrev pub dealt_to : {T : Type 0} → ℕ → ℕ → List T → List (List T)
dealt_to zero w xs = []
dealt_to (suc n) w xs = dealt_to n w xs ++ every n w xs ∷ []

-- w lists; list j has the members at the indices j, j + w, j + 2 * w and so on
abbrev pub deal : {T : Type 0} → List T → ℕ → List (List T)
deal xs w = dealt_to w w xs

-- Gathering.

-- this number of turns: take the next member of the first list and move that list to the end of the
-- row, until the first list has no more
abbrev pub gather_turns : {T : Type 0} → ℕ → List (List T) → List T
gather_turns zero ls = []
gather_turns (suc n) [] = []
gather_turns (suc n) ([] ∷ ls) = []
gather_turns (suc n) ((x ∷ xs) ∷ ls) = x ∷ gather_turns n (ls ++ xs ∷ [])

abbrev pub total_length : {T : Type 0} → List (List T) → ℕ
total_length [] = 0
total_length (l ∷ ls) = length l + total_length ls

-- the next member of each list in turn, until the list whose turn it is has no more
abbrev pub gather : {T : Type 0} → List (List T) → List T
gather ls = gather_turns (total_length ls) ls
