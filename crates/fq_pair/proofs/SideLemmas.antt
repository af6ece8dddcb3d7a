-- One side of a source of pairs, in three states one after the other, and the records of pairs.
use Rattle.std.proofs.Common.{◌≡◌, ℕ, ◌+◌, ◌≤◌, ◌⊎◌, inl, inr, ⊎_elim, true, false, IsTrue, List, [], ◌++◌, length, ap, sym, ◌∙◌, arith, append_assoc}
use Rattle.std.proofs.lemmas.List.{append_cancel_left, append_cancel_right, length-append, length-take-le, nil_from_length}
use Rattle.std.proofs.lemmas.Grind.{common_steps}
use Rattle.fq_text.specs.Devices.{FeedState}
use Rattle.fq_text.specs.Lines.{lines, is_whole, whole_part}
use Rattle.fq_text.proofs.LineLemmas.{lines-append, whole-append}
use Rattle.fq_pair.specs.Mates.{Mates}
use Rattle.fq_text.specs.Sources.{Sourced, rest_in, IsTail, KeepsCount}
use Rattle.fq_pair.specs.Walks.{SideState, side_state, SourceState, rest, fed, came, Draws, Uses, Walks}
use Rattle.fq_pair.proofs.WholeLemmas.{behind_whole, whole_split, is_whole-whole_part, whole_part-whole}

-- One source as a side.
module _ {F : Type 0} (state : F → FeedState) (old new : Sourced F) where
  -- what its feed gave in a call in which it failed this often
  pub drawn : (n : ℕ) → KeepsCount state old new →
      (state new.feed).failures ≡ (state old.feed).failures + n →
      Draws (side_state state old) (side_state state new) n
  drawn n k failed = grind (arith, common_steps)

  -- the bytes that a record was
  abbrev pub used : IsTail (rest_in state old) (rest_in state new) new.ended →
      Uses (side_state state old) (side_state state new)
  used t = record { used = t.before; split = t.split; at_line = t.at_line }

-- what a feed gave in two calls
pub fed_then : (a b c : SideState) (n : ℕ) → Draws a b 0 → Draws b c n → IsTrue a.tells →
    fed a c ≡ fed a b ++ fed b c
fed_then a b c n p q told = grind (arith, common_steps)

-- two moves in a row, of which the first has no failure, are one move
pub draws_then : (a b c : SideState) (n : ℕ) → Draws a b 0 → Draws b c n → Draws a c n
draws_then a b c n p q =
    grind (
      arith,
      common_steps,
      append_assoc (fed a b) (fed b c) c.to_come,
      fed_then,
      length-take-le,
      length-append (fed a b) b.to_come,
    )

-- if nothing is left of a list, nothing is left after a part of it
pub nothing_left : (xs ys zs : List ℕ) → zs ≡ [] → zs ≡ xs ++ ys → ys ≡ []
nothing_left xs ys zs none is = grind (arith, common_steps, nil_from_length ys, length-append xs ys)

-- two moves in a row, of which the second keeps an end that was reported
abbrev pub uses_then : (a b c : SideState) → (b.ended ≡ true → c.ended ≡ true) → Uses a b →
    Uses b c → Uses a c
uses_then a b c stays p q = record {
  used = p.used ++ q.used;
  split = p.split ∙ ap (λ xs. p.used ++ xs) q.split ∙ sym (append_assoc p.used q.used (rest c));
  at_line = ⊎_elim
      (λ (whole : is_whole p.used ≡ true). ⊎_elim
      (λ (then : is_whole q.used ≡ true). inl (whole-append p.used q.used whole then))
      (λ (over : (rest c ≡ []) × (c.ended ≡ true)). inr over) q.at_line)
      (λ (over : (rest b ≡ []) × (b.ended ≡ true)). inr
      (nothing_left q.used (rest c) (rest b) over.0 q.split, stays over.1))
      p.at_line;
}

none_before : (xs ys : List (List ℕ)) → xs ++ ys ≡ [] → xs ≡ []
none_before xs ys is = grind (arith, common_steps, nil_from_length xs, length-append xs ys)

-- A side that was read up to a record, and then further.
module _ (old mid new : SideState) (n : ℕ) (a : Draws old mid 0) (b : Draws mid new n)
    (told : IsTrue old.tells) (u : Uses old mid) where
  rest_is : rest old ≡ came old new ++ new.to_come
  rest_is = let d = draws_then old mid new n a b in ap (λ xs. old.in_hand ++ xs) (d.bytes told)
      ∙ sym (append_assoc old.in_hand (fed old new) new.to_come)

  rest_then : rest mid ≡ came mid new ++ new.to_come
  rest_then = grind (arith, common_steps)

  came_is : came old new ≡ u.used ++ came mid new
  came_is = grind (arith, common_steps, append_cancel_right, rest_is, rest_then, append_assoc)

  -- the lines that did not come whole, and those to come
  abbrev pub more_lines : List (List ℕ)
  more_lines = lines (behind_whole (came old new) ++ new.to_come)

  split_lines : (xs ys zs : List ℕ) → zs ≡ whole_part xs ++ ys →
      lines zs ≡ lines (whole_part xs) ++ lines ys
  split_lines xs ys zs is = ap lines is ∙ lines-append (whole_part xs) ys (is_whole-whole_part xs)

  -- the lines of a side are those that came whole, and more
  pub lines_before : lines (rest old) ≡ lines (whole_part (came old new)) ++ more_lines
  lines_before = split_lines (came old new) (behind_whole (came old new) ++ new.to_come) (rest old)
      (rest_is ∙ ap (λ xs. xs ++ new.to_come) (whole_split (came old new))
      ∙ append_assoc (whole_part (came old new)) (behind_whole (came old new)) new.to_come)

  came_whole : is_whole u.used ≡ true → came mid new ≡ whole_part (came mid new) ++ behind_whole
      (came old new)
  came_whole whole = append_cancel_left u.used (came mid new)
      (whole_part (came mid new) ++ behind_whole (came old new))
      (sym came_is ∙ whole_split (came old new)
      ∙ ap (λ xs. whole_part xs ++ behind_whole (came old new)) came_is
      ∙ ap (λ xs. xs ++ behind_whole (came old new)) (whole_part-whole u.used (came mid new) whole)
      ∙ append_assoc u.used (whole_part (came mid new)) (behind_whole (came old new)))

  behind_used : is_whole u.used ≡ true → lines (rest mid) ≡ lines
      (whole_part (came mid new)) ++ more_lines
  behind_used whole =
      grind (arith, common_steps, split_lines, behind_whole, rest_then, came_whole, append_assoc)

  -- what is left of the lines that came whole, after those that were used
  pub lines_left : (ls : List (List ℕ)) → ls ++ more_lines ≡ lines (rest mid) →
      (ls ≡ lines (whole_part (came mid new))) ⊎ (ls ≡ [])
  lines_left ls is = grind (arith, common_steps, append_cancel_right, behind_used, none_before)

  -- if the end had not been reported, they are the whole lines that came after it
  pub lines_behind : mid.ended ≡ false → lines (rest mid) ≡ lines
      (whole_part (came mid new)) ++ more_lines
  lines_behind going = grind (arith, common_steps, behind_used)

-- at least a forward record was given for each pair
pub walked_records : (old new : SourceState) (ms : List Mates) → Walks old new ms →
    old.forward.given + length ms ≤ new.forward.given
walked_records old new ms w = grind (arith, common_steps)
