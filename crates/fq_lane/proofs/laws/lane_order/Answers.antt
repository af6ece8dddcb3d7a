use Rattle.std.proofs.Common.{◌≡◌, List, [], ◌∷◌, false, ◌++◌, refl, Bool, true, sym, ap, ◌∙◌, append_assoc, length, drop, take, subst}
use mathlib.Core.List.{IsPrefix}
use Rattle.std.proofs.lemmas.List.{append-nil}
use Rattle.fq_lane.specs.declared.slot.Slot.{Slot}
use Rattle.fq_lane.specs.declared.slot.Slot.TheVariants.{Item, Mark}
use Rattle.fq_lane.specs.Order.{Lane, has_mark, pushed_unless, Event, push_item, push_mark, pop, give_end, after_event, after_events, new_lane, lane_of, next_slot}
use Rattle.fq_lane.specs.Slots.{slots_of}
use Rattle.fq_lane.specs.History.{History, with_item, with_mark}
use Rattle.fq_lane.proofs.SlotLemmas.{slots-item, slots-mark}
use Rattle.fq_lane.proofs.laws.lane_order.Goals as goal

module _ {T : Type 0} where
  -- nothing comes after a mark
  abbrev EndsAtMark : List (Slot T) → Type 0
  EndsAtMark [] = Unit {0}
  EndsAtMark (Item x ∷ ss) = EndsAtMark ss
  EndsAtMark (Mark ∷ ss) = ss ≡ []

  record Kept (l : Lane T) : Type 0 where
    pub prefix : IsPrefix l.got l.sent
    pub ends : EndsAtMark l.sent

  ends_more : (ss : List (Slot T)) (s : Slot T) → EndsAtMark ss → has_mark ss ≡ false →
      EndsAtMark (ss ++ s ∷ [])
  ends_more [] (Item x) h n = tt
  ends_more [] Mark h n = refl
  ends_more (Item x ∷ ss) s h n = ends_more ss s h n
  ends_more (Mark ∷ ss) s h n = cc

  ends_pushed : (b : Bool) (ss : List (Slot T)) (s : Slot T) → has_mark ss ≡ b → EndsAtMark ss →
      EndsAtMark (pushed_unless b ss s)
  ends_pushed true ss s is h = h
  ends_pushed false ss s is h = ends_more ss s h is

  prefix_pushed : (b : Bool) (got sent : List (Slot T)) (s : Slot T) → IsPrefix got sent →
      IsPrefix got (pushed_unless b sent s)
  prefix_pushed true got sent s p = p
  prefix_pushed false got sent s p = (
    p.0 ++ s ∷ [],
    sym (append_assoc got p.0 (s ∷ []))
        ∙ ap (λ us. us ++ s ∷ []) p.1,
  )

  drop_prefix : (got rest : List (Slot T)) → drop (length got) (got ++ rest) ≡ rest
  drop_prefix [] rest = refl
  drop_prefix (g ∷ got) rest = drop_prefix got rest

  first_and_rest : (rest : List (Slot T)) → take 1 rest ++ drop 1 rest ≡ rest
  first_and_rest [] = refl
  first_and_rest (s ∷ rest) = refl

  prefix_popped : (got sent : List (Slot T)) → IsPrefix got sent →
      IsPrefix (got ++ take 1 (drop (length got) sent)) sent
  prefix_popped got sent p =
      let here : drop (length got) sent ≡ p.0 = ap (drop (length got)) (sym p.1)
      ∙ drop_prefix got p.0 in (
        drop 1 p.0,
        ap (λ us. (got ++ take 1 us) ++ drop 1 p.0) here
            ∙ append_assoc got (take 1 p.0) (drop 1 p.0) ∙ ap (λ us. got ++ us) (first_and_rest p.0)
            ∙ p.1,
      )

  kept_event : (l : Lane T) (e : Event T) → Kept l → Kept (after_event l e)
  kept_event l (push_item x) k =
      record {
        prefix = prefix_pushed (has_mark l.sent) l.got l.sent (Item x) k.prefix;
        ends =
            ends_pushed (has_mark l.sent) l.sent (Item x) refl k.ends;
      }
  kept_event l push_mark k =
      record {
        prefix = prefix_pushed (has_mark l.sent) l.got l.sent Mark k.prefix;
        ends =
            ends_pushed (has_mark l.sent) l.sent Mark refl k.ends;
      }
  kept_event l pop k = record { prefix = prefix_popped l.got l.sent k.prefix; ends = k.ends }
  kept_event l give_end k = k

  kept_events : (l : Lane T) (es : List (Event T)) → Kept l → Kept (after_events l es)
  kept_events l [] k = k
  kept_events l (e ∷ es) k = kept_events (after_event l e) es (kept_event l e k)

  whole : (got rest : List (Slot T)) → EndsAtMark (got ++ rest) → has_mark got ≡ true → rest ≡ []
  whole [] rest h m = cc
  whole (Item x ∷ got) rest h m = whole got rest h m
  whole (Mark ∷ []) rest h m = h
  whole (Mark ∷ (s ∷ got)) rest h m = cc

  kept_new : Kept new_lane
  kept_new = record { prefix = ([], refl); ends = tt }

  -- after any events, what was got is a prefix of what was sent
  always_prefix : (es : List (Event T)) →
      IsPrefix (after_events new_lane es).got (after_events new_lane es).sent
  always_prefix es = (kept_events new_lane es kept_new).prefix

  -- once the mark was got, what was got is all that was sent
  whole_once_marked : (es : List (Event T)) → has_mark (after_events new_lane es).got ≡ true →
      (after_events new_lane es).got ≡ (after_events new_lane es).sent
  whole_once_marked es m =
      let l : Lane T = after_events new_lane es in
      let k : Kept l = kept_events new_lane es kept_new in
      let p = k.prefix in
      let none : p.0 ≡ [] = whole l.got p.0 (let P : List (Slot T) → Type 0 = EndsAtMark in
      subst P (sym p.1) k.ends) m in
      sym (append-nil l.got) ∙ ap (λ us. l.got ++ us) (sym none) ∙ p.1

  -- items alone have no mark
  no_mark : (xs : List T) → has_mark (slots_of xs false) ≡ false
  no_mark [] = refl
  no_mark (x ∷ xs) = no_mark xs

  pushed_open : (b : Bool) (ss : List (Slot T)) (s : Slot T) → b ≡ false →
      pushed_unless b ss s ≡ ss ++ s ∷ []
  pushed_open false ss s e = refl
  pushed_open true ss s e = cc

  lane_is : (a b c d : List (Slot T)) → a ≡ b → c ≡ d →
      (let l : Lane T = record { sent = a; got = c } in l) ≡ (let l : Lane T =
      record { sent = b; got = d } in l)
  lane_is a b c d p q = cc

  -- the slots of an open history, and one more after them
  open_item : (l : History T) (x : T) → l.marked ≡ false →
      slots_of l.items l.marked ++ Item x ∷ []
      ≡ slots_of (with_item l x).items (with_item l x).marked
  open_item l x unmarked =
      ap (λ b. slots_of l.items b ++ Item x ∷ []) unmarked ∙ slots-item l.items x
      ∙ ap (slots_of (l.items ++ x ∷ [])) (sym unmarked)

  open_mark : (l : History T) → l.marked ≡ false →
      slots_of l.items l.marked ++ Mark ∷ [] ≡ slots_of (with_mark l).items (with_mark l).marked
  open_mark l unmarked = ap (λ b. slots_of l.items b ++ Mark ∷ []) unmarked ∙ slots-mark l.items

  open_has_none : (l : History T) → l.marked ≡ false → has_mark (slots_of l.items l.marked) ≡ false
  open_has_none l unmarked = ap (λ b. has_mark (slots_of l.items b)) unmarked ∙ no_mark l.items

  -- to send an item before the mark is one push of an item
  item_sent : (sent got : History T) (x : T) → sent.marked ≡ false →
      after_event (lane_of sent got) (push_item x) ≡ lane_of (with_item sent x) got
  item_sent sent got x unmarked =
      lane_is _ _ _ _ (pushed_open _ (slots_of sent.items sent.marked) (Item x) (open_has_none sent
      unmarked) ∙ open_item sent x unmarked) refl

  -- to send the mark, if it was not sent yet, is one push of the mark
  mark_sent : (sent got : History T) → sent.marked ≡ false →
      after_event (lane_of sent got) push_mark ≡ lane_of (with_mark sent) got
  mark_sent sent got unmarked =
      lane_is _ _ _ _ (pushed_open _ (slots_of sent.items sent.marked) Mark (open_has_none sent
      unmarked) ∙ open_mark sent unmarked) refl

  -- to get the item that is next is one pop
  item_got : (sent got : History T) (x : T) → got.marked ≡ false →
      next_slot (lane_of sent got) ≡ Item x ∷ [] →
      after_event (lane_of sent got) pop ≡ lane_of sent (with_item got x)
  item_got sent got x unmarked next =
      lane_is _ _ _ _ refl (ap (λ ss. slots_of got.items got.marked ++ ss) next
      ∙ open_item got x unmarked)

  -- to get the mark, if it is next, is one pop
  mark_got : (sent got : History T) → got.marked ≡ false →
      next_slot (lane_of sent got) ≡ Mark ∷ [] →
      after_event (lane_of sent got) pop ≡ lane_of sent (with_mark got)
  mark_got sent got unmarked next =
      lane_is _ _ _ _ refl (ap (λ ss. slots_of got.items got.marked ++ ss) next
      ∙ open_mark got unmarked)

-- what was got is a prefix of what was sent
pub returns-clause-prefix : goal.returns-clause-prefix
returns-clause-prefix g c = always_prefix

-- once the mark was got, all that was sent was got
pub returns-clause-whole : goal.returns-clause-whole
returns-clause-whole g c = whole_once_marked

-- to send an item is one event
pub returns-clause-sends_item : goal.returns-clause-sends_item
returns-clause-sends_item g c = item_sent

-- to send the mark is one event
pub returns-clause-sends_mark : goal.returns-clause-sends_mark
returns-clause-sends_mark g c = mark_sent

-- to get an item is one event
pub returns-clause-gets_item : goal.returns-clause-gets_item
returns-clause-gets_item g c = item_got

-- to get the mark is one event
pub returns-clause-gets_mark : goal.returns-clause-gets_mark
returns-clause-gets_mark g c = mark_got
