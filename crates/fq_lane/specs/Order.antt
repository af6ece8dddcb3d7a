-- A lane as two lists, what was sent and what was got, under every order of events.
use Rattle.std.specs.Prelude.{Bool, true, false, List, [], ◌∷◌, ◌++◌, length, take, drop}
use Rattle.fq_lane.specs.History.{History}
use Rattle.fq_lane.specs.Slots.{slots_of}
use Rattle.fq_lane.specs.declared.slot.Slot.{Slot}
use Rattle.fq_lane.specs.declared.slot.Slot.TheVariants.{Item, Mark}

-- one step of one end: the sender pushes an item or the mark, the receiver pops, or the closed
-- sender gives its end
pub data Event (T : Type 0) : Type 0 where
  push_item : T → Event T
  push_mark : Event T
  pop : Event T
  give_end : Event T

-- what was sent so far and what was got so far, items and marks
pub record Lane (T : Type 0) : Type 0 where
  pub sent : List (Slot T)
  pub got : List (Slot T)

-- whether a mark is among the slots
abbrev pub has_mark : {T : Type 0} → List (Slot T) → Bool
has_mark [] = false
has_mark (Item x ∷ ss) = has_mark ss
has_mark (Mark ∷ ss) = true

-- the slots with one more at the end, or unchanged if the mark was sent already
abbrev pub pushed_unless : {T : Type 0} → Bool → List (Slot T) → Slot T → List (Slot T)
pushed_unless true sent s = sent
pushed_unless false sent s = sent ++ s ∷ []

-- the slot that the receiver gets next: one, or none if all that was sent was got
abbrev pub next_slot : {T : Type 0} → Lane T → List (Slot T)
next_slot l = take 1 (drop (length l.got) l.sent)

-- an event that is not allowed changes nothing, and neither does the giving of the end
abbrev pub after_event : {T : Type 0} → Lane T → Event T → Lane T
after_event l (push_item x) =
    record { sent = pushed_unless (has_mark l.sent) l.sent (Item x); got = l.got }
after_event l push_mark = record { sent = pushed_unless (has_mark l.sent) l.sent Mark; got = l.got }
after_event l pop = record { sent = l.sent; got = l.got ++ next_slot l }
after_event l give_end = l

-- one event after the other
abbrev pub after_events : {T : Type 0} → Lane T → List (Event T) → Lane T
after_events l [] = l
after_events l (e ∷ es) = after_events (after_event l e) es

-- a new lane
abbrev pub new_lane : {T : Type 0} → Lane T
new_lane = record { sent = []; got = [] }

-- the lane whose ends show these histories
abbrev pub lane_of : {T : Type 0} → History T → History T → Lane T
lane_of sent got = record {
  sent = slots_of sent.items sent.marked;
  got = slots_of got.items got.marked;
}
