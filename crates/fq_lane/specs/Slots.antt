-- What goes through the ring of a lane: items, and after them one mark.
use Rattle.std.specs.Prelude.{◌≡◌, Bool, true, false, List, [], ◌∷◌}
use Rattle.fq_lane.specs.declared.slot.Slot.{Slot}
use Rattle.fq_lane.specs.declared.slot.Slot.TheVariants.{Item, Mark}

-- the items, and then the mark if there is one
abbrev pub slots_of : {T : Type 0} → List T → Bool → List (Slot T)
slots_of [] false = []
slots_of [] true = Mark ∷ []
slots_of (x ∷ xs) b = Item x ∷ slots_of xs b

-- the items among the slots
abbrev pub items_of : {T : Type 0} → List (Slot T) → List T
items_of [] = []
items_of (Item x ∷ ss) = x ∷ items_of ss
items_of (Mark ∷ ss) = items_of ss

-- items alone, and then the mark if b says so
abbrev pub IsHistory : {T : Type 0} → List (Slot T) → Bool → Type 0
IsHistory ss b = ss ≡ slots_of (items_of ss) b
