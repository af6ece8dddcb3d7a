-- What a take returns, and what it does to what was got.
use Rattle.std.specs.Prelude.{◌≡◌, true, false, Option, Some, None}
use Rattle.rtrb.specs.Ring.{received}
use Rattle.rtrb.specs.declared.consumer.Consumer.{Consumer}
use Rattle.fq_lane.specs.History.{History, with_item, with_mark}
use Rattle.fq_lane.specs.Slots.{IsHistory}
use Rattle.fq_lane.specs.Ends.{receiver_history}
use Rattle.fq_lane.specs.declared.slot.Slot.{Slot}
use Rattle.fq_lane.specs.declared.taken.Taken.{Taken}
use Rattle.fq_lane.specs.declared.taken.Taken.TheVariants.{Item, Empty, Closed}
use Rattle.fq_lane.specs.declared.ring.Popped.{Popped}
use Rattle.fq_lane.specs.declared.ring.Popped.TheVariants as popped

-- an item was got, and the mark had not been; nothing was got, and the mark had not been; the mark
-- was got, now or before
abbrev pub Takes : {T : Type 0} → Taken T → History T → History T → Type 0
Takes (Item x) old new = (old.marked ≡ false) × (new ≡ with_item old x)
Takes Empty old new = (old.marked ≡ false) × (new ≡ old)
Takes Closed old new = new ≡ with_mark old

-- what a take that waits returns: it never finds the lane empty
abbrev pub taken_of : {T : Type 0} → Option T → Taken T
taken_of (Some x) = Item x
taken_of None = Closed

-- what a pop of the ring returns before the mark was got: one more item, nothing, or the mark
abbrev pub Pops : {T A P : Type 0} → Popped T → Consumer (Slot T) A P → Consumer (Slot T) A P →
    Type 0
Pops (popped.Item x freed) b c =
    IsHistory (received c) false
    × (receiver_history c false ≡ with_item (receiver_history b false) x)
Pops popped.Nothing b c =
    IsHistory (received c) false × (receiver_history c false ≡ receiver_history b false)
Pops popped.Mark b c = IsHistory (received c) true
    × (receiver_history c true ≡ with_mark (receiver_history b false))
