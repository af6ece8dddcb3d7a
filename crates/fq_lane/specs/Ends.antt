-- What each end of the ring shows of its lane.
use Rattle.std.specs.Prelude.{Bool, true, false, ◌<◌}
use Rattle.fq_lane.specs.History.{History, Name}
use Rattle.fq_lane.specs.Slots.{items_of, IsHistory}
use Rattle.fq_lane.specs.declared.slot.Slot.{Slot}
use Rattle.rtrb.specs.Ring.{sent, received, all_sent, known_free}
use Rattle.rtrb.specs.declared.producer.Producer.{Producer}
use Rattle.rtrb.specs.declared.finished.Finished.{Finished}
use Rattle.rtrb.specs.declared.consumer.Consumer.{Consumer}

-- a lane's name is its ring
module _ {T A P : Type 0} where
  abbrev pub producer_name : Producer T A P → Name
  producer_name p = (p.end.words, (p.end.slots, p.end.names))

  abbrev pub consumer_name : Consumer T A P → Name
  consumer_name c = (c.end.words, (c.end.slots, c.end.names))

  abbrev pub finished_name : Finished T A P → Name
  finished_name f = (f.end.words, (f.end.slots, f.end.names))

module _ {T A P : Type 0} where
  -- the items that were sent, and whether the mark was
  abbrev pub sender_history : Producer (Slot T) A P → Bool → History T
  sender_history p marked =
      record { name = producer_name p; items = items_of (sent p); marked = marked }

  -- the items that were got, and whether the mark was
  abbrev pub receiver_history : Consumer (Slot T) A P → Bool → History T
  receiver_history c marked =
      record { name = consumer_name c; items = items_of (received c); marked = marked }

  -- the items that were ever sent, and the mark
  abbrev pub end_history : Finished (Slot T) A P → History T
  end_history f = record { name = finished_name f; items = items_of (all_sent f); marked = true }

  -- only items were sent, and a slot is kept for the mark
  abbrev pub IsOpen : Producer (Slot T) A P → Type 0
  IsOpen p = (0 < known_free p) × IsHistory (sent p) false
