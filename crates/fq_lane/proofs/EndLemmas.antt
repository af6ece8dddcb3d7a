-- How the histories of the ends change.
use Rattle.std.proofs.Common.{◌≡◌, true, false, [], ◌∷◌, ◌++◌, refl, sym, ◌∙◌}
use Rattle.rtrb.specs.Ring.{sent, received, known_items, all_sent, SameProducer, SameConsumer}
use Rattle.rtrb.specs.declared.producer.Producer.{Producer}
use Rattle.rtrb.specs.declared.finished.Finished.{Finished}
use Rattle.rtrb.specs.declared.consumer.Consumer.{Consumer}
use Rattle.fq_lane.specs.History.{with_item, with_mark}
use Rattle.fq_lane.specs.Slots.{IsHistory}
use Rattle.fq_lane.specs.Ends.{sender_history, receiver_history, end_history, finished_name, consumer_name}
use Rattle.fq_lane.specs.declared.slot.Slot.{Slot}
use Rattle.fq_lane.specs.declared.slot.Slot.TheVariants.{Item, Mark}
use Rattle.fq_lane.proofs.SlotLemmas.{item_items, mark_items, whole_items, history_is, item_history, mark_history, same_name}

module _ {T A P : Type 0} where
  -- an item that is pushed is one more item of what the sender has sent
  pub sender_item : (p q : Producer (Slot T) A P) (x : T) → SameProducer p q →
      IsHistory (sent p) false → sent q ≡ sent p ++ Item x ∷ [] →
      sender_history q false ≡ with_item (sender_history p false) x
  sender_item p q x same history is = history_is _ _ _ _ _ _ (same_name p.end q.end same.0)
      (item_items (sent p) (sent q) x history is) refl

  -- a mark that is pushed is the mark after what the sender has sent
  pub sender_mark : (p q : Producer (Slot T) A P) → SameProducer p q → IsHistory (sent p) false →
      sent q ≡ sent p ++ Mark ∷ [] → sender_history q true ≡ with_mark (sender_history p false)
  sender_mark p q same history is = history_is _ _ _ _ _ _ (same_name p.end q.end same.0)
      (mark_items (sent p) (sent q) history is) refl

  -- an item that is popped is one more item of what the receiver has got
  pub receiver_item : (b c : Consumer (Slot T) A P) (x : T) → SameConsumer b c →
      IsHistory (received b) false → received c ≡ received b ++ Item x ∷ []
      → IsHistory (received c) false × (receiver_history c false ≡ with_item
      (receiver_history b false) x)
  receiver_item b c x same history is = (
    item_history (received b) (received c) x history is,
    history_is _ _ _ _ _ _
        (same_name b.end c.end same.0) (item_items (received b) (received c) x history is) refl,
  )

  -- a mark that is popped is the mark after what the receiver has got
  pub receiver_mark : (b c : Consumer (Slot T) A P) → SameConsumer b c →
      IsHistory (received b) false → received c ≡ received b ++ Mark ∷ []
      → IsHistory (received c) true × (receiver_history c true ≡ with_mark
      (receiver_history b false))
  receiver_mark b c same history is = (
    mark_history (received b) (received c) history is,
    history_is _ _ _ _ _ _
        (same_name b.end c.end same.0) (mark_items (received b) (received c) history is) refl,
  )

  -- at the end of a lane, a receiver that has got the mark has got all that was sent
  pub receiver_whole : (f : Finished (Slot T) A P) (b c : Consumer (Slot T) A P) →
      finished_name f ≡ consumer_name b → SameConsumer b c → IsHistory (received c) true →
      IsHistory (all_sent f) true → received c ++ known_items c ≡ all_sent f
      → receiver_history c true ≡ end_history f
  receiver_whole f b c named same got sent fifo =
      history_is _ _ _ _ _ _ (same_name b.end c.end same.0
      ∙ sym named) (whole_items (received c) (known_items c) (all_sent f) got sent fifo) refl
