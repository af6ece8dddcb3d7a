use Rattle.std.proofs.Common.{arith}
use Rattle.fq_lane.proofs.SlotLemmas.{item_history}
use Rattle.fq_lane.proofs.EndLemmas.{sender_item}
use Rattle.fq_lane.proofs.ring.push_item.Goals as goal

-- after the push of an item a slot is still kept for the mark
pub returns-clause-open : goal.returns-clause-open
returns-clause-open g c = (
  omega (arith, c.requires.room, c.push_reserved.ensures.sent.1),
  item_history _ _ c.args.item
      c.requires.open.1 c.push_reserved.ensures.sent.0,
)

-- the item that was pushed is one more that was sent
pub returns-clause-sent : goal.returns-clause-sent
returns-clause-sent g c =
    sender_item c.args.producer.now c.push_reserved.new.self c.args.item
    c.push_reserved.ensures.ring c.requires.open.1 c.push_reserved.ensures.sent.0
