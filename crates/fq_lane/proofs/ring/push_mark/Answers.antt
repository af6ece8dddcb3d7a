use Rattle.fq_lane.proofs.SlotLemmas.{mark_history}
use Rattle.fq_lane.proofs.EndLemmas.{sender_mark}
use Rattle.fq_lane.proofs.ring.push_mark.Goals as goal

-- items were sent, and then the mark
pub returns-clause-marked : goal.returns-clause-marked
returns-clause-marked g c = mark_history _ _ c.requires.1 c.push_reserved.ensures.sent.0

-- the mark comes after all items that were sent
pub returns-clause-sent : goal.returns-clause-sent
returns-clause-sent g c =
    sender_mark c.args.producer.now c.push_reserved.new.self c.push_reserved.ensures.ring
    c.requires.1 c.push_reserved.ensures.sent.0
