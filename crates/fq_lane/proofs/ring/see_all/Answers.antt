use Rattle.fq_lane.proofs.SlotLemmas.{history_along}
use Rattle.fq_lane.proofs.EndLemmas.{receiver_whole}
use Rattle.fq_lane.proofs.ring.see_all.Goals as goal

-- what was got is all that was sent
pub returns-clause-whole : goal.returns-clause-whole
returns-clause-whole g c =
    let looked = c.slots_after.ensures.looked in
    receiver_whole c.args.finished c.args.consumer.now c.slots_after.new.self c.requires.one_lane
    looked.0 (history_along _ _ _ c.requires.got looked.1) c.requires.sent
    c.slots_after.ensures.fifo
