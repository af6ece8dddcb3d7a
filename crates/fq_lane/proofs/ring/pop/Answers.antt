use Rattle.std.proofs.Common.{[], ◌∷◌, ◌++◌, ap, ◌∙◌}
use Rattle.rtrb.specs.Ring.{received}
use Rattle.fq_lane.proofs.EndLemmas.{receiver_item, receiver_mark}
use Rattle.fq_lane.proofs.ring.pop.Goals as goal

-- the item that was popped is one more that was got
pub returns-in-Ok-Item : goal.returns-in-Ok-Item
returns-in-Ok-Item g c =
    let got = received c.args.consumer.now in
    receiver_item c.args.consumer.now c.pop.new.self c.in-Ok-Item.item c.pop.ensures.ring c.requires
    (c.in-Ok-Item.ensures.ok.0 ∙ ap (λ s. got ++ s ∷ []) c.in-Ok-Item.field-0-is)

-- the mark that was popped comes after all items that were got
pub returns-in-Ok-Mark : goal.returns-in-Ok-Mark
returns-in-Ok-Mark g c =
    let got = received c.args.consumer.now in
    receiver_mark c.args.consumer.now c.pop.new.self c.pop.ensures.ring c.requires
    (c.in-Ok-Mark.ensures.ok.0 ∙ ap (λ s. got ++ s ∷ []) c.in-Ok-Mark.field-0-is)
