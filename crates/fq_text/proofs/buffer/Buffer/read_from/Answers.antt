use Rattle.std.proofs.Common.{ap, ◌∙◌}
use Rattle.std.proofs.lemmas.Result.{err_from_is_err_and}
use Rattle.fq_text.specs.Reading.{Buffered}
use Rattle.fq_text.proofs.ReadLemmas.{hand_moved, hand_stays}
use Rattle.fq_text.proofs.buffer.Buffer.read_from.Goals as goal

-- if no bytes were read, the bytes in hand stay the same
pub returns-in_err-n-clause-moved : goal.returns-in_err-n-clause-moved
returns-in_err-n-clause-moved g c =
    let p = err_from_is_err_and c.from_residual.result c.from_residual.ensures.1 in
    rw (p.1, p.2) (hand_stays g.F.Feed.state c.args.feed.now c.read_more.new.feed
    c.self.inside.bytes.items c.read_more.new.bytes.items c.args.self.now.in_hand
    c.self.inside.start c.self.inside.filled _ c.self.invariant.2
    (ap (λ (b : Buffered). b.in_hand) (c.self.view_is ∙ c.make_room.ensures))
    c.in_err-n.ensures.moved)

-- the bytes that the feed gave come after those in hand
pub returns-clause-moved : goal.returns-clause-moved
returns-clause-moved g c = hand_moved g.F.Feed.state c.args.feed.now c.read_more.new.feed
    c.self.inside.bytes.items c.read_more.new.bytes.items c.args.self.now.in_hand
    c.self.inside.start c.self.inside.filled c.args.chunk c.in_ok-n.n c.self.invariant.2
    c.self.invariant.3 (ap (λ (b : Buffered). b.in_hand) (c.self.view_is ∙ c.make_room.ensures))
    c.in_ok-n.ensures.moved
