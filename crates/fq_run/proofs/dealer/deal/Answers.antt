-- What was dealt out is what was sent before the lanes were closed.
use Rattle.std.proofs.Common.{ap}
use Rattle.fq_run.proofs.dealer.deal.Goals as goal

-- the blocks of what was read were dealt out; without a start item nothing was read
pub returns : goal.returns
returns g c =
    let s = g.S.PairReader in
    record {
      name = c.deal_from-why.ensures.name;
      closed = c.deal_from-why.ensures.closed;
      started = c.deal_from-why.ensures.started;
      deals = record {
        sent = c.deal_from-why.new.to.items;
        out = c.deal_from-why.ensures.deals;
        ends = c.close_all.ensures.closed;
      };
      idle = λ none. let idle = c.deal_from-why.ensures.idle none in
          (idle.0, ap s.state idle.1, ap (λ (v : _). v.items) idle.2);
    }
