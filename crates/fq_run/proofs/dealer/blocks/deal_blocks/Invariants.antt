-- All blocks so far are full and dealt out. Each brings the end nearer, since it takes bytes.
use Rattle.std.proofs.Common.{◌≡◌, ◌-◌, vec_len}
use Rattle.fq_run.specs.Doing.{deals as dealing}
use Rattle.fq_run.proofs.dealer.DealerLemmas.{DealsFull}
use Rattle.fq_run.proofs.dealer.blocks.deal_blocks.Given as goal

-- full blocks were dealt out in turn; `turn` and `number` are those of the next block
abbrev pub invariant-dealing : goal.invariant-dealing
invariant-dealing g l =
    let s = g.S.PairReader in record {
      lanes : l.lanes ≡ vec_len l.fn.to;
      deals : DealsFull l.fn.settings (s.state l.fn.source) l.fn.to.items
          (s.state l.source) l.to.items l.turn l.number;
      next : l.waits ≡ dealing;
    }

-- the bytes that may come, less the records that were given
abbrev pub decreases-dealing : goal.decreases-dealing
decreases-dealing g l = let s = g.S.PairReader in
    (s.state l.fn.source).most_bytes - (s.state l.source).forward.given
