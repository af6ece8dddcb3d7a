-- If a thread was refused, nothing was written.
use Rattle.std.proofs.Common.{refl, ap, arith}
use Rattle.fq_run_core.specs.PairsRead.{feed_in}
use Rattle.fq_run.proofs.StartLemmas.{of_one, unread, idle, unstarted, can_deal}
use Rattle.fq_run.proofs.threads.start.Goals as goal

-- the dealer's lanes are new, and nothing was read from its source
pub start_dealer-requires-clause-deals : goal.start_dealer-requires-clause-deals
start_dealer-requires-clause-deals g c κs within =
    can_deal _ _ c.args.settings.now _ _ c.args.lanes c.requires.lanes refl refl
    (omega (arith, c.args.lanes.seats.to.ok.0)) c.requires.fresh c.requires.few

-- if the dealer's thread is refused, the feeds are lost, and nothing is written
pub returns-in-Err : goal.returns-in-Err
returns-in-Err g c =
    rw c.unstarted.ensures (unstarted _ _ _ _ _ _ _ tt tt (λ gone. refl, λ gone. refl) _ _)

-- if a worker is refused, nothing is written, and feeds that are handed back are as they were
pub returns-in-Err-start_workers : goal.returns-in-Err-start_workers
returns-in-Err-start_workers g c =
    let s = g.S.PairReader in
    let left = c.into_unread-source.result in
    let back = unread s.state (s.state c.args.source) left
    (idle s.state _ _ _ _ _ _ _ _ _ c.join_dealer.result.source left
    (ap s.state c.in-Ok.ensures.source) refl c.join_dealer.ensures.dealt
    c.into_unread-source.ensures) in
    rw c.unstarted-in-Err-start_workers.ensures (unstarted _ _ _ _ _ _ _ back.0 back.1
    (of_one (λ x. feed_in (s.state x).forward) (λ x. feed_in (s.state x).reverse) left) _ _)
