use Rattle.std.proofs.Common.{◌≡◌, ◌≤◌, length}
use Rattle.fq_run.proofs.dealer.waiting.DealerWaits.pass_start.Given as goal

-- the start lane has the same name, and no fewer items came through it than before
abbrev pub invariant-loop : goal.invariant-loop
invariant-loop g l =
    record {
      name : l.start.name ≡ l.initial.start.name;
      items : length l.initial.start.items ≤ length l.start.items;
    }
