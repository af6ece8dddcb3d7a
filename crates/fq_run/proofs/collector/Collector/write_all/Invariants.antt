-- Whatever was taken from the lanes so far is written.
use Rattle.std.proofs.Common.{◌≡◌, is_some, vec_len}
use Rattle.fq_run.specs.collector.Collecting.{Collects}
use Rattle.fq_run_core.specs.Devices.{outlet_states}
use Rattle.fq_run.specs.lanes.Items.{names_of}
use Rattle.fq_run.specs.collector.Stops.{HearsAll}
use Rattle.fq_run.specs.Waiting.{does_in}
use Rattle.fq_run.proofs.collector.Collector.write_all.Given as goal

-- what came in turn is written, the lanes are the same, and the stops that came are noted
abbrev pub invariant-loop : goal.invariant-loop
invariant-loop g l =
    let o = g.O.Outlet in
    record {
      collects : Collects (is_some l.fn.self.total.tally) (vec_len l.fn.self.replies)
          (outlet_states o.state l.fn.outlets) (outlet_states o.state l.outlets) l.self;
      lanes : vec_len l.self.replies ≡ vec_len l.fn.self.replies;
      names : names_of l.self.replies.items ≡ names_of l.fn.self.replies.items;
      hears : HearsAll l.fn.self → HearsAll l.self;
      next : l.waits ≡ does_in l.self.phase;
    }
