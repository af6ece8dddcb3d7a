-- All blocks so far are written completely, and the total is that of their pairs. Each full block
-- brings the end nearer, since it takes bytes.
use Rattle.std.proofs.Common.{◌-◌}
use Rattle.fq_run_core.specs.Devices.{outlet_states}
use Rattle.fq_run_core.proofs.PassLemmas.{Wrote}
use Rattle.fq_run_core.proofs.writing.write_each.Given as goal

-- all blocks so far are read and written
abbrev pub invariant-writing : goal.invariant-writing
invariant-writing g l =
    let s = g.S.PairReader in let o = g.O.Outlet in
    Wrote l.fn.settings (s.state l.fn.source) (outlet_states o.state l.fn.outlets)
    (s.state l.source) (outlet_states o.state l.outlets) l.total

-- the bytes that may come, less the records that were given
abbrev pub decreases-writing : goal.decreases-writing
decreases-writing g l = let s = g.S.PairReader in
    (s.state l.fn.source).most_bytes - (s.state l.source).forward.given
