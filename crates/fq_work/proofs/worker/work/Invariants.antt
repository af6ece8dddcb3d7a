use Rattle.std.proofs.Common.{◌≡◌, Some}
use Rattle.std.specs.Arc.{arc_value}
use Rattle.fq_work.specs.declared.reply.Cause.TheVariants.{Gate}
use Rattle.fq_work.specs.Waiting.{cause_in, then_sent}
use Rattle.fq_work.specs.Work.{HasAnswered, MayShut}
use Rattle.fq_work.proofs.worker.work.Given as goal

-- once what comes next is done, what was taken is answered and counted
abbrev pub invariant-loop : goal.invariant-loop
invariant-loop g l =
    HasAnswered l.making.steps (cause_in l.action) l.fn.ends.tally l.tally l.fn.ends.rx l.rx
    l.fn.ends.tx (then_sent l.action l.tx)
    × (cause_in l.action ≡ Some Gate → MayShut (g.G.Gate.holds (arc_value l.gate)) l.fn.gate_turns)
