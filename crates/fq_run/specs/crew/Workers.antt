-- The worker threads, which hold the other ends of the lanes, and what they hand back.
use Rattle.std.specs.Prelude.{◌≡◌, ◌≤◌, Bool, List, Some}
use Rattle.std.specs.declared.thread.PromisedHandle.{PromisedHandle}
use Rattle.fq_trim.specs.declared.step.Step.{Step}
use Rattle.fq_work.specs.Work.{IsWork, MayShut}
use Rattle.fq_work.specs.declared.reply.Cause.TheVariants.{Gate}
use Rattle.fq_work.specs.declared.ends.WorkEnds.{WorkEnds}
use Rattle.fq_work.specs.declared.ends.Worked.{Worked}
use Rattle.fq_run.specs.declared.crew.job.Job.{Job}

-- the worker with these ends and these steps, whose gate may hold back a block or not
pub record Seated (steps : List Step) (holds : Bool) (ends : WorkEnds)
    (h : PromisedHandle Worked Job) : Type 0 where
  pub steps_are : h.promise.steps ≡ steps
  pub rx : h.promise.rx.value ≡ ends.rx
  pub tx : h.promise.tx.value ≡ ends.tx
  pub tally : h.promise.tally.value ≡ ends.tally
  pub holds_is : h.promise.holds ≡ holds
  pub asks : 1 ≤ h.promise.gate_turns

-- what a join returns
abbrev pub Joined : PromisedHandle Worked Job → Worked → Type 0
Joined h worked =
    IsWork h.promise.steps h.promise.tally.value h.promise.rx.value h.promise.tx.value worked
    × (worked.cause ≡ Some Gate → MayShut h.promise.holds h.promise.gate_turns)
