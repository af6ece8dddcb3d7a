-- Which replies answer which blocks.
use Rattle.std.specs.Prelude.{◌≡◌, List, [], ◌∷◌, Option, Some, None}
use Rattle.fq_trim.specs.declared.step.Step.{Step}
use Rattle.fq_report_pairs.specs.declared.done.Done.{Done}
use Rattle.fq_report_pairs.specs.Results.{made_of}
use Rattle.fq_block.specs.Blocks.{Numbered}
use Rattle.fq_work.specs.declared.reply.Cause.{Cause}
use Rattle.fq_work.specs.declared.reply.Reply.{Reply}
use Rattle.fq_work.specs.declared.reply.Reply.TheVariants.{Done as done, Stop}

-- what is made of a block
abbrev pub done_of : List Step → Numbered → Done
done_of steps block = made_of steps block.number block.pairs

-- the one reply to a block: a Stop if there is a cause, else a Done
abbrev pub reply_to : List Step → Numbered → Option Cause → Reply
reply_to steps block None = done (done_of steps block)
reply_to steps block (Some cause) = Stop cause

-- a Done for each block in order, or for the first of them and then exactly one Stop of this cause
abbrev pub Answers : List Step → List Numbered → List Reply → Option Cause → Type 0
Answers steps [] [] None = Unit {0}
Answers steps [] [] (Some cause) = ⊥
Answers steps [] (reply ∷ replies) cause = ⊥
Answers steps (block ∷ blocks) [] cause = ⊥
Answers steps (block ∷ blocks) (done answer ∷ replies) cause =
    (answer ≡ done_of steps block) × Answers steps blocks replies cause
Answers steps (block ∷ blocks) (Stop why ∷ replies) cause =
    (replies ≡ []) × (cause ≡ Some why)
