-- What each wait of a worker does, to its lanes and in the words of the model.
use Rattle.std.specs.Prelude.{◌≡◌, List, Option, Some, None, Result, Ok, Err}
use Rattle.fq_trim.specs.declared.step.Step.{Step}
use Rattle.fq_report_pairs.specs.declared.tally.Tally.{Tally}
use Rattle.fq_report_pairs.specs.Results.{tally_with}
use Rattle.fq_lane.specs.History.{History, with_item, with_mark}
use Rattle.fq_block.specs.Blocks.{Numbered}
use Rattle.fq_work.specs.declared.reply.Cause.{Cause}
use Rattle.fq_work.specs.declared.reply.Reply.{Reply}
use Rattle.fq_work.specs.declared.reply.Reply.TheVariants.{Done as done, Stop}
use Rattle.fq_work.specs.declared.waiting.Action.{Action}
use Rattle.fq_work.specs.declared.waiting.Action.TheVariants.{Take, Put}
use Rattle.fq_work.specs.declared.waiting.Event.{Event}
use Rattle.fq_work.specs.declared.waiting.Event.TheVariants.{Got, Sent}
use Rattle.fq_work.specs.Replies.{reply_to}
use Rattle.fq_work.specs.Doing.{Reply as Word, texts, stop, Doing, takes, answers, empties, WorkMove, took, put, emptied, leaves}

abbrev pub cause_of : Reply → Option Cause
cause_of (done d) = None
cause_of (Stop cause) = Some cause

-- why the worker has stopped, if it has once this is done
abbrev pub cause_in : Action → Option Cause
cause_in (Take cause) = cause
cause_in (Put reply) = cause_of reply

-- the same, once a wait has ended so
abbrev pub cause_after : Result Event (Option Cause) → Option Cause
cause_after (Ok (Got block cause)) = cause
cause_after (Ok (Sent cause)) = cause
cause_after (Err cause) = cause

-- what was sent, once this is done
abbrev pub then_sent : Action → History Reply → History Reply
then_sent (Take cause) tx = tx
then_sent (Put reply) tx = with_item tx reply

-- what was got, once a wait has ended so
abbrev pub then_got : Result Event (Option Cause) → History Numbered → History Numbered
then_got (Ok (Got block cause)) rx = with_item rx block
then_got (Ok (Sent cause)) rx = rx
then_got (Err cause) rx = with_mark rx

-- what a worker does after an event, and the tally: it replies to a block if it has not stopped
abbrev pub Follows : List Step → Event → Option Tally → Option Tally → Action → Type 0
Follows steps (Got block None) tally tally_new action =
    (action ≡ Put (reply_to steps block (cause_in action)))
    × (cause_in action ≡ None → tally_new ≡ tally_with steps tally block.pairs)
Follows steps (Got block (Some cause)) tally tally_new action =
    (action ≡ Take (Some cause)) × (tally_new ≡ tally)
Follows steps (Sent cause) tally tally_new action = (action ≡ Take cause) × (tally_new ≡ tally)

-- In the words of the model.

abbrev pub word_of : Reply → Word
word_of (done d) = texts
word_of (Stop cause) = stop

abbrev pub doing_of : Action → Doing
doing_of (Take None) = takes
doing_of (Take (Some cause)) = empties
doing_of (Put reply) = answers (word_of reply)

-- the move that a wait was, if this will be the reply to a block
abbrev pub move_of : Result Event (Option Cause) → Word → WorkMove
move_of (Ok (Got block None)) reply = took reply
move_of (Ok (Got block (Some cause))) reply = emptied
move_of (Ok (Sent None)) reply = put texts
move_of (Ok (Sent (Some cause))) reply = put stop
move_of (Err cause) reply = leaves
