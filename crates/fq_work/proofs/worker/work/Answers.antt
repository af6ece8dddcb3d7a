use Rattle.std.proofs.Common.{◌≡◌, List, [], ◌∷◌, ◌++◌, Option, Some, None, Ok, refl, sym, arith}
use Rattle.std.proofs.lemmas.Grind.{common_steps}
use Rattle.fq_trim.specs.declared.step.Step.{Step}
use Rattle.fq_lane.specs.History.{History, with_item}
use Rattle.fq_block.specs.Blocks.{Numbered}
use Rattle.fq_report_pairs.specs.declared.tally.Tally.{Tally}
use Rattle.fq_report_pairs.proofs.ResultLemmas.{with_nothing}
use Rattle.fq_work.specs.declared.reply.Reply.{Reply}
use Rattle.fq_work.specs.declared.reply.Reply.TheVariants.{Done as done, Stop}
use Rattle.fq_work.specs.declared.waiting.Action.{Action}
use Rattle.fq_work.specs.declared.waiting.Action.TheVariants.{Take, Put}
use Rattle.fq_work.specs.declared.waiting.Event.{Event}
use Rattle.fq_work.specs.declared.waiting.Event.TheVariants.{Got, Sent}
use Rattle.fq_work.specs.Waiting.{cause_in, cause_after, then_sent, then_got, Follows}
use Rattle.fq_work.specs.Work.{HasAnswered}
use Rattle.fq_work.proofs.WorkLemmas.{with_none, with_more, answers_done, answers_stop, answers_more, tally_more}
use Rattle.fq_work.proofs.worker.work.Goals as goal

-- after a wait and what follows it, what was taken is still answered and counted, once what comes
-- next is done
module _ (steps : List Step) (t0 t t1 : Option Tally) (rx0 rx rx1 : History Numbered)
    (tx0 tx : History Reply) where
  goes_on : (event : Event) (action : Action) → rx1 ≡ then_got (Ok event) rx →
      HasAnswered steps (cause_after (Ok event)) t0 t rx0 rx tx0 tx →
      Follows steps event t t1 action →
      HasAnswered steps (cause_in action) t0 t1 rx0 rx1 tx0 (then_sent action tx)
  goes_on (Got b None) (Take c) is h f = absurd (let no = f.0 in cc)
  goes_on (Got b None) (Put (done d)) is h f = record {
    took = h.took ++ b ∷ [];
    replies = h.replies ++ done d ∷ [];
    received = with_more rx0 rx rx1 h.took b rx0.marked h.received is;
    sent = with_more tx0 tx (with_item tx (done d)) h.replies (done d) tx0.marked h.sent refl;
    answers =
        answers_done steps h.took h.replies b d (grind (arith, common_steps, f.0)) h.answers;
    counted = λ none. tally_more steps t0 t t1 h.took b (h.counted refl) (f.1 refl);
  }
  goes_on (Got b None) (Put (Stop c)) is h f = record {
    took = h.took ++ b ∷ [];
    replies = h.replies ++ Stop c ∷ [];
    received = with_more rx0 rx rx1 h.took b rx0.marked h.received is;
    sent = with_more tx0 tx (with_item tx (Stop c)) h.replies (Stop c) tx0.marked h.sent refl;
    answers = answers_stop steps h.took h.replies b c h.answers;
    counted = λ none. absurd (let no = none in cc);
  }
  goes_on (Got b (Some c)) (Take (Some k)) is h f = record {
    took = h.took ++ b ∷ [];
    replies = h.replies;
    received = with_more rx0 rx rx1 h.took b rx0.marked h.received is;
    sent = h.sent;
    answers = grind (arith, common_steps, answers_more, h.answers, f.0);
    counted = λ none. absurd (let no = none in cc);
  }
  goes_on (Got b (Some c)) (Take None) is h f = absurd (let no = f.0 in cc)
  goes_on (Got b (Some c)) (Put reply) is h f = absurd (let no = f.0 in cc)
  goes_on (Sent c) (Take k) is h f = grind (arith, common_steps)
  goes_on (Sent c) (Put reply) is h f = absurd (let no = f.0 in cc)

-- at the start no block was taken, and no reply sent
pub loop-init : goal.loop-init
loop-init g c = (
  record {
    took = [];
    replies = [];
    received = with_none c.args.ends.rx;
    sent = with_none c.args.ends.tx;
    answers = tt;
    counted = λ none. sym (with_nothing c.args.steps c.args.ends.tally);
  },
  λ e. absurd cc,
)

-- what comes next after a wait goes on from what was done before it
pub loop-preserved : goal.loop-preserved
loop-preserved g c =
    let e = c.in-Ok.ensures in (
      goes_on c.args.steps c.args.ends.tally c.loop.tally c.after-action.new.tally c.args.ends.rx
          c.loop.rx c.perform.new.rx c.args.ends.tx c.perform.new.tx c.in-Ok.event
          c.after-action.result e.got (rw (e.cause, e.sent) c.loop.invariant.0)
          c.after-action.ensures.follows,
      grind (
        arith,
        common_steps,
        c.loop.invariant.1,
        e.cause,
        c.after-action.ensures.gate,
        c.deref.ensures,
      ),
    )
