-- After the joins: when lanes can be confirmed, and what is then known.
use Rattle.std.specs.Prelude.{◌≡◌, true, Result, IfOk, IsOkAnd}
use Rattle.fq_lane.specs.History.{History}
use Rattle.fq_lane.specs.declared.tx.NotEnded.{NotEnded}
use Rattle.fq_block.specs.Blocks.{Numbered}
use Rattle.fq_work.specs.declared.ends.Worked.{Worked}
use Rattle.fq_work.specs.declared.reply.Reply.{Reply}

-- What one worker's two lanes have before they are confirmed: the end of the lane of blocks, what
-- the worker handed back, and the receiver of replies. Both receivers were taken to the mark, and
-- each end has the name of its receiver.
pub record CanConfirm (closing : Result (History Numbered) NotEnded) (worked : Worked)
    (replies : History Reply) : Type 0 where
  pub blocks : IfOk closing (λ e. e.name ≡ worked.rx.name)
  pub came : worked.rx.marked ≡ true
  pub sent : IfOk worked.closing (λ e. e.name ≡ replies.name)
  pub got : replies.marked ≡ true

-- both lanes are confirmed: what one end received is what the other end sent
abbrev pub Confirmed : Result (History Numbered) NotEnded → Worked → History Reply → Type 0
Confirmed closing worked replies =
    IsOkAnd closing (λ e. worked.rx ≡ e) × IsOkAnd worked.closing (λ e. replies ≡ e)
