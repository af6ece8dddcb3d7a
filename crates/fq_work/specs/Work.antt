-- What a worker has done with its lanes.
use Rattle.std.specs.Prelude.{◌≡◌, ◌⊎◌, ℕ, Bool, true, IsTrue, List, [], ◌∷◌, ◌++◌, Option, None, IfOk}
use Rattle.fq_trim.specs.declared.step.Step.{Step}
use Rattle.fq_pair.specs.Mates.{Mates}
use Rattle.fq_report_pairs.specs.declared.tally.Tally.{Tally}
use Rattle.fq_report_pairs.specs.Results.{tally_with}
use Rattle.fq_lane.specs.History.{History}
use Rattle.fq_block.specs.Blocks.{Numbered}
use Rattle.fq_work.specs.declared.ends.Worked.{Worked}
use Rattle.fq_work.specs.declared.reply.Cause.{Cause}
use Rattle.fq_work.specs.declared.reply.Reply.{Reply}
use Rattle.fq_work.specs.Replies.{Answers}

-- some more items, and the mark or not
abbrev pub with_items : {T : Type 0} → History T → List T → Bool → History T
with_items history items marked =
    record { name = history.name; items = history.items ++ items; marked = marked }

-- the pairs of some blocks, one block after the other
abbrev pub pairs_of : List Numbered → List Mates
pairs_of [] = []
pairs_of (block ∷ blocks) = block.pairs ++ pairs_of blocks

-- The worker took some blocks, up to the mark, and what it sent answers them. If it answered all of
-- them, it counted their pairs, if there is a tally.
pub record IsWork (steps : List Step) (tally : Option Tally) (rx : History Numbered)
    (tx : History Reply) (worked : Worked) : Type 0 where
  pub took : List Numbered
  pub replies : List Reply
  pub received : worked.rx ≡ with_items rx took true
  pub sent : IfOk worked.closing (λ end. end ≡ with_items tx replies true)
  pub answers : Answers steps took replies worked.cause
  pub counted : worked.cause ≡ None → worked.tally ≡ tally_with steps tally (pairs_of took)

-- the gate may hold back a block, or is never asked
abbrev pub MayShut : Bool → ℕ → Type 0
MayShut holds turns = (turns ≡ 0) ⊎ IsTrue holds

-- An intermediate state.

-- so far the worker took some blocks, what it sent answers them, and it counted their pairs if
-- there is no cause
pub record HasAnswered (steps : List Step) (cause : Option Cause) (tally tally_new : Option Tally)
    (rx rx_new : History Numbered) (tx tx_new : History Reply) : Type 0 where
  pub took : List Numbered
  pub replies : List Reply
  pub received : rx_new ≡ with_items rx took rx.marked
  pub sent : tx_new ≡ with_items tx replies tx.marked
  pub answers : Answers steps took replies cause
  pub counted : cause ≡ None → tally_new ≡ tally_with steps tally (pairs_of took)
