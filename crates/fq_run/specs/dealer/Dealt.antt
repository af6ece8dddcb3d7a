-- What a dealer needs, and what it does: it reads pairs, deals out their blocks, and closes its
-- lanes.
use Rattle.std.specs.Prelude.{◌≡◌, ◌≢◌, ◌≤◌, ◌<◌, true, Option, None, Result, IfOk, List, [], length, vec_len, vec_capacity}
use Rattle.std.specs.List.{AllZip}
use Rattle.fq_lane.specs.History.{History, with_mark}
use Rattle.fq_lane.specs.declared.tx.NotEnded.{NotEnded}
use Rattle.fq_block.specs.Blocks.{Numbered}
use Rattle.fq_run_core.specs.Choices.{Choices}
use Rattle.fq_run.specs.dealer.DealingOut.{MayDeal, DealsOut}
use Rattle.fq_run.specs.declared.dealer.Dealer.{Dealer}
use Rattle.fq_pair.specs.Walks.{SourceState}
use Rattle.fq_run_core.specs.declared.reading_end.ReadingEnd.{ReadingEnd}

-- the end of a lane, if it has one, is what its sender sent, with the mark
abbrev pub Closed : {T : Type 0} → History T → Result (History T) NotEnded → Type 0
Closed to closing = IfOk closing (λ e. e ≡ with_mark to)

-- a dealer that may deal, and has room for the ends of its lanes
pub record CanDeal {S : Type 0} (c : Choices) (s : SourceState) (dealer : Dealer S) : Type 0 where
  pub room : (dealer.closings.items ≡ []) × (vec_len dealer.to ≤ vec_capacity dealer.closings)
  pub deals : MayDeal c s (vec_len dealer.to) dealer.to.items

-- the blocks of the pairs that were read were dealt out to lanes, which are closed
pub record Deals (c : Choices) (old new : SourceState) (to : List (History Numbered))
    (closings : List (Result (History Numbered) NotEnded)) (why : Option ReadingEnd) : Type 0 where
  pub sent : List (History Numbered)
  pub out : DealsOut c old new to sent why
  pub ends : AllZip Closed sent closings

-- What a dealer has done when it ends: it took the start lane to its mark. If a start item came, it
-- dealt until reading stopped; if none came, it read and sent nothing.
pub record HasDealt (c : Choices) (old new : SourceState)
    (start start_left : History (Unit {0})) (to : List (History Numbered))
    (closings : List (Result (History Numbered) NotEnded)) (why : Option ReadingEnd) : Type 0 where
  pub name : start_left.name ≡ start.name
  pub closed : start_left.marked ≡ true
  pub started : 0 < length start_left.items → why ≢ None
  pub deals : Deals c old new to closings why
  pub idle : start_left.items ≡ [] → (why ≡ None) × (new ≡ old) × (deals.sent ≡ to)
