use Rattle.std.proofs.Common.{Bool, true, false, ◌≡◌, ℕ, ◌≤◌, ◌⊎◌, ◌<◌, refl, arith, List, [], ◌∷◌, ◌++◌}
use Rattle.fq_work.specs.Doing.{texts, stop, Doing, takes, answers, empties, left, Reply}
use Rattle.fq_run.specs.Doing.{Dealer, awaits_start, deals, passes_start, closes, Caller, begins, closes_start, writes, drains, awaits_dealer, awaits_workers}
use Rattle.fq_law_progress.specs.Model.{Seat, Run, State, changed, IsRun}
use Rattle.fq_law_progress.specs.Moves.{with_reply_taken, with_reply, find_mark, May, Move, put_start, close_start, give_up, write, fail_to_write, hear_stop, drop_reply, drop_mark, end_drain, join_dealer, join_worker, take_start, find_no_start, deal, end_reading, pass_start, close_blocks, take_block, put_reply, empty_block, leave, after, is_failure, AreMoves, after_all}
use Rattle.fq_law_progress.specs.Progress.{HaveNoFailure, AllIsWritten}
use Rattle.fq_law_progress.proofs.Kept.{has_stop, Phase, IsKept, in_hand, in_seat, keeps, all_written}
use Rattle.fq_law_progress.proofs.Turns.{share}
use Rattle.fq_law_progress.proofs.all_is_written.Goals as goal
use Rattle.std.proofs.lemmas.Grind.{common_steps}

-- Without a failure every block is written.

abbrev is_calm : Doing → Bool
is_calm takes = true
is_calm (answers texts) = true
is_calm (answers stop) = false
is_calm empties = false
is_calm left = true

-- a seat with no stop
record IsCalm (q : Seat) : Type 0 where
  -- the worker neither puts a stop nor empties its lane
  pub doing : is_calm q.doing ≡ true
  pub replies : has_stop q.replies ≡ false
  -- a worker that has left has no blocks in its lane
  pub empty : q.doing ≡ left → q.blocks ≡ 0

-- once the dealer has stopped reading, all blocks were dealt
abbrev Dealt : Run → Dealer → ℕ → Type 0
Dealt p awaits_start dealt = dealt ≤ p.blocks
Dealt p deals dealt = dealt ≤ p.blocks
Dealt p passes_start dealt = dealt ≡ p.blocks
Dealt p (closes k) dealt = dealt ≡ p.blocks

-- once the collector has stopped writing, all blocks were written
abbrev Written : Run → Caller → ℕ → Type 0
Written p begins written = Unit {0}
Written p closes_start written = Unit {0}
Written p writes written = Unit {0}
Written p drains written = written ≡ p.blocks
Written p awaits_dealer written = written ≡ p.blocks
Written p (awaits_workers k) written = written ≡ p.blocks

record IsSound (p : Run) (s : State) : Type 0 where
  pub calm : (i : ℕ) → i < p.workers → IsCalm (s.seats i)
  -- the start item was put, unless the calling thread is about to put it
  pub begun : (s.caller ≡ begins) ⊎ (s.start_item ≡ true)
  pub dealt : Dealt p s.dealer s.dealt
  pub written : Written p s.caller s.written

no_stop_more : (rs : List Reply) → has_stop rs ≡ false → has_stop (rs ++ texts ∷ []) ≡ false
no_stop_more [] e = refl
no_stop_more (texts ∷ rs) e = no_stop_more rs e
no_stop_more (stop ∷ rs) e = cc

calm_taken : (q : Seat) → IsCalm q → IsCalm (with_reply_taken q)
calm_taken q c = grind (arith, common_steps)

calm_marked : (q : Seat) → IsCalm q → IsCalm (record q { marked = true })
calm_marked q c = record { doing = c.doing; replies = c.replies; empty = c.empty }

calm_answered : (q : Seat) (r : Reply) → q.doing ≡ answers r → IsCalm q → IsCalm (with_reply q r)
calm_answered q r e c = grind (arith, common_steps, no_stop_more)

-- at the mark in turn all blocks were written
written_at_mark : (p : Run) (s : State) → IsRun p → IsKept p s → IsSound p s → May p s find_mark →
    s.written ≡ p.blocks
written_at_mark p s run kept sound may =
    grind (arith, common_steps, Phase, in_seat, in_hand, share, all_written)

-- the same caller and dealer, and one seat changed
sound_at : (p : Run) (s : State) (j : ℕ) (q : Seat) → IsSound p s →
    (IsCalm (s.seats j) → IsCalm q) → IsSound p (record s { seats = changed j q s.seats })
sound_at p s j q sound here = grind (arith, common_steps)

stays_sound : (p : Run) (s : State) (m : Move) → IsRun p → p.started ≡ p.workers → IsKept p s →
    IsSound p s → May p s m → is_failure m ≡ false → IsSound p (after p s m)
stays_sound p s put_start run all kept sound may safe = grind (arith, common_steps)
stays_sound p s give_up run all kept sound may safe = absurd (omega (arith, may.1, all))
stays_sound p s close_start run all kept sound may safe = grind (arith, common_steps)
stays_sound p s write run all kept sound may safe = grind (arith, common_steps, calm_taken)
stays_sound p s fail_to_write run all kept sound may safe = absurd cc
stays_sound p s hear_stop run all kept sound may safe = grind (arith, common_steps)
stays_sound p s find_mark run all kept sound may safe =
    grind (arith, common_steps, calm_marked, written_at_mark)
stays_sound p s (drop_reply j) run all kept sound may safe =
    grind (arith, common_steps, calm_taken)
stays_sound p s (drop_mark j) run all kept sound may safe =
    grind (arith, common_steps, calm_marked)
stays_sound p s end_drain run all kept sound may safe = grind (arith, common_steps)
stays_sound p s join_dealer run all kept sound may safe = grind (arith, common_steps)
stays_sound p s (join_worker k) run all kept sound may safe = grind (arith, common_steps)
stays_sound p s take_start run all kept sound may safe = grind (arith, common_steps)
stays_sound p s find_no_start run all kept sound may safe = grind (arith, common_steps, Phase)
stays_sound p s deal run all kept sound may safe = grind (arith, common_steps)
stays_sound p s end_reading run all kept sound may safe = grind (arith, common_steps)
stays_sound p s pass_start run all kept sound may safe = grind (arith, common_steps)
stays_sound p s (close_blocks k) run all kept sound may safe = grind (arith, common_steps)
stays_sound p s (take_block j texts) run all kept sound may safe =
    grind (arith, common_steps, sound_at)
stays_sound p s (take_block j stop) run all kept sound may safe = absurd cc
stays_sound p s (put_reply j r) run all kept sound may safe =
    sound_at p s j (with_reply (s.seats j) r) sound (calm_answered (s.seats j) r may.1)
stays_sound p s (empty_block j) run all kept sound may safe = grind (arith, common_steps, sound_at)
stays_sound p s (leave j) run all kept sound may safe = grind (arith, common_steps, sound_at)

-- The end of a run.

ended_from : (p : Run) (s : State) (moves : List Move) → IsRun p → p.started ≡ p.workers →
    IsKept p s → IsSound p s → AreMoves p s moves → HaveNoFailure moves →
    IsSound p (after_all p s moves)
ended_from p s [] run all kept sound are none = sound
ended_from p s (m ∷ ms) run all kept sound are none =
    ended_from p (after p s m) ms run all (keeps p s m run kept are.0)
    (stays_sound p s m run all kept sound are.0 none.0) are.1 none.1

-- without a failure, and with all threads, a run that has ended has written every block
writes_all_blocks : AllIsWritten
writes_all_blocks p moves run all are none ended = grind (arith, common_steps, ended_from, Written)

-- without a failure, and with all threads, a run that has ended has written every block
pub returns : goal.returns
returns c = writes_all_blocks
