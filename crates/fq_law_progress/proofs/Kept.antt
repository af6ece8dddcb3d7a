-- What holds in every state that a run reaches.
use Rattle.std.proofs.Common.{◌≡◌, ◌⊎◌, ⊎_elim, ℕ, ◌+◌, ◌<◌, ◌≤◌, Bool, true, false, List, [], ◌∷◌, ◌++◌, length, length-append, refl, ap, arith}
use Rattle.fq_work.specs.Doing.{Reply, texts, stop, Doing, takes, answers, empties, left}
use Rattle.fq_run.specs.Doing.{Dealer, awaits_start, closes, Caller, begins, closes_start, writes, drains, awaits_dealer, awaits_workers}
use Rattle.fq_law_progress.specs.Model.{Run, IsRun, Seat, State, closed_lanes, changed, start}
use Rattle.fq_law_progress.specs.Moves.{Move, put_start, close_start, give_up, write, fail_to_write, hear_stop, find_mark, drop_reply, drop_mark, end_drain, join_dealer, join_worker, take_start, find_no_start, deal, end_reading, pass_start, close_blocks, take_block, put_reply, empty_block, leave, May, after, with_block_taken, with_reply}
use Rattle.fq_law_progress.proofs.Seats.{changed_each, below_next}
use Rattle.fq_law_progress.proofs.Turns.{turn_at, share, turn_below, share_less}
use Rattle.std.proofs.lemmas.Grind.{common_steps}

-- Of one seat.

-- the block that a worker has in hand
abbrev pub in_hand : Doing → ℕ
in_hand takes = 0
in_hand (answers r) = 1
in_hand empties = 0
in_hand left = 0

-- a stop is among the replies
abbrev pub has_stop : List Reply → Bool
has_stop [] = false
has_stop (texts ∷ rs) = has_stop rs
has_stop (stop ∷ rs) = true

-- the blocks of a seat whose reply was not taken
abbrev pub in_seat : Seat → ℕ
in_seat q = length q.replies + in_hand q.doing + q.blocks

-- Of the blocks that were dealt to it, the replies to some were written. The others are in the
-- seat, unless a stop is.
pub record Holds (written dealt : ℕ) (q : Seat) : Type 0 where
  pub most : written + in_seat q ≤ dealt
  pub all : (has_stop q.replies ≡ true) ⊎ (dealt ≤ written + in_seat q)
  -- a worker that empties its lane has a stop among its replies
  pub stopped : q.doing ≡ empties → has_stop q.replies ≡ true

-- A worker leaves after its lane is closed, and the collector gets its mark after it has left.
pub record Closes (closed i : ℕ) (q : Seat) : Type 0 where
  pub over : q.doing ≡ left → i < closed
  pub told : q.marked ≡ true → q.doing ≡ left

-- a worker that has nothing to do but to find the mark
abbrev pub IsQuiet : Seat → Type 0
IsQuiet q = (q.doing ≡ left) ⊎ ((q.doing ≡ takes) × (q.blocks ≡ 0))

-- Of all.

-- each seat has the blocks of its share whose reply was not taken, unless it has a stop
abbrev pub HoldAll : Run → ℕ → ℕ → (ℕ → Seat) → Type 0
HoldAll p written dealt seats = (i : ℕ) → i < p.workers →
    Holds (share p.workers written i) (share p.workers dealt i) (seats i)

-- each worker leaves after its lane of blocks is closed, and its mark is taken after that
abbrev pub CloseAll : Run → Dealer → (ℕ → Seat) → Type 0
CloseAll p dealer seats = (i : ℕ) → i < p.workers → Closes (closed_lanes dealer) i (seats i)

-- each worker has nothing to do but to find the mark
abbrev pub AreQuiet : Run → (ℕ → Seat) → Type 0
AreQuiet p seats = (i : ℕ) → i < p.workers → IsQuiet (seats i)

-- all threads were started, and the dealer gets its start item
pub record IsUnderWay (p : Run) (dealer : Dealer) (item : Bool) : Type 0 where
  pub all : p.started ≡ p.workers
  pub starts : dealer ≡ awaits_start → item ≡ true

-- the dealer deals no more, or never did
abbrev pub DealsNoMore : Dealer → Bool → Type 0
DealsNoMore dealer item = ((dealer ≡ awaits_start) × (item ≡ false)) ⊎ ((k : ℕ)
    × (dealer ≡ closes k))

-- what holds while this is what the calling thread does next
abbrev pub Phase : Run → State → Caller → Type 0
Phase p s begins = s ≡ start
Phase p s closes_start = IsUnderWay p s.dealer s.start_item × HoldAll p s.written s.dealt s.seats
Phase p s writes = IsUnderWay p s.dealer s.start_item × HoldAll p s.written s.dealt s.seats
    × (s.start_mark ≡ true)
Phase p s drains = IsUnderWay p s.dealer s.start_item × (s.start_mark ≡ true)
Phase p s awaits_dealer = DealsNoMore s.dealer s.start_item × AreQuiet p s.seats × (s.start_mark
    ≡ true)
Phase p s (awaits_workers k) =
    (s.dealer ≡ closes p.workers) × AreQuiet p s.seats × (k ≤ p.started) × ((i : ℕ) → i < k →
    (s.seats i).doing ≡ left)

-- what holds in every state that a run reaches
pub record IsKept (p : Run) (s : State) : Type 0 where
  pub deal_turn : s.deal_turn ≡ turn_at p.workers s.dealt
  pub turn : s.turn ≡ turn_at p.workers s.written
  pub closed : closed_lanes s.dealer ≤ p.workers
  pub marks : CloseAll p s.dealer s.seats
  pub phase : Phase p s s.caller

-- Moves of a worker.

hold_all : (p : Run) (c d j : ℕ) (q : Seat) (seats : ℕ → Seat) →
    ((c d : ℕ) → Holds c d (seats j) → Holds c d q) → HoldAll p c d seats →
    HoldAll p c d (changed j q seats)
hold_all p c d j q seats holds all = changed_each (λ i seat. i < p.workers →
    Holds (share p.workers c i) (share p.workers d i) seat) j q seats
    (λ h. holds _ _ (all j h)) (λ i other. all i)

worker_phase : (p : Run) (s : State) (j : ℕ) (q : Seat) → j < p.workers → ((s ≡ start) → ⊥)
    → ((c d : ℕ) → Holds c d (s.seats j) → Holds c d q)
    → (IsQuiet (s.seats j) → IsQuiet q)
    → ((s.seats j).doing ≡ left → q.doing ≡ left)
    → (caller : Caller) → Phase p s caller →
    Phase p (record s { seats = changed j q s.seats }) caller
worker_phase p s j q within begun holds quiet stays begins ph = absurd (begun ph)
worker_phase p s j q within begun holds quiet stays closes_start ph =
    (ph.0, hold_all p _ _ j q s.seats holds ph.1)
worker_phase p s j q within begun holds quiet stays writes ph =
    (ph.0, hold_all p _ _ j q s.seats holds ph.1, ph.2)
worker_phase p s j q within begun holds quiet stays caller ph =
    grind (arith, common_steps, changed_each, IsQuiet)

worker_moves : (p : Run) (s : State) (j : ℕ) (q : Seat) → IsKept p s → j < p.workers →
    ((s ≡ start) → ⊥)
    → (Closes (closed_lanes s.dealer) j (s.seats j) → Closes (closed_lanes s.dealer) j q)
    → ((c d : ℕ) → Holds c d (s.seats j) → Holds c d q)
    → (IsQuiet (s.seats j) → IsQuiet q)
    → ((s.seats j).doing ≡ left → q.doing ≡ left)
    → IsKept p (record s { seats = changed j q s.seats })
worker_moves p s j q kept within begun ends holds quiet stays = record {
  deal_turn = kept.deal_turn;
  turn = kept.turn;
  closed = kept.closed;
  marks = changed_each (λ i seat. i < p.workers →
      Closes (closed_lanes s.dealer) i seat) j q s.seats (λ h. ends (kept.marks j h))
      (λ i other. kept.marks i);
  phase = worker_phase p s j q within begun holds quiet stays s.caller kept.phase;
}

-- What each move does to a seat.

stop_stays : (rs : List Reply) (r : Reply) → has_stop rs ≡ true → has_stop (rs ++ r ∷ []) ≡ true
stop_stays [] r h = cc
stop_stays (texts ∷ rs) r h = stop_stays rs r h
stop_stays (stop ∷ rs) r h = refl

stop_comes : (rs : List Reply) → has_stop (rs ++ stop ∷ []) ≡ true
stop_comes [] = refl
stop_comes (texts ∷ rs) = stop_comes rs
stop_comes (stop ∷ rs) = refl

answered_holds : (c d : ℕ) (q : Seat) (r : Reply) → q.doing ≡ answers r → Holds c d q →
    Holds c d (with_reply q r)
answered_holds c d q r e h = grind (arith, common_steps, stop_stays, stop_comes, length-append)

-- a worker that has neither left nor leaves now
working_closes : (k i : ℕ) (q q' : Seat) → (q.doing ≡ left → ⊥) → (q'.doing ≡ left → ⊥) →
    q'.marked ≡ q.marked → Closes k i q → Closes k i q'
working_closes k i q q' before later same h = grind (arith, common_steps)

answered_closes : (k i : ℕ) (q : Seat) (r : Reply) → q.doing ≡ answers r → Closes k i q →
    Closes k i (with_reply q r)
answered_closes k i q r e h = grind (arith, common_steps, working_closes)

-- All moves.

-- and it still holds after every move that can be made
pub keeps : (p : Run) (s : State) (m : Move) → IsRun p → IsKept p s → May p s m →
    IsKept p (after p s m)
keeps p s put_start run kept may = grind (arith, common_steps, Phase, HoldAll)
keeps p s give_up run kept may = grind (arith, common_steps, Phase, AreQuiet)
keeps p s close_start run kept may = grind (arith, common_steps, true)
keeps p s write run kept may = grind (arith, common_steps, Phase)
keeps p s fail_to_write run kept may = grind (arith, common_steps, Phase)
keeps p s hear_stop run kept may = grind (arith, common_steps, Phase)
keeps p s find_mark run kept may = grind (arith, common_steps, Phase)
keeps p s (drop_reply j) run kept may = grind (arith, common_steps, Phase)
keeps p s (drop_mark j) run kept may = grind (arith, common_steps, Phase)
keeps p s end_drain run kept may = grind (arith, common_steps, Phase, kept.marks 0, may.1 0)
keeps p s join_dealer run kept may = grind (arith, common_steps, Phase)
keeps p s (join_worker k) run kept may = grind (arith, common_steps, Phase, below_next)
keeps p s take_start run kept may = grind (arith, common_steps)
keeps p s find_no_start run kept may = grind (arith, common_steps)
keeps p s deal run kept may = grind (arith, common_steps)
keeps p s end_reading run kept may = grind (arith, common_steps)
keeps p s pass_start run kept may = grind (arith, common_steps)
keeps p s (close_blocks k) run kept may = grind (arith, common_steps)
keeps p s (take_block j r) run kept may =
    let q = s.seats j in
    grind (
      arith,
      common_steps,
      worker_moves p s j (with_block_taken q (answers r)) kept,
      working_closes (closed_lanes s.dealer) j q,
    )
keeps p s (put_reply j r) run kept may =
    let q = s.seats j in
    worker_moves p s j (with_reply q r) kept (omega (arith, may.0, run.few_threads)) (λ e. (let a =
    ap (λ (x : State). (x.seats j).doing) e in let b = may.1 in cc))
    (answered_closes _ j q r may.1)
    (λ c d. answered_holds c d q r may.1)
    (⊎_elim (λ e. (let b = may.1 in cc)) (λ h. (let a = h.0 in let b = may.1 in cc)))
    (λ e. (let b = may.1 in cc))
keeps p s (empty_block j) run kept may =
    let q = s.seats j in
    grind (
      arith,
      common_steps,
      worker_moves p s j (with_block_taken q empties) kept,
      working_closes (closed_lanes s.dealer) j q,
    )
keeps p s (leave j) run kept may =
    let q = s.seats j in
    grind (
      arith,
      common_steps,
      worker_moves p s j (record q { doing = left }) kept,
    )

-- If all that was dealt to the worker in turn was written, so was all that was dealt.
pub all_written : (p : Run) (s : State) → IsRun p → IsKept p s →
    HoldAll p s.written s.dealt s.seats → share p.workers s.dealt s.turn ≤ share p.workers s.written
    s.turn → s.written ≡ s.dealt
all_written p s run kept holds few =
    grind (
      arith,
      common_steps,
      share_less p.workers s.written s.dealt,
      share_less p.workers s.dealt s.written,
      holds (turn_at p.workers s.dealt),
      turn_below p.workers s.dealt,
      kept.turn,
    )
