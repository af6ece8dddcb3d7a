use Rattle.std.proofs.Common.{◌≡◌, ◌⊎◌, inl, inr, ⊎_elim, ℕ, zero, suc, ◌<◌, ◌≤◌, Bool, true, false, List, [], ◌∷◌, length, refl, arith}
use Rattle.std.proofs.lemmas.Grind.{common_steps}
use Rattle.fq_work.specs.Doing.{texts, stop, takes, empties, left}
use Rattle.fq_run.specs.Doing.{deals, Caller, begins, closes_start, writes, drains, awaits_dealer, awaits_workers}
use Rattle.fq_law_progress.specs.Model.{Run, IsRun, Seat, State, closed_lanes}
use Rattle.fq_law_progress.specs.Moves.{Move, put_start, close_start, give_up, write, hear_stop, find_mark, drop_reply, drop_mark, end_drain, join_dealer, join_worker, take_start, find_no_start, deal, end_reading, pass_start, close_blocks, take_block, put_reply, empty_block, leave, May, after, AreMoves, after_all, is_failure}
use Rattle.fq_law_progress.specs.Progress.{HasEnded, CanGoOn, NeverStuck}
use Rattle.fq_law_progress.proofs.Kept.{has_stop, in_seat, IsQuiet, Phase, IsKept, keeps, all_written}
use Rattle.fq_law_progress.proofs.Seats.{below_next}
use Rattle.fq_law_progress.proofs.Turns.{turn_at, turn_below}
use Rattle.fq_law_progress.proofs.runs_never_get_stuck.Goals as goal

-- this move can be made, and is no failure
goes : (p : Run) (s : State) (m : Move) → is_failure m ≡ false → May p s m → CanGoOn p s
goes p s m safe may = (m, may, safe)

-- The worker has left, or waits for a block in a lane that isn't closed, or for room for its reply.
abbrev WorkerWaits : Run → State → ℕ → Type 0
WorkerWaits p s j = ((s.seats j).doing ≡ left)
    ⊎ (((s.seats j).blocks ≡ 0) × (closed_lanes s.dealer ≤ j)
    × (((s.seats j).doing ≡ takes) ⊎ ((s.seats j).doing ≡ empties)))
    ⊎ ((0 < length (s.seats j).replies) × (p.depth ≤ length (s.seats j).replies))

worker : (p : Run) (s : State) (j : ℕ) → IsRun p → j < p.started → CanGoOn p s ⊎ WorkerWaits p s j
worker p s j run within =
    grind (
      arith,
      common_steps,
      goes p s (take_block j texts) refl,
      goes p s (put_reply j texts) refl,
      goes p s (put_reply j stop) refl,
      goes p s (empty_block j) refl,
      goes p s (leave j) refl,
    )

-- The dealer waits for room in the lane whose turn it is, or has ended.
abbrev DealerWaits : Run → State → Type 0
DealerWaits p s = ((s.dealer ≡ deals) × (p.depth ≤ (s.seats s.deal_turn).blocks))
    ⊎ (p.workers ≤ closed_lanes s.dealer)

dealer : (p : Run) (s : State) → s.start_mark ≡ true → s.deal_turn < p.workers →
    CanGoOn p s ⊎ DealerWaits p s
dealer p s mark within =
    grind (
      arith,
      common_steps,
      goes p s take_start refl,
      goes p s find_no_start refl,
      goes p s deal refl,
      goes p s end_reading refl,
      goes p s pass_start refl,
      goes p s (close_blocks (closed_lanes s.dealer)) refl,
    )

-- While the dealer waits for room, the worker in turn doesn't wait for a block.
starves : (p : Run) (s : State) → IsRun p → IsKept p s → s.turn < p.workers → Phase p s writes →
    (s.seats s.turn).replies ≡ [] → ((s.seats s.turn).doing ≡ takes) ⊎ ((s.seats s.turn).doing
    ≡ empties) → (s.seats s.turn).blocks ≡ 0 → p.depth ≤ (s.seats s.deal_turn).blocks → ⊥
starves p s run kept here ph is doing none full =
    grind (arith, common_steps, in_seat, has_stop, turn_at, all_written)

unmarked_by : (n : ℕ) (seats : ℕ → Seat) (all : (j : ℕ) → j < n → (seats j).marked ≡ true) →
    (b : Bool) → (seats n).marked ≡ b
    → ((j : ℕ) → j < suc n → (seats j).marked ≡ true)
    ⊎ ((j : ℕ) × (j < suc n) × ((seats j).marked ≡ false))
unmarked_by n seats all true e = inl (below_next (λ j. (seats j).marked ≡ true) n all e)
unmarked_by n seats all false e = inr (n, omega arith, e)

unmarked : (n : ℕ) (seats : ℕ → Seat) → ((j : ℕ) → j < n → (seats j).marked ≡ true) ⊎ ((j : ℕ)
    × (j < n) × ((seats j).marked ≡ false))
unmarked zero seats = inl (λ j h. absurd (omega arith))
unmarked (suc n) seats = ⊎_elim (λ all. unmarked_by n seats all (seats n).marked refl)
    (λ some. inr (some.0, omega (arith, some.1), some.2)) (unmarked n seats)

-- the collector can take from a lane that has not come to its mark, or the dealer's is full
drains_at : (p : Run) (s : State) (j : ℕ) → IsRun p → IsKept p s → s.caller ≡ drains →
    s.deal_turn < p.workers → j < p.workers → (s.seats j).marked ≡ false → CanGoOn p s
drains_at p s j run kept e there within open_yet =
    grind (
      arith,
      common_steps,
      Phase,
      goes p s (drop_reply j) refl,
      goes p s (drop_mark j) refl,
      goes p s (drop_reply s.deal_turn) refl,
      worker p s j run,
      worker p s s.deal_turn run,
      dealer p s,
      kept.marks s.deal_turn,
    )

by_caller : (p : Run) (s : State) → IsRun p → IsKept p s → s.deal_turn < p.workers →
    s.turn < p.workers → (caller : Caller) → s.caller ≡ caller → HasEnded p s ⊎ CanGoOn p s
by_caller p s run kept there here begins e =
    grind (arith, common_steps, goes p s give_up refl, goes p s put_start refl)
by_caller p s run kept there here closes_start e = inr (close_start, e, refl)
by_caller p s run kept there here writes e =
    grind (
      arith,
      common_steps,
      goes p s write refl,
      goes p s hear_stop refl,
      goes p s find_mark refl,
      worker p s s.turn run,
      dealer p s,
      Phase,
      starves p s run kept here,
    )
by_caller p s run kept there here drains e = ⊎_elim (λ all. inr (end_drain, (e, all), refl))
    (λ some. inr (drains_at p s some.0 run kept e there some.1 some.2))
    (unmarked p.workers s.seats)
by_caller p s run kept there here awaits_dealer e =
    grind (
      arith,
      common_steps,
      Phase,
      goes p s find_no_start refl,
      goes p s join_dealer refl,
      goes p s (close_blocks (closed_lanes s.dealer)) refl,
    )
by_caller p s run kept there here (awaits_workers k) e =
    grind (
      arith,
      common_steps,
      Phase,
      IsQuiet,
      goes p s (join_worker k) refl,
      goes p s (leave k) refl,
    )

-- what holds in every state of a run still holds after any moves that can be made
kept_all : (p : Run) (s : State) (moves : List Move) → IsRun p → IsKept p s →
    AreMoves p s moves → IsKept p (after_all p s moves)
kept_all p s [] run kept are = kept
kept_all p s (m ∷ ms) run kept are = kept_all p (after p s m) ms run (keeps p s m run kept are.0)
    are.1

-- every state that a run can reach is its end, or some thread has a move
never_stuck : NeverStuck
never_stuck p moves run are = grind (arith, common_steps, kept_all, by_caller, turn_below)

-- every state that a run can reach is its end, or some thread has a move
pub returns : goal.returns
returns c = never_stuck
