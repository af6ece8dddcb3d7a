-- Runs of the model, move by move, and what gets stuck if a rule is broken.
use Rattle.std.proofs.Common.{◌≡◌, ℕ, ◌<◌, List, [], ◌∷◌, length, refl, arith, rules}
use Rattle.fq_work.specs.Doing.{texts, stop, left}
use Rattle.fq_law_progress.specs.Model.{Run, State, start}
use Rattle.fq_law_progress.specs.Moves.{Move, put_start, close_start, give_up, write, fail_to_write, hear_stop, find_mark, drop_reply, drop_mark, end_drain, join_dealer, join_worker, take_start, find_no_start, deal, end_reading, pass_start, close_blocks, take_block, put_reply, empty_block, leave, May, AreMoves, after_all, at_seat}
use Rattle.fq_law_progress.specs.Progress.{HasEnded, moves_left}
use Rattle.std.proofs.lemmas.Grind.{common_steps}

-- two workers, lanes with room for one, and three blocks
abbrev two : Run
two = record { workers = 2; started = 2; depth = 1; blocks = 3 }

-- An ordinary run.

abbrev ordinary : List Move
ordinary =
    put_start ∷ close_start ∷ take_start ∷ deal ∷ take_block 0
    texts ∷ deal ∷ deal ∷ end_reading ∷ pass_start ∷ close_blocks 0 ∷ close_blocks 1
    ∷ put_reply 0 texts ∷ write ∷ take_block 1 texts ∷ put_reply 1 texts ∷ write ∷ take_block 0
    texts ∷ put_reply 0 texts ∷ write
    ∷ leave 0 ∷ leave 1 ∷ find_mark ∷ drop_mark 0 ∷ end_drain ∷ join_dealer ∷ join_worker
    0 ∷ join_worker 1 ∷ []

all_written : (after_all two start ordinary).written ≡ 3
all_written = refl

are_moves : AreMoves two start ordinary
are_moves = search rules

of_two : (P : ℕ → Type 0) → P 0 → P 1 → (j : ℕ) → j < 2 → P j
of_two P first second j h = grind (arith, common_steps)

has_ended : HasEnded two (after_all two start ordinary)
has_ended = record {
  caller = refl;
  dealer = refl;
  workers = of_two (λ j. ((after_all two start ordinary).seats j).doing ≡ left) refl refl;
}

-- it has 27 moves, of at most 28
moves : length ordinary ≡ 27
moves = refl

most : moves_left two start ≡ 28
most = refl

-- A worker stops at its first block, and a write fails in the other run. Both end.

abbrev stopped : List Move
stopped =
    put_start ∷ close_start ∷ take_start ∷ deal ∷ take_block 0 stop ∷ deal ∷ deal ∷ put_reply 0
    stop ∷ hear_stop ∷ empty_block 0
    ∷ end_reading ∷ pass_start ∷ close_blocks 0 ∷ close_blocks 1 ∷ leave 0 ∷ take_block 1
    texts ∷ put_reply 1 texts ∷ drop_mark 0 ∷ drop_reply 1
    ∷ leave 1 ∷ drop_mark 1 ∷ end_drain ∷ join_dealer ∷ join_worker 0 ∷ join_worker 1 ∷ []

stopped_moves : AreMoves two start stopped
stopped_moves = search rules

stopped_ended : HasEnded two (after_all two start stopped)
stopped_ended = record {
  caller = refl;
  dealer = refl;
  workers = of_two (λ j. ((after_all two start stopped).seats j).doing ≡ left) refl refl;
}

none_written : (after_all two start stopped).written ≡ 0
none_written = refl

abbrev failed : List Move
failed =
    put_start ∷ close_start ∷ take_start ∷ deal ∷ take_block 0 texts ∷ deal ∷ deal ∷ put_reply 0
    texts ∷ fail_to_write ∷ take_block 0 texts ∷ put_reply 0 texts ∷ drop_reply 0
    ∷ end_reading ∷ pass_start ∷ close_blocks 0 ∷ close_blocks 1 ∷ leave 0 ∷ take_block 1
    texts ∷ put_reply 1 texts ∷ drop_mark 0 ∷ drop_reply 1
    ∷ leave 1 ∷ drop_mark 1 ∷ end_drain ∷ join_dealer ∷ join_worker 0 ∷ join_worker 1 ∷ []

failed_moves : AreMoves two start failed
failed_moves = search rules

failed_ended : HasEnded two (after_all two start failed)
failed_ended = record {
  caller = refl;
  dealer = refl;
  workers = of_two (λ j. ((after_all two start failed).seats j).doing ≡ left) refl refl;
}

-- The second worker's thread is refused.

abbrev refused : Run
refused = record { workers = 2; started = 1; depth = 1; blocks = 3 }

abbrev given_up : List Move
given_up = give_up ∷ find_no_start ∷ close_blocks 0 ∷ close_blocks 1 ∷ leave
    0 ∷ join_dealer ∷ join_worker 0 ∷ []

given_up_moves : AreMoves refused start given_up
given_up_moves = search rules

given_up_ended : HasEnded refused (after_all refused start given_up)
given_up_ended = record {
  caller = refl;
  dealer = refl;
  workers = λ j h. of_two (λ i. i < 1 →
      ((after_all refused start given_up).seats i).doing ≡ left) (λ k. refl)
      (λ k. absurd (omega arith)) j (omega arith) h;
}

-- Broken rules: no thread has a move, and the run hasn't ended.

record IsStuck (p : Run) (s : State) : Type 0 where
  pub no_move : (m : Move) → May p s m → ⊥
  pub no_end : HasEnded p s → ⊥

-- A worker that leaves after its stop, and doesn't empty its lane: the dealer waits for room in it,
-- and the calling thread for the dealer.

abbrev one : Run
one = record { workers = 1; started = 1; depth = 1; blocks = 3 }

abbrev until_its_stop : List Move
until_its_stop = put_start ∷ close_start ∷ take_start ∷ deal ∷ take_block 0 stop ∷ deal ∷ put_reply
    0 stop ∷ hear_stop ∷ []

-- it leaves
abbrev gone_early : State
gone_early = let s = after_all one start until_its_stop in
    at_seat s 0 (record (s.seats 0) { doing = left })

abbrev not_emptied : State
not_emptied = after_all one gone_early (drop_mark 0 ∷ end_drain ∷ [])

all_can_be_made : AreMoves one start until_its_stop
    × AreMoves one gone_early (drop_mark 0 ∷ end_drain ∷ [])
all_can_be_made = search rules

stuck_unemptied : IsStuck one not_emptied
stuck_unemptied = record { no_move = λ m h. grind arith; no_end = λ h. grind arith }

-- A collector that takes its replies from the second worker alone: the first worker waits for room
-- for its second reply, the dealer for room in the lane of the first worker, the second worker for
-- the dealer, and the collector for the second worker.

abbrev seven : Run
seven = record { workers = 2; started = 2; depth = 1; blocks = 7 }

-- the next reply is that of the second worker
abbrev at_second : State → State
at_second s = record s { turn = 1 }

abbrev opening : List Move
opening = put_start ∷ close_start ∷ take_start ∷ []

-- two blocks are dealt, and the second is written
abbrev two_more : List Move
two_more = deal ∷ deal ∷ take_block 1 texts ∷ put_reply 1 texts ∷ write ∷ []

abbrev opened : State
opened = at_second (after_all seven start opening)

abbrev one_written : State
one_written = at_second (after_all seven opened two_more)

abbrev first_answered : State
first_answered = after_all seven one_written (take_block 0 texts ∷ put_reply 0 texts ∷ [])

abbrev two_written : State
two_written = at_second (after_all seven first_answered two_more)

abbrev first_in_hand : State
first_in_hand = after_all seven two_written (take_block 0 texts ∷ [])

abbrev out_of_turn : State
out_of_turn = at_second (after_all seven first_in_hand two_more)

each_can_be_made : AreMoves seven start opening × AreMoves seven opened two_more
    × AreMoves seven one_written (take_block 0 texts ∷ put_reply 0 texts ∷ [])
    × AreMoves seven first_answered two_more × AreMoves seven two_written (take_block 0 texts ∷ [])
    × AreMoves seven first_in_hand two_more
each_can_be_made = search rules

stuck_out_of_turn : IsStuck seven out_of_turn
stuck_out_of_turn = record { no_move = λ m h. grind arith; no_end = λ h. grind arith }

-- A collector that drains the lane of one worker alone: after a stop of the first worker there is a
-- state in which only a reply of the second one can be taken.

abbrev eight : Run
eight = record { workers = 2; started = 2; depth = 1; blocks = 8 }

abbrev full_beside : List Move
full_beside =
    put_start ∷ close_start ∷ take_start ∷ deal ∷ take_block 0 stop ∷ put_reply 0 stop ∷ hear_stop
    ∷ deal ∷ take_block 1 texts ∷ put_reply 1 texts ∷ deal ∷ empty_block 0 ∷ deal ∷ take_block 1
    texts ∷ deal ∷ empty_block 0
    ∷ deal ∷ deal ∷ empty_block 0 ∷ []

full_beside_moves : AreMoves eight start full_beside
full_beside_moves = search rules

only_the_other : (m : Move) → May eight (after_all eight start full_beside) m → m ≡ drop_reply 1
only_the_other m h = grind arith
