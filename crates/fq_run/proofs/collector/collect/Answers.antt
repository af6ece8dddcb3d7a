-- What was written is unchanged while the rest is dropped.
use Rattle.std.proofs.Common.{◌≡◌, ℕ, zero, suc, ◌+◌, ◌-◌, ◌<◌, ◌≤◌, ◌%◌, List, [], ◌∷◌, ◌++◌, length, get_or, refl, sym, ap, ◌∙◌, arith, length-append, inl, inr, None, is_some, map, subst, vec_len}
use Rattle.std.proofs.lemmas.Nat.{mod_below}
use Rattle.std.proofs.lemmas.Bool.{cases_lt}
use Rattle.std.proofs.lemmas.Grind.{common_steps}
use mathlib.Core.List.{IsPrefix}
use Rattle.fq_lane.specs.History.{History}
use Rattle.fq_run.specs.lanes.Items.{lists_of, IsAtMark, IsBegun}
use Rattle.fq_run.specs.Shares.{every, gather_turns, gather, total_length}
use Rattle.fq_run.proofs.DealLemmas.{next_wraps, next_within}
use Rattle.fq_run.proofs.MatchLemmas.{no_history}
use Rattle.fq_work.specs.declared.reply.Cause.{Cause}
use Rattle.fq_work.specs.declared.reply.Reply.{Reply}
use Rattle.fq_work.specs.declared.reply.Reply.TheVariants.{Done as done, Stop}
use Rattle.fq_run_core.specs.declared.total.Total.{Total}
use Rattle.fq_report_pairs.specs.declared.done.Done.{Done}
use Rattle.fq_run_core.specs.Devices.{OutletStates, outlet_states}
use Rattle.fq_run.specs.collector.Collecting.{before_stop, TookAll, Writes, failed_in, Collects}
use Rattle.fq_run.specs.declared.collector.Collector.{Collector}
use Rattle.fq_run.specs.declared.collector.phase.Phase.{Phase}
use Rattle.fq_run.specs.declared.collector.phase.Phase.TheVariants.{Writing, AtMark, Stopped, WriteFailed}
use Rattle.fq_run.proofs.collector.collect.Goals as goal

-- What was written in turn is what is gathered.

module _ {T : Type 0} where
  -- the lists begin with what was dealt to them
  record Begins (w : ℕ) (xs : List T) (ls : List (List T)) : Type 0 where
    lanes : length ls ≡ w
    begins : (j : ℕ) → j < w → IsPrefix (every j w xs) (get_or ls j [])

  -- and the one whose turn it is has no more
  record Turns (w : ℕ) (xs : List T) (ls : List (List T)) : Type 0 where
    lists : Begins w xs ls
    ends : get_or ls (length xs % w) [] ≡ every (length xs % w) w xs

  get-left : (xs ys : List (List T)) (j : ℕ) → j < length xs →
      get_or (xs ++ ys) j [] ≡ get_or xs j []
  get-left (x ∷ xs) ys zero lt = refl
  get-left (x ∷ xs) ys (suc j) lt = get-left xs ys j (omega arith)
  get-left [] ys j lt = absurd (omega arith)

  get-last : (xs : List (List T)) (y : List T) → get_or (xs ++ y ∷ []) (length xs) [] ≡ y
  get-last [] y = refl
  get-last (x ∷ xs) y = get-last xs y

  first_rest : (n : ℕ) (x y : T) (xs l : List T) (ls : List (List T)) →
      Begins (suc n) (x ∷ xs) ((y ∷ l) ∷ ls) → IsPrefix (every n (suc n) xs) l
  first_rest n x y xs l ls h =
      let w1 : suc n - 1 ≡ n = omega arith in
      let first = h.begins 0 (omega arith) in
      let q : x ∷ (every (suc n - 1) (suc n) xs ++ first.0) ≡ y ∷ l = first.1 in
      let tail : every (suc n - 1) (suc n) xs ++ first.0 ≡ l = cc in
      (first.0, ap (λ k. every k (suc n) xs ++ first.0) (sym w1) ∙ tail)

  at_last : (n : ℕ) (l : List T) (ls : List (List T)) → length ls ≡ n →
      get_or (ls ++ l ∷ []) n [] ≡ l
  at_last n l ls few = ap (λ k. get_or (ls ++ l ∷ []) k []) (sym few) ∙ get-last ls l

  -- after one turn
  turned : (n : ℕ) (x y : T) (xs l : List T) (ls : List (List T)) →
      Begins (suc n) (x ∷ xs) ((y ∷ l) ∷ ls) → Begins (suc n) xs (ls ++ l ∷ [])
  turned n x y xs l ls h =
      let few : length ls ≡ n = omega (arith, h.lanes) in
      record {
        lanes = omega (arith, length-append ls (l ∷ []));
        begins = λ j lt. elim (cases_lt j n) [
          | inl more ↦ rw (get-left ls (l ∷ []) j (omega (arith, few)))
              (h.begins (suc j) (omega arith))
          | inr past ↦ (let here : j ≡ n = omega arith in
              rw (here, at_last n l ls few) (first_rest n x y xs l ls h))
        ];
      }

  turned_end : (n : ℕ) (x y : T) (xs l : List T) (ls : List (List T)) →
      Turns (suc n) (x ∷ xs) ((y ∷ l) ∷ ls) → Turns (suc n) xs (ls ++ l ∷ [])
  turned_end n x y xs l ls h =
      let few : length ls ≡ n = omega (arith, h.lists.lanes) in
      let w1 : suc n - 1 ≡ n = omega arith in
      record {
        lists = turned n x y xs l ls h.lists;
        ends = (let m = length xs in let below = mod_below m (suc n) (omega arith) in
            elim (cases_lt (suc (m % suc n)) (suc n)) [
              | inl more ↦ get-left ls (l ∷ []) (m % suc n) (omega (arith, few))
                  ∙ (rw (next_within m (suc n) more) at h.ends)
              | inr past ↦ (let here : m % suc n ≡ n = omega arith in
                  let e : y ∷ l ≡ x ∷ every (suc n - 1) (suc n) xs =
                  rw (next_wraps m (suc n) (omega arith) (omega arith)) at h.ends in
                  let t : l ≡ every (suc n - 1) (suc n) xs = cc in
                  rw here (at_last n l ls few ∙ t ∙ ap (λ k. every k (suc n) xs) w1))
            ]);
      }

  -- the first list begins with the first member
  same_first : (n : ℕ) (x y : T) (xs l : List T) (ls : List (List T)) →
      Begins (suc n) (x ∷ xs) ((y ∷ l) ∷ ls) → y ≡ x
  same_first n x y xs l ls h = grind (arith, common_steps)

  gathers : (n m : ℕ) (xs : List T) (ls : List (List T)) → length xs ≤ m → Turns (suc n) xs ls →
      gather_turns m ls ≡ xs
  gathers n zero [] ls le h = refl
  gathers n zero (x ∷ xs) ls le h = absurd (omega arith)
  gathers n (suc m) [] [] le h = refl
  gathers n (suc m) [] ([] ∷ ls) le h = refl
  gathers n (suc m) [] ((x ∷ l) ∷ ls) le h = grind (arith, common_steps)
  gathers n (suc m) (x ∷ xs) [] le h = let e = h.lists.lanes in absurd (omega arith)
  gathers n (suc m) (x ∷ xs) ([] ∷ ls) le h = let p = (h.lists.begins 0 (omega arith)).1 in cc
  gathers n (suc m) (x ∷ xs) ((y ∷ l) ∷ ls) le h = ap (λ z. z ∷ gather_turns m (ls ++ l ∷ []))
      (same_first n x y xs l ls h.lists) ∙ ap (λ zs. x ∷ zs)
      (gathers n m xs (ls ++ l ∷ []) (omega arith) (turned_end n x y xs l ls h))

  -- if lists begin with what was dealt to them, the gathered list begins with all that was dealt
  gathers_first : (n m : ℕ) (xs : List T) (ls : List (List T)) → length xs ≤ m →
      Begins (suc n) xs ls → IsPrefix xs (gather_turns m ls)
  gathers_first n m [] ls le h = (gather_turns m ls, refl)
  gathers_first n zero (x ∷ xs) ls le h = absurd (omega arith)
  gathers_first n (suc m) (x ∷ xs) [] le h = let e = h.lanes in absurd (omega arith)
  gathers_first n (suc m) (x ∷ xs) ([] ∷ ls) le h = let p = (h.begins 0 (omega arith)).1 in cc
  gathers_first n (suc m) (x ∷ xs) ((y ∷ l) ∷ ls) le h =
      let same = same_first n x y xs l ls h in
      let ih = gathers_first n m xs (ls ++ l ∷ []) (omega arith) (turned n x y xs l ls h) in
      (ih.0, ap (λ z. z ∷ (xs ++ ih.0)) (sym same) ∙ ap (λ zs. y ∷ zs) ih.1)

  total-snoc : (ls : List (List T)) (l : List T) →
      total_length (ls ++ l ∷ []) ≡ total_length ls + length l
  total-snoc [] l = omega arith
  total-snoc (k ∷ ls) l = let ih = total-snoc ls l in omega arith

  enough : (n : ℕ) (xs : List T) (ls : List (List T)) → Begins (suc n) xs ls →
      length xs ≤ total_length ls
  enough n [] ls h = omega arith
  enough n (x ∷ xs) [] h = let e = h.lanes in absurd (omega arith)
  enough n (x ∷ xs) ([] ∷ ls) h = let p = (h.begins 0 (omega arith)).1 in cc
  enough n (x ∷ xs) ((y ∷ l) ∷ ls) h =
      let ih = enough n xs (ls ++ l ∷ []) (turned n x y xs l ls h) in
      let t = total-snoc ls l in
      omega arith

  get-items : (ls : List (History T)) (j : ℕ) (d : History T) → j < length ls →
      get_or (lists_of ls) j [] ≡ (get_or ls j d).items
  get-items (l ∷ ls) zero d lt = refl
  get-items (l ∷ ls) (suc j) d lt = get-items ls j d (omega arith)
  get-items [] j d lt = absurd (omega arith)

  length-items : (ls : List (History T)) → length (lists_of ls) ≡ length ls
  length-items [] = refl
  length-items (l ∷ ls) = ap (λ n. suc n) (length-items ls)

  begun_lists : (w : ℕ) (xs : List T) (ls : List (History T)) → IsBegun w xs ls →
      Begins w xs (lists_of ls)
  begun_lists w xs ls h = record {
    lanes = length-items ls ∙ h.lanes;
    begins = λ j lt. rw (get-items ls j no_history (omega (arith, h.lanes)))
        (h.begins j no_history lt);
  }

  -- what was written in turn comes first in what is gathered
  begun_gather : (w : ℕ) (xs : List T) (ls : List (History T)) → 0 < w → IsBegun w xs ls →
      IsPrefix xs (gather (lists_of ls))
  begun_gather zero xs ls pos h = absurd (omega arith)
  begun_gather (suc n) xs ls pos h =
      let t = begun_lists (suc n) xs ls h in
      gathers_first n (total_length (lists_of ls)) xs (lists_of ls) (enough n xs (lists_of ls) t) t

  -- what was written in turn, up to a lane that had no more, is what is gathered
  at_mark_gather : (w : ℕ) (xs : List T) (ls : List (History T)) → 0 < w → IsAtMark w xs ls →
      gather (lists_of ls) ≡ xs
  at_mark_gather zero xs ls pos h = absurd (omega arith)
  at_mark_gather (suc n) xs ls pos h =
      let t = begun_lists (suc n) xs ls (record { lanes = h.lanes; begins = h.begins }) in
      let ends = get-items ls (length xs % suc n) no_history
      (omega (arith, h.lanes, mod_below (length xs) (suc n) pos)) ∙ h.ends no_history in
      gathers n (total_length (lists_of ls)) xs (lists_of ls) (enough n xs (lists_of ls) t)
      (record { lists = t; ends = ends })

-- The replies before the first Stop.

before_none : (ds : List Done) → before_stop (map done ds) ≡ ds
before_none [] = refl
before_none (d ∷ ds) = ap (λ es. d ∷ es) (before_none ds)

before_one : (ds : List Done) (why : Cause) (rest : List Reply) →
    before_stop ((map done ds ++ Stop why ∷ []) ++ rest) ≡ ds
before_one [] why rest = refl
before_one (d ∷ ds) why rest = ap (λ es. d ∷ es) (before_one ds why rest)

-- if no write failed, what was written is what came, gathered in turn, before the first Stop
written_gathers : (w : ℕ) (p : Phase) (before now : OutletStates) (ds : List Done)
    (k : Collector) → 0 < w → (p ≡ Writing → ⊥) → failed_in p ≡ None → Writes p w before now ds k →
    TookAll before now (before_stop (gather (lists_of k.replies.items)))
written_gathers w Writing before now ds k pos over none h = absurd (over refl)
written_gathers w AtMark before now ds k pos over none h =
    rw (at_mark_gather w (map done ds) k.replies.items pos h.0, before_none ds) h.1
written_gathers w Stopped before now ds k pos over none h =
    let p = begun_gather w (map done ds ++ Stop h.why ∷ []) k.replies.items pos h.begun in
    rw (← p.1, before_one ds h.why p.0) h.took
written_gathers w (WriteFailed failed) before now ds k pos over none h = absurd cc

-- the new collector has written nothing so far
pub write_all-requires-clause-collects : goal.write_all-requires-clause-collects
write_all-requires-clause-collects g c =
    let o = g.O.Outlet in
    let states = outlet_states o.state c.args.outlets.now in
    subst (λ (t : Total). Collects (is_some t.tally) (vec_len c.new-collector.result.replies) states
    states c.new-collector.result) (sym c.new-collector.ensures.total)
    (subst (λ v. Collects (is_some c.args.total.tally) (vec_len v) states states
    c.new-collector.result) (sym c.new-collector.ensures.replies)
    (c.new-collector.ensures.collects states))

-- if no write failed, the outlets took the replies before the first stop, gathered in turn
pub returns-clause-written : goal.returns-clause-written
returns-clause-written g c = λ sound. (let drains = c.drain.ensures.drains in
    let h = drains.collects _ _ _ _ c.write_all.ensures.collects in
    written_gathers _ c.drain.new.self.phase _ _ h.written c.drain.new.self (omega (arith, h.turn))
    (λ at. c.write_all.ensures.over (sym drains.phase ∙ at)) sound h.writes)
