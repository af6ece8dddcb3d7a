-- How the lanes change when one of them changes.
use Rattle.std.proofs.Common.{◌≡◌, ℕ, zero, suc, ◌<◌, ◌%◌, true, List, [], ◌∷◌, ◌++◌, length, get_or, refl, sym, ap, ◌∙◌, arith, append_assoc, subst, inl, inr, get_or-set_other}
use Rattle.std.proofs.Math.ListN.{set, length-set}
use Rattle.std.proofs.lemmas.List.{append-nil, get_or-set_same, get_or_default}
use Rattle.std.proofs.lemmas.Bool.{cases_eq}
use Rattle.std.proofs.lemmas.Grind.{common_steps}
use mathlib.Core.List.{IsPrefix}
use Rattle.fq_lane.specs.History.{History, with_item, with_mark}
use Rattle.fq_lane.specs.Take.{Takes}
use Rattle.fq_lane.specs.declared.taken.Taken.{Taken}
use Rattle.fq_lane.specs.declared.taken.Taken.TheVariants.{Item, Empty, Closed}
use Rattle.fq_run.specs.Shares.{every}
use Rattle.fq_run.specs.lanes.Items.{names_of, IsDealt, IsAtMark, IsBegun}
use Rattle.fq_run.proofs.DealLemmas.{every_here, every_there}

module _ {T : Type 0} where
  -- what a take from one lane returns and changes
  pub record TakesAt (r : Taken T) (old new : List (History T)) (j : ℕ) : Type 0 where
    -- the lane after the take
    pub history : History T
    pub takes : Takes r (get_or old j history) history
    pub becomes : new ≡ set old j history

  -- a receiver that may have taken more
  record Follows (a b : History T) : Type 0 where
    pub name : b.name ≡ a.name
    pub begins : IsPrefix a.items b.items
    -- after the mark nothing more comes
    pub stays : a.marked ≡ true → b ≡ a

  marked_again : (l : History T) → l.marked ≡ true → with_mark l ≡ l
  marked_again l m = grind (arith, common_steps)

  follows_same : (a b : History T) → b ≡ a → Follows a b
  follows_same a b e =
      rw e (record { name = refl; begins = ([], append-nil a.items); stays = λ _. refl })

  follows_take : (r : Taken T) (a b : History T) → Takes r a b → Follows a b
  follows_take (Item x) a b t =
      rw t.1 (record { name = refl; begins = (x ∷ [], refl); stays = λ m. cc })
  follows_take Empty a b t = follows_same a b t.1
  follows_take Closed a b t =
      rw t (record { name = refl; begins = ([], append-nil a.items); stays = marked_again a })

  -- the lanes after one of them changed
  set_at : (ls : List (History T)) (j i : ℕ) (l d : History T) (P : History T → Type 0) →
      j < length ls → (i ≡ j → P l) → ((i ≡ j → ⊥) → P (get_or ls i d)) →
      P (get_or (set ls j l) i d)
  set_at ls j i l d P lt here there = elim (cases_eq i j) [
    | inl e ↦ subst P (sym (ap (λ k. get_or (set ls j l) k d) e ∙ get_or-set_same ls j l d lt))
        (here e)
    | inr n ↦ subst P (sym (get_or-set_other ls j i l d n)) (there n)
  ]

  names-set : (ls : List (History T)) (j : ℕ) (l : History T) → l.name ≡ (get_or ls j l).name →
      names_of (set ls j l) ≡ names_of ls
  names-set [] j l e = refl
  names-set (k ∷ ls) zero l e = ap (λ n. n ∷ names_of ls) e
  names-set (k ∷ ls) (suc j) l e = ap (λ ns. k.name ∷ ns) (names-set ls j l e)

  -- a take keeps the names of the lanes
  pub takes_names : (r : Taken T) (old new : List (History T)) (j : ℕ) → TakesAt r old new j →
      names_of new ≡ names_of old
  takes_names r old new j t = ap names_of t.becomes
      ∙ names-set old j t.history (follows_take r _ t.history t.takes).name

  -- a take keeps the number of lanes
  pub takes_length : (r : Taken T) (old new : List (History T)) (j : ℕ) → TakesAt r old new j →
      length new ≡ length old
  takes_length r old new j t = ap length t.becomes ∙ length-set old j t.history

  takes_follow : (r : Taken T) (old new : List (History T)) (j : ℕ) → TakesAt r old new j →
      j < length old → (i : ℕ) (d : History T) → Follows (get_or old i d) (get_or new i d)
  takes_follow r old new j t lt i d =
      rw t.becomes (set_at old j i t.history d (Follows (get_or old i d)) lt
      (λ e. subst (λ (k : History T). Follows k t.history) (get_or_default old j t.history d lt
      ∙ ap (λ k. get_or old k d) (sym e))
      (follows_take r (get_or old j t.history) t.history t.takes))
      (λ n. follows_same _ _ refl))

  prefix_trans : (xs ys zs : List T) → IsPrefix xs ys → IsPrefix ys zs → IsPrefix xs zs
  prefix_trans xs ys zs p q =
      (p.0 ++ q.0, sym (append_assoc xs p.0 q.0) ∙ ap (λ us. us ++ q.0) p.1 ∙ q.1)

  -- once the lane whose turn it is has closed, no more comes in turn
  pub at_mark_closed : (w : ℕ) (xs : List T) (old new : List (History T)) (j : ℕ) →
      IsDealt w xs old → TakesAt Closed old new j → j < w → j ≡ length xs % w → IsAtMark w xs new
  at_mark_closed w xs old new j h t lt turn =
      let within : j < length old = omega (arith, h.lanes) in
      let at_j : (d : History T) → get_or new j d ≡ t.history =
      λ d. ap (λ ls. get_or ls j d) t.becomes ∙ get_or-set_same old j t.history d within in
      let items_j : t.history.items ≡ every j w xs = ap (λ l. l.items) t.takes
      ∙ h.items j t.history lt in
      record {
        lanes = takes_length Closed old new j t ∙ h.lanes;
        begins = λ i d below. prefix_trans _ _ _ (
          [],
          append-nil (every i w xs) ∙ sym (h.items i d below),
        ) (takes_follow Closed old new j t within i d).begins;
        ends = λ d. rw (← turn) (ap (λ l. l.items) (at_j d) ∙ items_j);
        closed = λ d. rw (← turn) (ap (λ l. l.marked) (at_j d) ∙ ap (λ l. l.marked) t.takes);
      }

  -- lanes that are at a mark still are after one more take
  pub at_mark_takes : (w : ℕ) (r : Taken T) (xs : List T) (old new : List (History T)) (j : ℕ) →
      IsAtMark w xs old → TakesAt r old new j → j < w → IsAtMark w xs new
  at_mark_takes w r xs old new j h t lt =
      let within : j < length old = omega (arith, h.lanes) in
      let stays : (d : History T) → get_or new (length xs % w) d ≡ get_or old (length xs % w) d =
      λ d. (takes_follow r old new j t within (length xs % w) d).stays (h.closed d) in
      record {
        lanes = takes_length r old new j t ∙ h.lanes;
        begins = λ i d below. prefix_trans _ _ _ (h.begins i d below)
            (takes_follow r old new j t within i d).begins;
        ends = λ d. ap (λ l. l.items) (stays d) ∙ h.ends d;
        closed = λ d. ap (λ l. l.marked) (stays d) ∙ h.closed d;
      }

  -- the names after one lane changed
  pub names_written : (ls : List (History T)) (j : ℕ) (k d l : History T) → j < length ls →
      k ≡ get_or ls j d → l.name ≡ k.name → names_of (set ls j l) ≡ names_of ls
  names_written ls j k d l lt read same = names-set ls j l (same
      ∙ ap (λ (m : History T). m.name) (read ∙ get_or_default ls j d l lt))

  -- something was taken from one lane
  pub taken_at : (r s : Taken T) (old new : List (History T)) (j : ℕ) (k d l : History T) → r ≡ s →
      j < length old → k ≡ get_or old j d → Takes r k l → new ≡ set old j l → TakesAt s old new j
  taken_at r s old new j k d l is lt read t becomes =
      record {
        history = l;
        takes = rw (read ∙ get_or_default old j d l lt) at (rw is at t);
        becomes = becomes;
      }

  -- one more item, put into the lane whose turn it is, is dealt out in turn
  pub dealt_offer : (w : ℕ) (xs : List T) (x : T) (old : List (History T)) (j : ℕ)
      (k d l : History T) → IsDealt w xs old → k ≡ get_or old j d → l ≡ with_item k x → j < w →
      j ≡ length xs % w → IsDealt w (xs ++ x ∷ []) (set old j l)
  dealt_offer w xs x old j k d l h read sent lt turn =
      let within : j < length old = omega (arith, h.lanes) in
      let here : l.items ≡ every j w (xs ++ x ∷ []) = ap (λ m. m.items) sent
      ∙ ap (λ m. m.items ++ x ∷ []) read ∙ ap (λ ys. ys ++ x ∷ []) (h.items j d lt)
      ∙ sym (every_here xs x j w lt (sym turn)) in
      record {
        lanes = length-set old j l ∙ h.lanes;
        items = λ i e below. set_at old j i l e (λ m. m.items ≡ every i w (xs ++ x ∷ [])) within
            (λ q. subst (λ (n : ℕ). l.items ≡ every n w (xs ++ x ∷ [])) (sym q) here)
            (λ n. h.items i e below ∙ sym (every_there xs x i w below (λ m. n (sym m ∙ sym turn))));
      }

  -- one more item, taken from the lane whose turn it is, is the next that was dealt out
  pub dealt_item : (w : ℕ) (xs : List T) (x : T) (old new : List (History T)) (j : ℕ) →
      IsDealt w xs old → TakesAt (Item x) old new j → j < w → j ≡ length xs % w →
      IsDealt w (xs ++ x ∷ []) new
  dealt_item w xs x old new j h t lt turn =
      rw t.becomes (dealt_offer w xs x old j (get_or old j t.history) t.history t.history h refl
      t.takes.1 lt turn)

  -- what came first has been written
  pub begun_takes : (w : ℕ) (r : Taken T) (xs : List T) (old new : List (History T)) (j : ℕ) →
      IsBegun w xs old → TakesAt r old new j → j < w → IsBegun w xs new
  begun_takes w r xs old new j h t lt =
      let within : j < length old = omega (arith, h.lanes) in
      record {
        lanes = takes_length r old new j t ∙ h.lanes;
        begins = λ i d below. prefix_trans _ _ _ (h.begins i d below)
            (takes_follow r old new j t within i d).begins;
      }
