-- The pairs of texts that came only in part.
use Rattle.std.proofs.Common.{arith, ◌≡◌, ℕ, suc, Bool, true, List, ◌++◌, ap, sym, ◌∙◌, ◌+◌, ◌≤◌, [], ◌∷◌, length, refl, subst, append_assoc}
use Rattle.std.proofs.lemmas.Bool.{cond-true}
use Rattle.std.proofs.lemmas.Grind.{common_steps}
use Rattle.fq_text.specs.declared.encoding.Encoding.{Encoding}
use Rattle.fq_text.specs.Grammar.{Read, Front, End, Faulty, Found, front}
use Rattle.fq_pair.specs.Mates.{Mates, mates_in}
use Rattle.fq_pair.specs.Pairing.{belong, Stopped, Met, meeting, pair_front, Pairs, PairFront, Ended}
use Rattle.fq_pair.specs.Interleaved.{meeting_after, interleaved_meeting, interleaved_front, side_after}
use Rattle.fq_pair.specs.declared.fault.InputFault.TheVariants.{NamesDiffer}
use Rattle.fq_pair.proofs.FrontLemmas.{front_more}
use Rattle.std.proofs.lemmas.List.{append_cancel_right}
use Rattle.fq_pair.specs.Forms.{TwoTexts, InterleavedText}
use Rattle.fq_pair.specs.Walks.{Leads}
use Rattle.fq_pair.proofs.PairLaws.{records_of, pairs_of-met}
use Rattle.fq_pair.proofs.InterleavedLaws.{interleaved_pairs_of-met, interleaved_pairs_of-stopped, interleaved_pairs_of-ended}
use Rattle.fq_run_core.proofs.FormLemmas.{pairs_at}
use Rattle.fq_pair.proofs.TakenLemmas.{front_takes, front_fewer, one_record}

-- A pair at the beginning of lists of lines is still there if more lines follow.

-- two records that make a pair
record Meets (check : Bool) (m : Mates) (fs rs : List (List ℕ)) (forward reverse : Front) : Type 0
  where
    f : Read
    r : Read
    first : forward ≡ Found f fs
    second : reverse ≡ Found r rs
    together : belong check (mates_in f r) ≡ true
    pair : mates_in f r ≡ m

meets : (check : Bool) (n : ℕ) (m : Mates) (fs rs : List (List ℕ)) (forward reverse : Front) →
    meeting check n forward reverse ≡ Met m fs rs → Meets check m fs rs forward reverse
meets check n m fs rs (Found f gs) (Found r qs) is = grind (arith, common_steps)
meets check n m fs rs End (Found r qs) is = absurd cc
meets check n m fs rs _ _ is = absurd cc

-- a pair at the beginning of two lists of lines is still there if more lines follow each
pub met_more : (check : Bool) (e : Encoding) (n : ℕ) (m : Mates)
    (forward reverse fs rs more more' : List (List ℕ)) →
    pair_front check e n forward reverse ≡ Met m fs rs →
    pair_front check e n (forward ++ more) (reverse ++ more') ≡ Met m (fs ++ more) (rs ++ more')
met_more check e n m forward reverse fs rs more more' is =
    let p = meets check (suc n) m fs rs (front e forward) (front e reverse) is in
    ap (λ x. meeting check (suc n) x (front e (reverse ++ more')))
    (front_more more e p.f fs forward p.first)
    ∙ ap (meeting check (suc n) (Found p.f (fs ++ more)))
    (front_more more' e p.r rs reverse p.second)
    ∙ cond-true (belong check (mates_in p.f p.r))
    (Met (mates_in p.f p.r) (fs ++ more) (rs ++ more')) (Stopped (NamesDiffer (suc n)))
    p.together
    ∙ ap (λ x. Met x (fs ++ more) (rs ++ more')) p.pair

-- two records that make a pair, one after the other
pub record MeetsInterleaved (check : Bool) (e : Encoding) (m : Mates) (fs rs : List (List ℕ))
    (x : Front) : Type 0 where
  -- the forward record
  pub f : Read
  -- the reverse record
  pub r : Read
  -- the lines after the forward record
  pub ls : List (List ℕ)
  pub first : x ≡ Found f ls
  pub second : front e ls ≡ Found r fs
  -- the lines after the pair are left to both sides
  pub same : rs ≡ fs
  pub together : belong check (mates_in f r) ≡ true
  pub pair : mates_in f r ≡ m

-- if a pair comes first in an interleaved text, so do the two records that make it
pub meets_interleaved : (check : Bool) (e : Encoding) (n : ℕ) (m : Mates) (fs rs : List (List ℕ))
    (x : Front) → interleaved_meeting check e n x ≡ Met m fs rs → MeetsInterleaved check e m fs rs x
meets_interleaved check e n m fs rs End is = absurd cc
meets_interleaved check e n m fs rs (Faulty x) is = absurd cc
meets_interleaved check e n m fs rs (Found f ls) is = grind (arith, common_steps)

-- a pair at the beginning of the lines of an interleaved text is still there if more follow
pub interleaved_met_more : (check : Bool) (e : Encoding) (n : ℕ) (m : Mates)
    (ls fs rs more : List (List ℕ)) → interleaved_front check e n ls ≡ Met m fs rs →
    interleaved_front check e n (ls ++ more) ≡ Met m (fs ++ more) (rs ++ more)
interleaved_met_more check e n m ls fs rs more is =
    let p = meets_interleaved check e (suc n) m fs rs (front e ls) is in
    ap (interleaved_meeting check e (suc n)) (front_more more e p.f p.ls ls p.first)
    ∙ ap (meeting_after check (suc n) p.f) (front_more more e p.r fs p.ls p.second)
    ∙ cond-true (belong check (mates_in p.f p.r)) (Met (mates_in p.f p.r) (fs ++ more) (fs ++ more))
    (Stopped (NamesDiffer (suc n))) p.together
    ∙ ap (λ x. Met x (fs ++ more) (fs ++ more)) p.pair
    ∙ ap (λ xs. Met m (fs ++ more) (xs ++ more)) (sym p.same)

module _ (check : Bool) (e : Encoding) where
  -- the pairs of the lines of two texts, after n pairs given
  abbrev pub mates_at : ℕ → List (List ℕ) → List (List ℕ) → List Mates
  mates_at n forward reverse = (pairs_at TwoTexts check e n forward reverse).mates

  -- without forward lines there is no pair
  pub no_forward : (n : ℕ) (reverse : List (List ℕ)) → mates_at n [] reverse ≡ []
  no_forward n reverse = grind (arith, common_steps)

  -- without reverse lines there is no pair
  pub no_reverse : (n : ℕ) (forward : List (List ℕ)) → mates_at n forward [] ≡ []
  no_reverse n forward = grind (arith, common_steps)

  module _ (more more' : List (List ℕ)) where
    -- what is known of the lines that are left
    abbrev LeavesNone : ℕ → List (List ℕ) → List (List ℕ) → Type 0
    LeavesNone n forward reverse = (fs rs : List (List ℕ)) → fs ++ more ≡ forward →
        rs ++ more' ≡ reverse → length (mates_at n fs rs) ≤ 0

    -- one more pair, if it comes first
    one_more : (n : ℕ) (m : Mates) (ms : List Mates)
        (forward reverse forward' reverse' gs qs : List (List ℕ)) →
        pair_front check e n (forward ++ more) (reverse ++ more') ≡ Met m gs qs →
        Leads TwoTexts check e (suc n) ms gs qs forward' reverse' →
        LeavesNone (n + length (m ∷ ms)) forward' reverse' →
        ((fs rs : List (List ℕ)) → Leads TwoTexts check e (suc n) ms (fs ++ more) (rs ++ more')
        forward' reverse' → LeavesNone (suc n + length ms) forward' reverse' →
        length (mates_at (suc n) fs rs) ≤ length ms) →
        (x : PairFront) → pair_front check e n forward reverse ≡ x →
        length (mates_at n forward reverse) ≤ length (m ∷ ms)
    one_more n m ms forward reverse forward' reverse' gs qs first p none then Ended is =
        grind (arith, common_steps)
    one_more n m ms forward reverse forward' reverse' gs qs first p none then (Stopped w) is =
        grind (arith, common_steps)
    one_more n m ms forward reverse forward' reverse' gs qs first p none then (Met x fs rs) is =
        grind (arith, common_steps, met_more, pairs_of-met)

    -- the first lines of two texts have at most as many pairs as `ms`, if `ms` leads to lines that
    -- begin with no pair
    pub at_most : (n : ℕ) (ms : List Mates) (forward reverse forward' reverse' : List (List ℕ)) →
        Leads TwoTexts check e n ms (forward ++ more) (reverse ++ more') forward' reverse' →
        LeavesNone (n + length ms) forward' reverse' →
        length (mates_at n forward reverse) ≤ length ms
    at_most n [] forward reverse forward' reverse' p none = grind (arith, common_steps)
    at_most n (m ∷ ms) forward reverse forward' reverse' p none = one_more n m ms forward reverse
        forward' reverse' p.0 p.1 p.2 p.3 none (λ fs rs. at_most (suc n) ms fs rs forward' reverse')
        (pair_front check e n forward reverse) refl

-- An interleaved text.
module _ (check : Bool) (e : Encoding) where
  -- the pairs of the lines of an interleaved text, after n pairs given
  abbrev pub interleaved_at : ℕ → List (List ℕ) → List Mates
  interleaved_at n ls = (pairs_at InterleavedText check e n ls ls).mates

  -- without lines there is no pair
  pub no_interleaved : (n : ℕ) → interleaved_at n [] ≡ []
  no_interleaved n = ap (λ (p : Pairs). p.mates) (interleaved_pairs_of-ended check e n [] refl)

  module _ (more : List (List ℕ)) where
    abbrev InterleavedNone : ℕ → List (List ℕ) → Type 0
    InterleavedNone n ls = (fs : List (List ℕ)) → fs ++ more ≡ ls → length (interleaved_at n fs) ≤ 0

    interleaved_one_more : (n : ℕ) (m : Mates) (ms : List Mates)
        (ls same ls' same' gs qs : List (List ℕ)) →
        interleaved_front check e n (ls ++ more) ≡ Met m gs qs →
        Leads InterleavedText check e (suc n) ms gs qs ls' same' →
        InterleavedNone (n + length (m ∷ ms)) ls' →
        ((fs rs : List (List ℕ)) → Leads InterleavedText check e (suc n) ms (fs ++ more) rs ls'
        same' → InterleavedNone (suc n + length ms) ls' →
        length (interleaved_at (suc n) fs) ≤ length ms) →
        (x : PairFront) → interleaved_front check e n ls ≡ x →
        length (interleaved_at n ls) ≤ length (m ∷ ms)
    interleaved_one_more n m ms ls same ls' same' gs qs first p none then Ended is =
        grind (arith, common_steps)
    interleaved_one_more n m ms ls same ls' same' gs qs first p none then (Stopped w) is =
        let h = ap (λ (q : Pairs). length q.mates)
        (interleaved_pairs_of-stopped check e n ls w is) in omega arith
    interleaved_one_more n m ms ls same ls' same' gs qs first p none then (Met x fs rs) is =
        let longer = interleaved_met_more check e n x ls fs rs more is in
        let both : Met x (fs ++ more) (rs ++ more) ≡ Met m gs qs = sym longer ∙ first in
        let f : gs ≡ fs ++ more = cc in
        let number : n + suc (length ms) ≡ suc n + length ms = omega arith in
        let rest = then fs qs (rw f at p)
        (subst (λ (k : ℕ). InterleavedNone k ls') number none) in
        let h = ap (λ (q : Pairs). length q.mates)
        (interleaved_pairs_of-met check e n x ls fs rs is) in omega arith

    -- `at_most` for one text: its first lines have at most as many pairs as `ms`
    pub interleaved_at_most : (n : ℕ) (ms : List Mates) (ls same ls' same' : List (List ℕ)) →
        Leads InterleavedText check e n ms (ls ++ more) same ls' same' →
        InterleavedNone (n + length ms) ls' → length (interleaved_at n ls) ≤ length ms
    interleaved_at_most n [] ls same ls' same' p none = grind (arith, common_steps)
    interleaved_at_most n (m ∷ ms) ls same ls' same' p none = interleaved_one_more n m ms ls same
        ls' same' p.0 p.1 p.2 p.3 none (λ fs rs. interleaved_at_most (suc n) ms fs rs ls' same')
        (interleaved_front check e n ls) refl

-- The records of the first lines of an interleaved text, up to the lines after its pairs.
module _ (check : Bool) (e : Encoding) where
  -- the lines that are left after the pairs are the end of the lines before
  leads_end : (n : ℕ) (ms : List Mates) (ls same ls' same' : List (List ℕ)) →
      Leads InterleavedText check e n ms ls same ls' same' →
      (before : List (List ℕ)) × (ls ≡ before ++ ls')
  leads_end n [] ls same ls' same' p = ([], p.0)
  leads_end n (m ∷ ms) ls same ls' same' p =
      let q = meets_interleaved check e (suc n) m p.0 p.1 (front e ls) p.2 in
      let f = front_takes e q.f ls q.ls q.first in let r = front_takes e q.r q.ls p.0 q.second in
      let behind = leads_end (suc n) ms p.0 p.1 ls' same' p.3 in (
        f.taken ++ (r.taken ++ behind.0),
        f.split ∙ ap (λ xs. f.taken ++ xs) (r.split ∙ ap (λ xs. r.taken ++ xs) behind.1
            ∙ sym (append_assoc r.taken behind.0 ls'))
            ∙ sym (append_assoc f.taken (r.taken ++ behind.0) ls'),
      )

  module _ (more behind : List (List ℕ)) where
    -- two records to a pair leave the turn of the sides as it was
    pub turn_kept : (n : ℕ) (ms : List Mates) (ls same same' : List (List ℕ)) →
        Leads InterleavedText check e n ms (ls ++ more) same (behind ++ more) same' →
        side_after (length (records_of e ls).reads)
        ≡ side_after (length (records_of e behind).reads)
    turn_kept n [] ls same same' p = grind (arith, common_steps, records_of, append_cancel_right)
    turn_kept n (m ∷ ms) ls same same' p =
        let q = meets_interleaved check e (suc n) m p.0 p.1 (front e (ls ++ more)) p.2 in
        let last = leads_end (suc n) ms p.0 p.1 (behind ++ more) same' p.3 in
        let fs = last.0 ++ behind in
        let left : p.0 ≡ fs ++ more = last.1 ∙ sym (append_assoc last.0 behind more) in
        let r = front_takes e q.r q.ls p.0 q.second in
        let rs = r.taken ++ fs in
        let between : q.ls ≡ rs ++ more = r.split ∙ ap (λ xs. r.taken ++ xs) left
        ∙ sym (append_assoc r.taken fs more) in
        let first = front_fewer e q.f ls rs more (q.first ∙ ap (Found q.f) between) in
        let P : List (List ℕ) → Type 0 = λ xs. Leads InterleavedText check e (suc n) ms xs p.1
        (behind ++ more) same' in
        ap side_after (one_record e q.f ls rs first ∙ ap suc (one_record e q.r rs fs (r.always fs)))
        ∙ turn_kept (suc n) ms fs p.1 same' (subst P left p.3)
