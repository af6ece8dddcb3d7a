-- The pairs of two lists of lines that pair up without a fault, and of more lines after them.
use Rattle.std.proofs.Common.{◌≡◌, ℕ, zero, suc, ◌+◌, ◌<◌, Bool, Some, None, List, ◌++◌, length, refl, ap, sym, ◌∙◌, add-zero, arith, ⊎_elim}
use Rattle.std.proofs.lemmas.Bool.{cond-true, cond-false, cases_Bool}
use Rattle.fq_text.specs.declared.encoding.Encoding.{Encoding}
use Rattle.fq_text.specs.Grammar.{Front, End, Faulty, Found, front}
use Rattle.fq_text.proofs.RecordsLemmas.{fewer_lines}
use Rattle.fq_pair.specs.declared.fault.InputFault.{InputFault}
use Rattle.fq_pair.specs.declared.fault.InputFault.TheVariants.{NamesDiffer}
use Rattle.fq_pair.specs.Mates.{mates_in}
use Rattle.fq_pair.specs.Pairing.{Pairs, pairs_of, belong, Stopped, Met, meeting, pair_front, with_pair}
use Rattle.fq_pair.proofs.PairLaws.{records_of, from_pair_front, pairs_of-front, pairs_of-met, pairs_of-stopped, pairs_of-ended}
use Rattle.fq_pair.proofs.FrontLemmas.{front_more}
use Rattle.fq_law_runs.specs.Parts.{pairs_then}
use Rattle.fq_law_runs.proofs.FrontLemmas.{front_after}
use Rattle.std.proofs.lemmas.Grind.{common_steps}

module _ (check : Bool) (e : Encoding) (more_f more_r : List (List ℕ)) where
  abbrev pairs_at : ℕ → List (List ℕ) → List (List ℕ) → Pairs
  pairs_at k fs rs = pairs_of check k (records_of e fs) (records_of e rs)

  -- the pairs of the first part, and then those of the rest
  abbrev with_more : ℕ → Pairs → Pairs
  with_more k p = pairs_then p (pairs_at (k + length p.mates) more_f more_r)

  -- if the lines of two texts pair up without a fault, the pairs of more lines come after theirs
  pub parts_joined : (n k : ℕ) (fs rs : List (List ℕ)) → length fs < n →
      (pairs_at k fs rs).fault ≡ None →
      pairs_at k (fs ++ more_f) (rs ++ more_r) ≡ with_more k (pairs_at k fs rs)
  parts_joined zero k fs rs small none = absurd (omega arith)
  parts_joined (suc n) k fs rs small none =
      by_fronts (λ j fls rls fewer sound. parts_joined n j fls rls fewer sound) (front e fs)
      (front e rs) refl refl
    where
      stopped : (y : InputFault) → pair_front check e k fs rs ≡ Stopped y → ⊥
      stopped y is = let h : Some y ≡ None =
          sym (ap (λ (p : Pairs). p.fault) (pairs_of-stopped check e k fs rs y is)) ∙ none in cc

      meets : (A B : Front) → front e fs ≡ A → front e rs ≡ B →
          pair_front check e k fs rs ≡ meeting check (suc k) A B
      meets A B a b = grind (arith, common_steps)

      meets_more : (A B : Front) → front e (fs ++ more_f) ≡ A → front e (rs ++ more_r) ≡ B →
          pair_front check e k (fs ++ more_f) (rs ++ more_r) ≡ meeting check (suc k) A B
      meets_more A B a b = grind (arith, common_steps)

      by_fronts : ((j : ℕ) (fls rls : List (List ℕ)) → length fls < n →
          (pairs_at j fls rls).fault ≡ None →
          pairs_at j (fls ++ more_f) (rls ++ more_r) ≡ with_more j (pairs_at j fls rls)) →
          (A B : Front) → front e fs ≡ A → front e rs ≡ B →
          pairs_at k (fs ++ more_f) (rs ++ more_r) ≡ with_more k (pairs_at k fs rs)
      by_fronts again (Faulty x) B a b = absurd (stopped _ (meets (Faulty x) B a b))
      by_fronts again End (Faulty y) a b = absurd (stopped _ (meets End (Faulty y) a b))
      by_fronts again End (Found r rls) a b = absurd (stopped _ (meets End (Found r rls) a b))
      by_fronts again (Found f fls) End a b = absurd (stopped _ (meets (Found f fls) End a b))
      by_fronts again (Found f fls) (Faulty y) a b =
          absurd (stopped _ (meets (Found f fls) (Faulty y) a b))
      by_fronts again End End a b =
          let here = pairs_of-ended check e k fs rs (meets End End a b) in
          let next : List (List ℕ) → List (List ℕ) → Pairs = λ f r. pairs_at (suc k) f r in
          pairs_of-front check e k (fs ++ more_f) (rs ++ more_r)
          ∙ ap (from_pair_front next) (meets_more (front e more_f) (front e more_r) (front_after e
          fs more_f a) (front_after e rs more_r b))
          ∙ sym (pairs_of-front check e k more_f more_r)
          ∙ ap (λ (j : ℕ). pairs_at j more_f more_r) (sym (add-zero k))
          ∙ ap (with_more k) (sym here)
      by_fronts again (Found f fls) (Found r rls) a b =
          let m = mates_in f r in
          ⊎_elim
          (λ together.
          let here = pairs_of-met check e k fs rs m fls rls (meets (Found f fls) (Found r rls) a b
          ∙ cond-true (belong check m) (Met m fls rls) (Stopped (NamesDiffer (suc k)))
          together) in
          let there = pairs_of-met check e k (fs ++ more_f) (rs ++ more_r) m (fls ++ more_f)
          (rls ++ more_r)
          (meets_more (Found f (fls ++ more_f)) (Found r (rls ++ more_r))
          (front_more more_f e f fls fs a) (front_more more_r e r rls rs b)
          ∙ cond-true (belong check m) (Met m (fls ++ more_f) (rls ++ more_r))
          (Stopped (NamesDiffer (suc k))) together) in
          let fewer = fewer_lines e fs f fls a in
          let rest = pairs_at (suc k) fls rls in
          let sound : rest.fault ≡ None = sym (ap (λ (p : Pairs). p.fault) here) ∙ none in
          let number : suc k + length rest.mates ≡ k + suc (length rest.mates) = omega arith in
          there
          ∙ ap (with_pair m) (again (suc k) fls rls (omega arith) sound)
          ∙ ap (λ (j : ℕ). with_pair m (pairs_then rest (pairs_at j more_f more_r))) number
          ∙ ap (with_more k) (sym here))
          (λ apart. absurd (stopped _ (meets (Found f fls) (Found r rls) a b
          ∙ cond-false (belong check m) (Met m fls rls) (Stopped (NamesDiffer (suc k))) apart)))
          (cases_Bool (belong check m))
