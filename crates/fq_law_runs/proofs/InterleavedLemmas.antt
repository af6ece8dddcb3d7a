-- The pairs of the lines of an interleaved text that pair up without a fault, and of more lines
-- after them.
use Rattle.std.proofs.Common.{◌≡◌, ℕ, zero, suc, ◌+◌, ◌<◌, Bool, Some, None, List, ◌++◌, length, refl, ap, sym, ◌∙◌, add-zero, arith, ⊎_elim}
use Rattle.std.proofs.lemmas.Bool.{cond-true, cond-false, cases_Bool}
use Rattle.fq_text.specs.declared.encoding.Encoding.{Encoding}
use Rattle.fq_text.specs.Grammar.{Read, Front, End, Faulty, Found, front}
use Rattle.fq_text.proofs.RecordsLemmas.{fewer_lines}
use Rattle.fq_pair.specs.declared.fault.InputFault.{InputFault}
use Rattle.fq_pair.specs.declared.fault.InputFault.TheVariants.{NamesDiffer}
use Rattle.fq_pair.specs.Mates.{mates_in}
use Rattle.fq_pair.specs.Pairing.{Pairs, belong, Stopped, Met, with_pair}
use Rattle.fq_pair.specs.Interleaved.{interleaved_pairs_of, meeting_after, interleaved_meeting, interleaved_front}
use Rattle.fq_pair.proofs.PairLaws.{records_of, from_pair_front}
use Rattle.fq_pair.proofs.InterleavedLaws.{interleaved_pairs_of-front, interleaved_pairs_of-met, interleaved_pairs_of-stopped, interleaved_pairs_of-ended}
use Rattle.fq_pair.proofs.FrontLemmas.{front_more}
use Rattle.fq_law_runs.specs.Parts.{pairs_then}
use Rattle.fq_law_runs.proofs.FrontLemmas.{front_after}

module _ (check : Bool) (e : Encoding) (more : List (List ℕ)) where
  abbrev pairs_at : ℕ → List (List ℕ) → Pairs
  pairs_at k ls = interleaved_pairs_of check k (records_of e ls)

  -- the pairs of the first part, and then those of the rest
  abbrev with_more : ℕ → Pairs → Pairs
  with_more k p = pairs_then p (pairs_at (k + length p.mates) more)

  abbrev Again : ℕ → Type 0
  Again n = (j : ℕ) (rest : List (List ℕ)) → length rest < n → (pairs_at j rest).fault ≡ None →
      pairs_at j (rest ++ more) ≡ with_more j (pairs_at j rest)

  -- if lines of an interleaved text pair up without a fault, the pairs of more lines come after
  pub one_joined : (n k : ℕ) (ls : List (List ℕ)) → length ls < n →
      (pairs_at k ls).fault ≡ None → pairs_at k (ls ++ more) ≡ with_more k (pairs_at k ls)
  one_joined zero k ls small none = absurd (omega arith)
  one_joined (suc n) k ls small none =
      by_front (λ j rest fewer sound. one_joined n j rest fewer sound) (front e ls) refl
    where
      stopped : (y : InputFault) → interleaved_front check e k ls ≡ Stopped y → ⊥
      stopped y is =
          let here = interleaved_pairs_of-stopped check e k ls y is in
          let h : Some y ≡ None = sym (ap (λ (p : Pairs). p.fault) here) ∙ none in cc

      meets : (A : Front) → front e ls ≡ A →
          interleaved_front check e k ls ≡ interleaved_meeting check e (suc k) A
      meets A a = ap (interleaved_meeting check e (suc k)) a

      meets_more : (A : Front) → front e (ls ++ more) ≡ A →
          interleaved_front check e k (ls ++ more) ≡ interleaved_meeting check e (suc k) A
      meets_more A a = ap (interleaved_meeting check e (suc k)) a

      -- after a forward mate
      by_second : Again n → (f : Read) (fls : List (List ℕ)) → front e ls ≡ Found f fls →
          (B : Front) → front e fls ≡ B →
          pairs_at k (ls ++ more) ≡ with_more k (pairs_at k ls)
      by_second again f fls a End b =
          absurd (stopped _ (meets (Found f fls) a ∙ ap (meeting_after check (suc k) f) b))
      by_second again f fls a (Faulty y) b =
          absurd (stopped _ (meets (Found f fls) a ∙ ap (meeting_after check (suc k) f) b))
      by_second again f fls a (Found r rls) b =
          let m = mates_in f r in
          let differ = Stopped (NamesDiffer (suc k)) in
          let after = meeting_after check (suc k) f in
          let met_here = meets (Found f fls) a ∙ ap after b in
          ⊎_elim
          (λ together.
          let here = interleaved_pairs_of-met check e k m ls rls rls
          (met_here ∙ cond-true (belong check m) (Met m rls rls) differ together) in
          let there = interleaved_pairs_of-met check e k m (ls ++ more) (rls ++ more) (rls ++ more)
          (meets_more (Found f (fls ++ more)) (front_more more e f fls ls a)
          ∙ ap after (front_more more e r rls fls b)
          ∙ cond-true (belong check m) (Met m (rls ++ more) (rls ++ more)) differ together) in
          let fewer_f = fewer_lines e ls f fls a in
          let fewer_r = fewer_lines e fls r rls b in
          let rest = pairs_at (suc k) rls in
          let sound : rest.fault ≡ None = sym (ap (λ (p : Pairs). p.fault) here) ∙ none in
          let number : suc k + length rest.mates ≡ k + suc (length rest.mates) = omega arith in
          there
          ∙ ap (with_pair m) (again (suc k) rls (omega arith) sound)
          ∙ ap (λ (j : ℕ). with_pair m (pairs_then rest (pairs_at j more))) number
          ∙ ap (with_more k) (sym here))
          (λ apart. absurd (stopped _
          (met_here ∙ cond-false (belong check m) (Met m rls rls) differ apart)))
          (cases_Bool (belong check m))

      by_front : Again n → (A : Front) → front e ls ≡ A →
          pairs_at k (ls ++ more) ≡ with_more k (pairs_at k ls)
      by_front again (Faulty x) a = absurd (stopped _ (meets (Faulty x) a))
      by_front again End a =
          let here = interleaved_pairs_of-ended check e k ls (meets End a) in
          let next : List (List ℕ) → List (List ℕ) → Pairs = λ fs rs. pairs_at (suc k) fs in
          interleaved_pairs_of-front check e k (ls ++ more)
          ∙ ap (from_pair_front next) (meets_more (front e more) (front_after e ls more a))
          ∙ sym (interleaved_pairs_of-front check e k more)
          ∙ ap (λ (j : ℕ). pairs_at j more) (sym (add-zero k))
          ∙ ap (with_more k) (sym here)
      by_front again (Found f fls) a = by_second again f fls a (front e fls) refl
