-- The pairs of two texts begin with the pair that comes first in them.
use Rattle.std.proofs.Common.{◌≡◌, ℕ, suc, ◌+◌, Bool, Some, None, List, [], ◌∷◌, length, take_while, refl, ap, sym, ◌∙◌, add-zero, arith, ⊎_elim}
use Rattle.std.proofs.lemmas.Bool.{cond-true, cond-false, cases_Bool}
use Rattle.std.proofs.lemmas.List.Sums.{take_while-cons}
use Rattle.std.proofs.lemmas.Grind.{common_steps}
use Rattle.fq_text.specs.declared.encoding.Encoding.{Encoding}
use Rattle.fq_text.specs.Grammar.{Read, Front, front}
use Rattle.fq_text.specs.Records.{Records, with_first, from_front, records_within}
use Rattle.fq_text.proofs.RecordsLemmas.{fewer_lines, room_enough}
use Rattle.fq_pair.specs.declared.fault.InputFault.{InputFault}
use Rattle.fq_pair.specs.declared.fault.InputFault.TheVariants.{NamesDiffer}
use Rattle.fq_pair.specs.Mates.{Mates, mates_in}
use Rattle.fq_pair.specs.Pairing.{Pairs, mates_of, belong, fault_at, behind, pairs_of, PairFront, Ended, Stopped, Met, met, meeting, pair_front, with_pair}

-- the records of a list of lines
abbrev pub records_of : Encoding → List (List ℕ) → Records
records_of encoding ls = records_within (suc (length ls)) encoding ls

-- the pairs if this comes first, and others after it
abbrev pub from_pair_front : (List (List ℕ) → List (List ℕ) → Pairs) → PairFront → Pairs
from_pair_front others Ended = record { mates = []; fault = None }
from_pair_front others (Stopped fault) = record { mates = []; fault = Some fault }
from_pair_front others (Met m forward reverse) = with_pair m (others forward reverse)

module _ (e : Encoding) (ls : List (List ℕ)) where
  room_behind : (f : Front) → front e ls ≡ f →
      from_front (records_within (length ls) e) f ≡ from_front (records_of e) f
  room_behind f is = grind (arith, common_steps, fewer_lines, room_enough)

  -- the records of a text begin with the one that comes first
  pub records_of-front : records_of e ls ≡ from_front (records_of e) (front e ls)
  records_of-front = room_behind (front e ls) refl

-- the pairs of two texts, if these mates belong together
abbrev up_to : List Mates → ℕ → Records → Records → Pairs
up_to mates k forward reverse =
    record {
      mates = mates;
      fault = fault_at (suc (k + length mates))
          (behind (length mates) forward) (behind (length mates) reverse);
    }

-- no pair, and this fault at number n
abbrev none_at : ℕ → Records → Records → Pairs
none_at n forward reverse =
    record { mates = []; fault = fault_at (suc n) (behind 0 forward) (behind 0 reverse) }

none_up_to : (k : ℕ) (forward reverse : Records) →
    up_to [] k forward reverse ≡ none_at k forward reverse
none_up_to k forward reverse = ap (λ (n : ℕ). none_at n forward reverse) (add-zero k)

one_up_to : (m : Mates) (ms : List Mates) (k : ℕ) (f r : Read) (forward reverse : Records) →
    up_to (m ∷ ms) k (with_first f forward) (with_first r reverse)
    ≡ with_pair m (up_to ms (suc k) forward reverse)
one_up_to m ms k f r forward reverse = grind (arith, common_steps)

module _ (check : Bool) (k : ℕ) (F G : List (List ℕ) → Records) where
  two_found : (f r : Read) (fls rls : List (List ℕ)) →
      pairs_of check k (with_first f (F fls)) (with_first r (G rls))
      ≡ from_pair_front (λ fs rs. pairs_of check (suc k) (F fs) (G rs))
      (met check (suc k) (mates_in f r) fls rls)
  two_found f r fls rls =
      let m = mates_in f r in
      let ms = mates_of (F fls).reads (G rls).reads in
      let P : List Mates → Pairs = λ mates. up_to mates k (with_first f (F fls))
      (with_first r (G rls)) in
      let Q : PairFront → Pairs = from_pair_front (λ fs rs. pairs_of check (suc k) (F fs) (G rs)) in
      ap P (take_while-cons (belong check) m ms) ∙ ⊎_elim
      (λ together. ap P (cond-true (belong check m) (m ∷ take_while (belong check) ms) [] together)
      ∙ one_up_to m (take_while (belong check) ms) k f r (F fls) (G rls)
      ∙ ap Q (sym (cond-true (belong check m) (Met m fls rls) (Stopped (NamesDiffer (suc k)))
      together)))
      (λ apart. ap P (cond-false (belong check m) (m ∷ take_while (belong check) ms) [] apart)
      ∙ none_up_to k (with_first f (F fls)) (with_first r (G rls))
      ∙ ap Q (sym (cond-false (belong check m) (Met m fls rls) (Stopped (NamesDiffer (suc k)))
      apart)))
      (cases_Bool (belong check m))

  by_fronts : (A B : Front) → pairs_of check k (from_front F A) (from_front G B) ≡ from_pair_front
      (λ fs rs. pairs_of check (suc k) (F fs) (G rs)) (meeting check (suc k) A B)
  by_fronts A B = grind (arith, common_steps, none_up_to, two_found)

module _ (check : Bool) (e : Encoding) (k : ℕ) (forward reverse : List (List ℕ)) where
  -- the pairs of two texts are what comes first in them, and the pairs of what comes after that
  pub pairs_of-front : pairs_of check k (records_of e forward) (records_of e reverse)
      ≡ from_pair_front (λ fs rs. pairs_of check (suc k) (records_of e fs) (records_of e rs))
      (pair_front check e k forward reverse)
  pairs_of-front = grind (arith, common_steps, records_of-front, by_fronts)

  -- a pair that comes first is the first one
  pub pairs_of-met : (m : Mates) (fs rs : List (List ℕ)) →
      pair_front check e k forward reverse ≡ Met m fs rs →
      pairs_of check k (records_of e forward) (records_of e reverse)
      ≡ with_pair m (pairs_of check (suc k) (records_of e fs) (records_of e rs))
  pairs_of-met m fs rs is = grind (arith, common_steps, pairs_of-front)

  -- if a fault comes first, there is no pair, and the fault ends them
  pub pairs_of-stopped : (fault : InputFault) →
      pair_front check e k forward reverse ≡ Stopped fault →
      pairs_of check k (records_of e forward) (records_of e reverse) ≡ record {
        mates = [];
        fault =
            Some fault;
      }
  pairs_of-stopped fault is = grind (arith, common_steps)

  -- if nothing comes first, there is no pair and no fault
  pub pairs_of-ended : pair_front check e k forward reverse ≡ Ended →
      pairs_of check k (records_of e forward) (records_of e reverse) ≡ record {
        mates = [];
        fault =
            None;
      }
  pairs_of-ended is = grind (arith, common_steps)
