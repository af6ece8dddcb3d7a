-- The pairs of an interleaved text begin with the pair that comes first in it, and so do the pairs
-- that are left to a source.
use Rattle.std.proofs.Common.{◌≡◌, ℕ, suc, ◌+◌, ◌*◌, Bool, Some, None, List, [], ◌∷◌, length, take_while, ap, sym, ◌∙◌, add-zero, add-one, arith, ⊎_elim}
use Rattle.std.proofs.lemmas.Bool.{cond-true, cond-false, cases_Bool}
use Rattle.std.proofs.lemmas.List.Sums.{take_while-cons}
use Rattle.std.proofs.lemmas.Grind.{common_steps}
use Rattle.fq_text.specs.Devices.{FeedState}
use Rattle.fq_text.specs.declared.encoding.Encoding.{Encoding}
use Rattle.fq_text.specs.Grammar.{Read, Front, front}
use Rattle.fq_text.specs.Lines.{lines}
use Rattle.fq_text.specs.Records.{Records, with_first, from_front}
use Rattle.fq_text.specs.Sources.{rest_in}
use Rattle.fq_pair.specs.declared.fault.InputFault.{InputFault}
use Rattle.fq_pair.specs.declared.fault.InputFault.TheVariants.{NamesDiffer}
use Rattle.fq_pair.specs.Mates.{Mates, mates_in}
use Rattle.fq_pair.specs.Pairing.{Pairs, belong, behind, PairFront, Ended, Stopped, Met, met, with_pair}
use Rattle.fq_pair.specs.Interleaved.{interleaved_mates, interleaved_fault_at, interleaved_pairs_of, meeting_after, interleaved_meeting, interleaved_front}
use Rattle.fq_pair.specs.InterleavedSources.{InterleavedSourced, front_of, pairs_left}
use Rattle.fq_pair.proofs.PairLaws.{records_of, from_pair_front, records_of-front}

-- the pairs of a text, if these mates belong together
abbrev up_to : List Mates → ℕ → Records → Pairs
up_to mates k text =
    record {
      mates = mates;
      fault = interleaved_fault_at (suc (k + length mates))
          (behind (2 * length mates) text);
    }

-- no pair, and this fault at number n
abbrev none_at : ℕ → Records → Pairs
none_at n text = record { mates = []; fault = interleaved_fault_at (suc n) (behind 0 text) }

none_up_to : (k : ℕ) (text : Records) → up_to [] k text ≡ none_at k text
none_up_to k text = ap (λ (n : ℕ). none_at n text) (add-zero k)

one_up_to : (m : Mates) (ms : List Mates) (k : ℕ) (f r : Read) (text : Records) →
    up_to (m ∷ ms) k (with_first f (with_first r text)) ≡ with_pair m (up_to ms (suc k) text)
one_up_to m ms k f r text =
    let records : 2 * suc (length ms) ≡ suc (suc (2 * length ms)) = omega arith in
    grind (arith, common_steps)

module _ (check : Bool) (k : ℕ) (T : List (List ℕ) → Records) where
  abbrev others : List (List ℕ) → List (List ℕ) → Pairs
  others fs rs = interleaved_pairs_of check (suc k) (T fs)

  two_found : (f r : Read) (ls : List (List ℕ)) →
      interleaved_pairs_of check k (with_first f (with_first r (T ls)))
      ≡ from_pair_front others (met check (suc k) (mates_in f r) ls ls)
  two_found f r ls =
      let m = mates_in f r in
      let ms = interleaved_mates (T ls).reads in
      let P : List Mates → Pairs = λ mates. up_to mates k (with_first f (with_first r (T ls))) in
      let Q : PairFront → Pairs = from_pair_front others in
      ap P (take_while-cons (belong check) m ms) ∙ ⊎_elim
      (λ together. ap P (cond-true (belong check m) (m ∷ take_while (belong check) ms) [] together)
      ∙ one_up_to m (take_while (belong check) ms) k f r (T ls)
      ∙ ap Q (sym (cond-true (belong check m) (Met m ls ls) (Stopped (NamesDiffer (suc k)))
      together)))
      (λ apart. ap P (cond-false (belong check m) (m ∷ take_while (belong check) ms) [] apart)
      ∙ none_up_to k (with_first f (with_first r (T ls)))
      ∙ ap Q (sym (cond-false (belong check m) (Met m ls ls) (Stopped (NamesDiffer (suc k)))
      apart)))
      (cases_Bool (belong check m))

  -- after a forward mate
  one_found : (f : Read) (A : Front) → interleaved_pairs_of check k (with_first f (from_front T A))
      ≡ from_pair_front others (meeting_after check (suc k) f A)
  one_found f A = grind (arith, common_steps, none_up_to, two_found)

module _ (check : Bool) (e : Encoding) (k : ℕ) where
  by_front : (A : Front) → interleaved_pairs_of check k (from_front (records_of e) A)
      ≡ from_pair_front (λ fs rs. interleaved_pairs_of check (suc k) (records_of e fs))
      (interleaved_meeting check e (suc k) A)
  by_front A = grind (arith, common_steps, none_up_to, records_of, records_of-front, one_found)

  -- the pairs of a text are what comes first in it, and the pairs of what comes after that
  pub interleaved_pairs_of-front : (ls : List (List ℕ)) →
      interleaved_pairs_of check k (records_of e ls)
      ≡ from_pair_front (λ fs rs. interleaved_pairs_of check (suc k) (records_of e fs))
      (interleaved_front check e k ls)
  interleaved_pairs_of-front ls = grind (arith, common_steps, records_of-front, by_front)

  -- a pair that comes first is the first one
  pub interleaved_pairs_of-met : (m : Mates) (ls fs rs : List (List ℕ)) →
      interleaved_front check e k ls ≡ Met m fs rs →
      interleaved_pairs_of check k (records_of e ls)
      ≡ with_pair m (interleaved_pairs_of check (suc k) (records_of e fs))
  interleaved_pairs_of-met m ls fs rs is = interleaved_pairs_of-front ls
      ∙ ap (from_pair_front (λ fs rs. interleaved_pairs_of check (suc k) (records_of e fs))) is

  -- if a fault comes first, there is no pair, and the fault ends them
  pub interleaved_pairs_of-stopped : (ls : List (List ℕ)) (fault : InputFault) →
      interleaved_front check e k ls ≡ Stopped fault →
      interleaved_pairs_of check k (records_of e ls) ≡ record { mates = []; fault = Some fault }
  interleaved_pairs_of-stopped ls fault is = interleaved_pairs_of-front ls
      ∙ ap (from_pair_front (λ fs rs. interleaved_pairs_of check (suc k) (records_of e fs))) is

  -- if nothing comes first, there is no pair and no fault
  pub interleaved_pairs_of-ended : (ls : List (List ℕ)) → interleaved_front check e k ls ≡ Ended →
      interleaved_pairs_of check k (records_of e ls) ≡ record { mates = []; fault = None }
  interleaved_pairs_of-ended ls is = grind (arith, common_steps)

module _ {F : Type 0} (state : F → FeedState) (old : InterleavedSourced F) where
  abbrev text : List (List ℕ)
  text = lines (rest_in state old.source)

  -- a pair that comes first is the first of those left, and the others are left after it
  pub interleaved_left_met : (new : InterleavedSourced F) (m : Mates) →
      new.source.encoding ≡ old.source.encoding → new.check_names ≡ old.check_names →
      new.given ≡ old.given + 1 →
      (let ls = lines (rest_in state new.source) in front_of state old ≡ Met m ls ls) →
      pairs_left state old ≡ with_pair m (pairs_left state new)
  interleaved_left_met new m encoding check_names given front =
      let ls = lines (rest_in state new.source) in
      rw (encoding, check_names, given, add-one) (interleaved_pairs_of-met old.check_names
      old.source.encoding old.given m text ls ls front)

  -- if a fault comes first, no pair is left, and the pairs end with it
  pub interleaved_left_stopped : (why : InputFault) → front_of state old ≡ Stopped why →
      pairs_left state old ≡ record { mates = []; fault = Some why }
  interleaved_left_stopped why front = interleaved_pairs_of-stopped old.check_names
      old.source.encoding old.given text why front
