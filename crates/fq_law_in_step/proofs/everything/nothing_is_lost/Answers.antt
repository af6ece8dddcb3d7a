use Rattle.std.proofs.Common.{Bool, List, take_while, ◌≡◌, ◌+◌, [], ◌∷◌, ◌++◌, length, drop, refl, ap, ⊎_elim, Option, Some, None, ℕ, suc, ◌*◌, arith}
use Rattle.std.proofs.lemmas.Bool.{cases_Bool}
use Rattle.std.proofs.lemmas.List.Sums.{take_while-cons}
use Rattle.fq_text.specs.Grammar.{Read}
use Rattle.fq_pair.specs.Mates.{Mates, mates_in}
use Rattle.fq_pair.specs.Pairing.{mates_of, belong, fault_at, first_fault, text_fault}
use Rattle.fq_law_in_step.specs.InStep.{forward_reads, reverse_reads}
use Rattle.std.specs.Option.{option_map}
use Rattle.fq_text.specs.declared.fault.TextFault.{TextFault}
use Rattle.fq_text.specs.Records.{Records, records}
use Rattle.fq_text.specs.Sources.{numbered}
use Rattle.fq_pair.specs.declared.side.Side.{Side}
use Rattle.fq_pair.specs.declared.side.Side.TheVariants.{Forward, Reverse}
use Rattle.fq_pair.specs.declared.fault.InputFault.{InputFault}
use Rattle.fq_law_in_step.specs.Everything.{alternating}
use Rattle.fq_pair.specs.Interleaved.{interleaved_mates, interleaved_fault_at}
use Rattle.fq_law_in_step.proofs.everything.nothing_is_lost.Goals as goal
use Rattle.std.proofs.lemmas.Grind.{common_steps}

-- if a text has no next record and there is no fault, the text has none
ends : {A : Type 0} (side : Side) (h : A → TextFault) (o : Option A) (later : Option InputFault) →
    first_fault (text_fault side [] (option_map h o)) later ≡ None → (o ≡ None) × (later ≡ None)
ends side h (Some x) later is = absurd (cc is)
ends side h None later is = (refl, is)

module _ (check : Bool) where
  abbrev taken : List Read → List Read → List Mates
  taken fs rs = take_while (belong check) (mates_of fs rs)

  forward_split : (fs rs : List Read) → fs ≡ forward_reads (taken fs rs) ++ drop
      (length (taken fs rs)) fs
  forward_split [] rs = refl
  forward_split (f ∷ fs) [] = refl
  forward_split (f ∷ fs) (r ∷ rs) =
      grind (arith, common_steps, take_while-cons, take_while, cases_Bool, forward_split fs rs)

  reverse_split : (fs rs : List Read) → rs ≡ reverse_reads (taken fs rs) ++ drop
      (length (taken fs rs)) rs
  reverse_split [] rs = refl
  reverse_split (f ∷ fs) [] = refl
  reverse_split (f ∷ fs) (r ∷ rs) =
      grind (arith, common_steps, take_while-cons, take_while, cases_Bool, reverse_split fs rs)

-- without a fault nothing is left of either text
record IsOver (xs ys : List Read) (f r : Records) : Type 0 where
  pub forward : xs ≡ []
  pub reverse : ys ≡ []
  pub forward_fault : f.fault ≡ None
  pub reverse_fault : r.fault ≡ None

over : (n : ℕ) (xs ys : List Read) (f r : Records) →
    fault_at n (record f { reads = xs }) (record r { reads = ys }) ≡ None → IsOver xs ys f r
over n [] [] f r is = grind (arith, common_steps, ends)
over n [] (y ∷ ys) f r is = absurd (cc (ends Forward (λ fault. numbered fault n) f.fault _ is).1)
over n (x ∷ xs) [] f r is = absurd (cc (ends Reverse (λ fault. numbered fault n) r.fault _ is).1)
over n (x ∷ xs) (y ∷ ys) f r is = absurd (cc is)

same_text : (text : Records) (reads rest : List Read) → text.reads ≡ reads ++ rest → rest ≡ [] →
    text.fault ≡ None → text ≡ record { reads = reads; fault = None }
same_text text reads rest split none sound = grind (arith, common_steps)

-- An interleaved text.

module _ (check : Bool) where
  abbrev taken_of : List Read → List Mates
  taken_of xs = take_while (belong check) (interleaved_mates xs)

  split : (xs : List Read) → xs ≡ alternating (taken_of xs) ++ drop (2 * length (taken_of xs)) xs
  split [] = refl
  split (f ∷ []) = refl
  split (f ∷ r ∷ xs) =
      let n = length (taken_of xs) in
      let two : 2 * suc n ≡ suc (suc (2 * n)) = omega arith in
      let past : drop (2 * suc n) (f ∷ r ∷ xs) ≡ drop (2 * n) xs =
      ap (λ (j : ℕ). drop j (f ∷ r ∷ xs)) two in
      ⊎_elim
      (λ is. grind (arith, common_steps, take_while-cons, take_while, split xs))
      (λ is. grind (arith, common_steps, take_while-cons, take_while))
      (cases_Bool (belong check (mates_in f r)))

-- without a fault nothing is left of an interleaved text
record IsOverOne (xs : List Read) (t : Records) : Type 0 where
  pub reads : xs ≡ []
  pub fault : t.fault ≡ None

over_one : (n : ℕ) (xs : List Read) (t : Records) →
    interleaved_fault_at n (record t { reads = xs }) ≡ None → IsOverOne xs t
over_one n [] t is = grind (arith, common_steps, ends)
over_one n (x ∷ []) t is =
    absurd (cc (ends Reverse (λ fault. numbered fault (2 * n)) t.fault _ is).1)
over_one n (x ∷ y ∷ xs) t is = absurd (cc is)

-- no record of two texts is lost, and none is invented
pub returns-clause-two_texts : goal.returns-clause-two_texts
returns-clause-two_texts c check e forward reverse =
    let f = records e forward in
    let r = records e reverse in
    let ms = taken check f.reads r.reads in
    let k = length ms in
    let a = forward_split check f.reads r.reads in
    let b = reverse_split check f.reads r.reads in
    let all = over (suc (0 + k)) (drop k f.reads) (drop k r.reads) f r in (
      record {
        first = (_, a);
        whole = λ none.
            same_text f (forward_reads ms) _ a (all none).forward (all none).forward_fault;
      },
      record {
        first = (_, b);
        whole = λ none.
            same_text r (reverse_reads ms) _ b (all none).reverse (all none).reverse_fault;
      },
    )

-- no record of an interleaved text is lost, and none is invented
pub returns-clause-interleaved : goal.returns-clause-interleaved
returns-clause-interleaved c check e text =
    let t = records e text in
    let ms = taken_of check t.reads in
    let a = split check t.reads in
    let all = over_one (suc (0 + length ms)) (drop (2 * length ms) t.reads) t in
    record {
      first = (_, a);
      whole = λ none. same_text t (alternating ms) _ a (all none).reads (all none).fault;
    }
