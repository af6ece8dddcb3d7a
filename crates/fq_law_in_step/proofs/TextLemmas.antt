-- Inputs give pairs of valid reads, whose names match if they are checked.
use Rattle.std.proofs.Common.{◌≡◌, ℕ, zero, suc, Bool, true, List, [], ◌∷◌, length, take_while, refl, ap, sym, subst, ◌∙◌, ⊎_elim}
use Rattle.std.specs.List.{All, list_all}
use Rattle.std.proofs.lemmas.Bool.{cond-true, cond-false, cases_Bool, and_parts}
use Rattle.std.proofs.lemmas.List.Sums.{take_while-cons}
use Rattle.std.proofs.lemmas.List.Folds.{list_all-append}
use Rattle.std.proofs.lemmas.List.Elements.{All-nil, All-cons, All-head, All-tail}
use Rattle.fq_text.specs.declared.encoding.Encoding.{Encoding}
use Rattle.fq_text.specs.Lines.{lines}
use Rattle.fq_text.specs.Grammar.{Read, Front, End, Faulty, Found, front}
use Rattle.fq_text.specs.Records.{from_front, records_within, records}
use Rattle.fq_text.proofs.LawfulLemmas.{clean, clean_lines, lawful_lines, front_encoding}
use Rattle.fq_pair.specs.Mates.{Mates, mates_in}
use Rattle.fq_pair.specs.Pairing.{mates_of, belong}
use Rattle.fq_pair.specs.Interleaved.{interleaved_mates}
use Rattle.fq_pair.specs.Forms.{TwoTexts, InterleavedText}
use Rattle.fq_pair.proofs.TakenLemmas.{front_takes}
use Rattle.fq_law_in_step.specs.InStep.{IsReadIn, IsPairIn, InputsGivePairs}

-- Reads.

clean_rest : (e : Encoding) (ls : List (List ℕ)) (r : Read) (rest : List (List ℕ)) →
    list_all clean ls ≡ true → front e ls ≡ Found r rest → list_all clean rest ≡ true
clean_rest e ls r rest all is =
    let takes = front_takes e r ls rest is in
    (and_parts _ _ (sym (list_all-append clean takes.taken rest)
    ∙ ap (list_all clean) (sym takes.split) ∙ all)).1

reads_of_front : (n : ℕ) (e : Encoding) (ls : List (List ℕ)) → list_all clean ls ≡ true →
    ((rest : List (List ℕ)) → list_all clean rest ≡ true →
    All (IsReadIn e) (records_within n e rest).reads) →
    (f : Front) → front e ls ≡ f → All (IsReadIn e) (from_front (records_within n e) f).reads
reads_of_front n e ls all others End is = All-nil (IsReadIn e)
reads_of_front n e ls all others (Faulty fault) is = All-nil (IsReadIn e)
reads_of_front n e ls all others (Found r rest) is =
    All-cons (IsReadIn e) r (records_within n e rest).reads (record {
      lawful = lawful_lines e ls r rest all is;
      same = front_encoding e ls r rest is;
    })
    (others rest (clean_rest e ls r rest all is))

reads_within : (n : ℕ) (e : Encoding) (ls : List (List ℕ)) → list_all clean ls ≡ true →
    All (IsReadIn e) (records_within n e ls).reads
reads_within zero e ls all = All-nil (IsReadIn e)
reads_within (suc n) e ls all =
    reads_of_front n e ls all (λ rest clean_rest. reads_within n e rest clean_rest) (front e ls)
    refl

reads_of_text : (e : Encoding) (text : List ℕ) → All (IsReadIn e) (records e text).reads
reads_of_text e text = reads_within (suc (length (lines text))) e (lines text) (clean_lines text)

-- Pairs.

record AreReadsIn (e : Encoding) (m : Mates) : Type 0 where
  forward : IsReadIn e m.forward
  reverse : IsReadIn e m.reverse

both_in : (e : Encoding) (f r : Read) (ms : List Mates) → IsReadIn e f → IsReadIn e r →
    All (AreReadsIn e) ms → All (AreReadsIn e) (mates_in f r ∷ ms)
both_in e f r ms forward reverse others = All-cons (AreReadsIn e) (mates_in f r) ms
    (record { forward = forward; reverse = reverse }) others

mates_are_in : (e : Encoding) (fs rs : List Read) → All (IsReadIn e) fs → All (IsReadIn e) rs →
    All (AreReadsIn e) (mates_of fs rs)
mates_are_in e [] rs a b = All-nil (AreReadsIn e)
mates_are_in e (f ∷ fs) [] a b = All-nil (AreReadsIn e)
mates_are_in e (f ∷ fs) (r ∷ rs) a b =
    both_in e f r (mates_of fs rs) (All-head (IsReadIn e) f fs a) (All-head (IsReadIn e) r rs b)
    (mates_are_in e fs rs (All-tail (IsReadIn e) f fs a) (All-tail (IsReadIn e) r rs b))

interleaved_are_in : (e : Encoding) (rs : List Read) → All (IsReadIn e) rs →
    All (AreReadsIn e) (interleaved_mates rs)
interleaved_are_in e [] all = All-nil (AreReadsIn e)
interleaved_are_in e (f ∷ []) all = All-nil (AreReadsIn e)
interleaved_are_in e (f ∷ r ∷ rs) all =
    let others = All-tail (IsReadIn e) f (r ∷ rs) all in
    both_in e f r (interleaved_mates rs) (All-head (IsReadIn e) f (r ∷ rs) all)
    (All-head (IsReadIn e) r rs others)
    (interleaved_are_in e rs (All-tail (IsReadIn e) r rs others))

-- the pairs up to the first one whose names differ
taken_are_pairs : (check : Bool) (e : Encoding) (ms : List Mates) → All (AreReadsIn e) ms →
    All (IsPairIn check e) (take_while (belong check) ms)
taken_are_pairs check e [] all = All-nil (IsPairIn check e)
taken_are_pairs check e (m ∷ ms) all =
    let here = All-head (AreReadsIn e) m ms all in
    let others = taken_are_pairs check e ms (All-tail (AreReadsIn e) m ms all) in
    subst (All (IsPairIn check e)) (sym (take_while-cons (belong check) m ms)) (⊎_elim
    (λ is. rw (cond-true (belong check m) _ _ is) (All-cons (IsPairIn check e) m _
    (record { forward = here.forward; reverse = here.reverse; belong = is }) others))
    (λ is. rw (cond-false (belong check m) _ _ is) (All-nil (IsPairIn check e)))
    (cases_Bool (belong check m)))

-- inputs give pairs of valid reads, whose names match if names are checked
pub inputs_give_pairs : InputsGivePairs
inputs_give_pairs TwoTexts check e forward reverse =
    taken_are_pairs check e (mates_of (records e forward).reads (records e reverse).reads)
    (mates_are_in e (records e forward).reads (records e reverse).reads (reads_of_text e forward)
    (reads_of_text e reverse))
inputs_give_pairs InterleavedText check e text same =
    taken_are_pairs check e (interleaved_mates (records e text).reads)
    (interleaved_are_in e (records e text).reads (reads_of_text e text))
