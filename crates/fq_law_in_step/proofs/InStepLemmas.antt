-- The texts that are defined for pairs of the inputs are in step.
use Rattle.std.proofs.Common.{◌≡◌, ℕ, suc, ◌+◌, Bool, Option, None, List, [], ◌∷◌, length, map, filter, flat_map, take_while, refl, ap, sym, ◌∙◌, arith}
use Rattle.std.specs.List.{All}
use Rattle.std.proofs.lemmas.List.{length-map}
use Rattle.std.proofs.lemmas.List.Sums.{take_while-cons}
use Rattle.std.proofs.lemmas.List.Folds.{flat_map-map}
use Rattle.std.proofs.lemmas.List.Elements.{All-head, All-tail, All-filter, All-map, All-weaker}
use Rattle.fq_text.specs.declared.encoding.Encoding.{Encoding}
use Rattle.fq_text.specs.Grammar.{Read}
use Rattle.fq_text.specs.Records.{Records, records}
use Rattle.fq_trim.specs.declared.step.Step.{Step}
use Rattle.fq_pair.specs.declared.fault.InputFault.{InputFault}
use Rattle.fq_pair.specs.Mates.{Mates}
use Rattle.fq_pair.specs.Pairing.{Pairs, mates_of, belong, pairs_of, behind, fault_at}
use Rattle.fq_pair.specs.Outputs.{record_text, both_survive, forward_alone, reverse_alone, forward_records, reverse_records}
use Rattle.fq_law_in_step.specs.Pieces.{trimmed, encoding_out}
use Rattle.fq_law_in_step.specs.InStep.{IsReadIn, IsPairIn, forward_reads, reverse_reads, IsReadAgain, trimmed_pair, ArePairsAgain, TextsAreInStep}
use Rattle.fq_law_in_step.proofs.ReadLemmas.{many_again}
use Rattle.fq_law_in_step.proofs.CountLemmas.{counts_add_up}
use Rattle.std.proofs.lemmas.Bool.{cases_Bool}
use Rattle.std.proofs.Math.Seq.{drop-length}
use Rattle.std.proofs.lemmas.Grind.{common_steps}

-- Reads of one side.

-- a text of records gives its reads, and their number
gives : (steps : List Step) (e : Encoding) (reads : List Read) (count : ℕ) (text : List ℕ) →
    text ≡ flat_map (record_text steps) reads → length reads ≡ count →
    All (IsReadIn e) reads → IsReadAgain steps e reads count text
gives steps e reads count text is size are plain =
    grind (arith, common_steps, many_again, length-map)

module _ (check : Bool) (steps : List Step) (e : Encoding) (ms : List Mates)
    (all : All (IsPairIn check e) ms) where
  -- the records of one mate of each pair that is chosen are those of its reads
  side_gives : (mate : Mates → Read) → ((m : Mates) → IsPairIn check e m → IsReadIn e (mate m)) →
      (test : Mates → Bool) →
      IsReadAgain steps e (map mate (filter test ms)) (length (filter test ms))
      (flat_map (λ (m : Mates). record_text steps (mate m)) (filter test ms))
  side_gives mate valid test =
      let chosen = filter test ms in
      gives steps e (map mate chosen) (length chosen)
      (flat_map (λ (m : Mates). record_text steps (mate m)) chosen)
      (sym (flat_map-map (record_text steps) mate chosen)) (length-map chosen mate)
      (All-map (IsReadIn e) mate chosen
      (All-weaker (IsPairIn check e) (λ (m : Mates). IsReadIn e (mate m)) valid chosen
      (All-filter test (IsPairIn check e) ms all)))

  forward_gives : (test : Mates → Bool) →
      IsReadAgain steps e (forward_reads (filter test ms)) (length (filter test ms))
      (forward_records steps test ms)
  forward_gives = side_gives (λ (m : Mates). m.forward) (λ m is. is.forward)

  reverse_gives : (test : Mates → Bool) →
      IsReadAgain steps e (reverse_reads (filter test ms)) (length (filter test ms))
      (reverse_records steps test ms)
  reverse_gives = side_gives (λ (m : Mates). m.reverse) (λ m is. is.reverse)

-- Pairs.

module _ (check : Bool) (steps : List Step) where
  -- trimming keeps titles, so names match as before
  still_belong : (m : Mates) → belong check (trimmed_pair steps m) ≡ belong check m
  still_belong m = grind (arith, common_steps, cases_Bool)

  -- the mates of a pair are at one place in both texts
  mates_again : (ms : List Mates) → mates_of (map (trimmed steps) (forward_reads ms))
      (map (trimmed steps) (reverse_reads ms)) ≡ map (trimmed_pair steps) ms
  mates_again [] = refl
  mates_again (m ∷ ms) = ap (λ (xs : List Mates). trimmed_pair steps m ∷ xs) (mates_again ms)

  all_taken : (e : Encoding) (ms : List Mates) → All (IsPairIn check e) ms →
      take_while (belong check) (map (trimmed_pair steps) ms) ≡ map (trimmed_pair steps) ms
  all_taken e [] all = refl
  all_taken e (m ∷ ms) all =
      let here = All-head (IsPairIn check e) m ms all in
      let others = all_taken e ms (All-tail (IsPairIn check e) m ms all) in
      grind (arith, common_steps, take_while-cons, still_belong)

-- texts without a fault, with equally many records
abbrev whole_text : List Read → Records
whole_text reads = record { reads = reads; fault = None }

no_fault : (n k : ℕ) (fs rs : List Read) → length fs ≡ k → length rs ≡ k →
    fault_at n (behind k (whole_text fs)) (behind k (whole_text rs)) ≡ None
no_fault n k fs rs f r = grind (arith, common_steps, drop-length)

paired_again : (check : Bool) (steps : List Step) (e : Encoding) (ms : List Mates) →
    All (IsPairIn check e) ms →
    pairs_of check 0 (whole_text (map (trimmed steps) (forward_reads ms)))
    (whole_text (map (trimmed steps) (reverse_reads ms)))
    ≡ record { mates = map (trimmed_pair steps) ms; fault = None }
paired_again check steps e ms all =
    let fs = map (trimmed steps) (forward_reads ms) in
    let rs = map (trimmed steps) (reverse_reads ms) in
    let tms = map (trimmed_pair steps) ms in
    let same : take_while (belong check) (mates_of fs rs) ≡ tms =
    ap (take_while (belong check)) (mates_again check steps ms) ∙ all_taken check steps e ms all in
    rw same (ap (λ (fault : Option InputFault). record { mates = tms; fault = fault })
    (no_fault (suc (0 + length tms)) (length tms) fs rs (simp length-map) (simp length-map)))

-- two texts that give the reads of pairs give the pairs
pairs_again : (check : Bool) (steps : List Step) (e : Encoding) (ms : List Mates)
    (forward reverse : List ℕ) → All (IsPairIn check e) ms →
    IsReadAgain steps e (forward_reads ms) (length ms) forward →
    IsReadAgain steps e (reverse_reads ms) (length ms) reverse →
    ArePairsAgain check steps e ms (length ms) forward reverse
pairs_again check steps e ms forward reverse all f r plain_forward plain_reverse =
    let out = encoding_out steps e in
    let fs = whole_text (map (trimmed steps) (forward_reads ms)) in
    let again : pairs_of check 0 (records out forward) (records out reverse)
    ≡ record { mates = map (trimmed_pair steps) ms; fault = None } =
    ap (λ (x : Records). pairs_of check 0 x (records out reverse)) (f plain_forward).again
    ∙ ap (pairs_of check 0 fs) (r plain_reverse).again
    ∙ paired_again check steps e ms all in
    record {
      again = again;
      count_is = ap (λ (x : Pairs). length x.mates) again ∙ length-map ms (trimmed_pair steps);
    }

-- All outputs.

-- the texts that are defined for pairs of inputs can be read again, and are in step
pub texts_are_in_step : TextsAreInStep
texts_are_in_step check steps e ms all =
    let both = filter (both_survive steps) ms in
    record {
      forward_paired = forward_gives check steps e ms all (both_survive steps);
      forward_unpaired = forward_gives check steps e ms all (forward_alone steps);
      reverse_paired = reverse_gives check steps e ms all (both_survive steps);
      reverse_unpaired = reverse_gives check steps e ms all (reverse_alone steps);
      in_step = pairs_again check steps e both (forward_records steps (both_survive steps) ms)
          (reverse_records steps (both_survive steps) ms)
          (All-filter (both_survive steps) (IsPairIn check e) ms all)
          (forward_gives check steps e ms all (both_survive steps))
          (reverse_gives check steps e ms all (both_survive steps));
      logged = refl;
      counted = refl;
      sum = counts_add_up steps ms;
    }
