-- What is left of a read can be read again.
use Rattle.std.proofs.Common.{◌≡◌, ℕ, suc, ◌≤◌, Bool, true, false, List, [], ◌∷◌, ◌++◌, length, get_or, map, flat_map, refl, ap, sym, subst, ◌∙◌, arith, None}
use Rattle.std.specs.Bool.{then_some}
use Rattle.std.specs.List.{All, list_all}
use Rattle.std.proofs.lemmas.Bool.{cases_Bool, and_parts, and_from, not_from_false, ne_eqb, both_ways}
use Rattle.std.proofs.lemmas.List.{length-map}
use Rattle.std.proofs.lemmas.List.Elements.{All-get_or, All-head, All-tail}
use Rattle.std.proofs.lemmas.List.Sums.{AllPass-from_list_all, list_all-from_AllPass}
use Rattle.fq_text.specs.declared.encoding.Encoding.{Encoding}
use Rattle.fq_text.specs.Grammar.{Read, IsLawful, begins_with}
use Rattle.fq_text.specs.Records.{with_first, records}
use Rattle.fq_text.specs.Written.{CanRecode}
use Rattle.fq_text.proofs.WrittenLemmas.{reads_back}
use Rattle.fq_trim.specs.declared.step.Step.{Step}
use Rattle.fq_trim.specs.Keeping.{select, keeps, kept_of, recodes}
use Rattle.fq_trim.specs.KeptPlaces.{kept_places, bytes_at}
use Rattle.fq_trim.proofs.PlaceLemmas.{length-places}
use Rattle.fq_trim.proofs.KeptLemmas.{Below, kept_below, places_below}
use Rattle.fq_pair.specs.Outputs.{record_text}
use Rattle.fq_law_in_step.specs.Pieces.{left_of, trimmed, encoding_out, IsPlain, is_letter, LettersArePlain}
use Rattle.fq_law_in_step.specs.InStep.{IsReadIn}
use Rattle.std.proofs.lemmas.Grind.{common_steps}

-- Bytes at some places.

-- what holds of all bytes holds of those at some places of them
pub hold_at : (p : ℕ → Bool) (xs is : List ℕ) → Below (length xs) is → list_all p xs ≡ true →
    list_all p (bytes_at is xs) ≡ true
hold_at p xs [] below all = refl
hold_at p xs (i ∷ is) below all = and_from _ _ (All-get_or (λ x. p x ≡ true) xs i 0 below.0
    (AllPass-from_list_all p xs all)) (hold_at p xs is below.1 all)

few_selected : (test : ℕ → Bool) (j : ℕ) (ps : List ℕ) → length (select test j ps) ≤ length ps
few_selected test j [] = omega arith
few_selected test j (p ∷ ps) = grind (arith, common_steps, cases_Bool, few_selected test (suc j) ps)

few_kept : (steps : List Step) (q ps : List ℕ) → length (kept_of steps q ps) ≤ length ps
few_kept [] q ps = omega arith
few_kept (step ∷ steps) q ps =
    let test = keeps step (map (λ (i : ℕ). get_or q i 0) ps) in
    let first = few_selected test 0 ps in
    let rest = few_kept steps q (select test 0 ps) in
    omega arith

-- One read.

module _ (steps : List Step) (read : Read) where
  -- the places that steps keep of a read are places of its bases
  pub kept_below_read : length read.qual ≡ length read.seq →
      Below (length read.seq) (kept_places steps read)
  kept_below_read same = grind (arith, common_steps, length-map, kept_below, places_below)

  few_bases : length read.qual ≡ length read.seq →
      length (bytes_at (kept_places steps read) read.seq) ≤ length read.seq
  few_bases same = grind (arith, common_steps, length-map, few_kept, length-places)

  -- what is left of a plain read is a valid read
  left_lawful : (encoding : Encoding) → IsReadIn encoding read → IsPlain steps read →
      IsLawful (left_of steps read)
  left_lawful encoding is plain =
      grind (arith, common_steps, kept_below_read, few_bases, hold_at, not_from_false, length-map)

-- the record of one read is read again, then what follows it
one_again : (steps : List Step) (encoding : Encoding) (read : Read) (text : List ℕ) →
    IsReadIn encoding read → IsPlain steps read →
    records (encoding_out steps encoding) (record_text steps read ++ text)
    ≡ with_first (trimmed steps read) (records (encoding_out steps encoding) text)
one_again steps encoding read text is plain =
    let lawful = left_lawful steps read encoding is plain in
    let e : (trimmed steps read).encoding ≡ encoding_out steps encoding =
    grind (arith, common_steps, cases_Bool) in
    let scored : CanRecode (then_some (recodes steps) read.encoding) (left_of steps read).qual =
    grind (arith, common_steps, cases_Bool) in
    subst (λ x. records x (record_text steps read ++ text)
    ≡ with_first (trimmed steps read) (records x text)) e
    (reads_back (left_of steps read) (then_some (recodes steps) read.encoding) text lawful
    plain.title scored)

-- the records of many reads are read again
pub many_again : (steps : List Step) (encoding : Encoding) (reads : List Read) →
    All (IsReadIn encoding) reads → All (IsPlain steps) reads →
    records (encoding_out steps encoding) (flat_map (record_text steps) reads) ≡ record {
      reads =
          map (trimmed steps) reads;
      fault = None;
    }
many_again steps encoding [] are plain = refl
many_again steps encoding (read ∷ reads) are plain =
    one_again steps encoding read (flat_map (record_text steps) reads)
    (All-head (IsReadIn encoding) read reads are) (All-head (IsPlain steps) read reads plain)
    ∙ ap (with_first (trimmed steps read)) (many_again steps encoding reads (All-tail
    (IsReadIn encoding) read reads are) (All-tail (IsPlain steps) read reads plain))

-- Letters.

-- a text of letters does not begin with a mark
letter_first : (mark : ℕ) (at xs : List ℕ) → is_letter mark ≡ false →
    list_all is_letter (bytes_at at xs) ≡ true → begins_with mark (bytes_at at xs) ≡ false
letter_first mark [] xs other all = refl
letter_first mark (i ∷ is) xs other all =
    let letter = (and_parts _ _ all).0 in
    ne_eqb (get_or xs i 0) mark (λ e. both_ways (is_letter mark) other (ap is_letter (sym e)
    ∙ letter))

-- a read whose bases are letters is plain, if its title doesn't end in CR
pub letters_are_plain : LettersArePlain
letters_are_plain steps read same title letters =
    let all = hold_at is_letter read.seq (kept_places steps read) (kept_below_read steps read same)
    (list_all-from_AllPass is_letter read.seq letters) in
    record {
      title = title;
      no_title = letter_first 64 (kept_places steps read) read.seq refl all;
      no_plus = letter_first 43 (kept_places steps read) read.seq refl all;
    }
