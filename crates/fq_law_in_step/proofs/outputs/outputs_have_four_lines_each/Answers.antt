use Rattle.std.proofs.Common.{◌≡◌, ℕ, true, List, [], ◌∷◌, ◌++◌, refl, ap, ◌∙◌, append_assoc, arith, Bool, false, not, eqb, map, sym, flat_map, filter}
use Rattle.std.specs.List.{list_all, All}
use Rattle.std.proofs.lemmas.Bool.{and_parts, and_from, cond-false, not-true}
use Rattle.std.specs.Bool.{then_some}
use Rattle.std.proofs.lemmas.List.Elements.{All-head, All-tail, All-filter, All-map, All-weaker}
use Rattle.std.proofs.lemmas.List.Folds.{flat_map-map}
use Rattle.fq_text.specs.Lines.{pieces, before_first_piece}
use Rattle.fq_text.specs.Written.{written, written_quality}
use Rattle.fq_text.specs.declared.encoding.Encoding.{Encoding}
use Rattle.fq_text.specs.Scores.{is_scored, recoded}
use Rattle.fq_text.specs.declared.encoding.Encoding.TheVariants.{Sanger}
use Rattle.fq_text.specs.Grammar.{Read}
use Rattle.fq_trim.specs.declared.step.Step.{Step}
use Rattle.fq_pair.specs.Outputs.{record_text, both_survive, forward_alone, reverse_alone}
use Rattle.fq_law_in_step.specs.InStep.{IsReadIn, IsPairIn}
use Rattle.fq_law_in_step.specs.FourLines.{four_lines, HasFourLinesEach}
use Rattle.fq_pair.specs.Mates.{Mates}
use Rattle.fq_text.proofs.ScoreLemmas.{low_base, all_recoded_scored}
use Rattle.fq_text.proofs.WrittenLemmas.{clean_bases}
use Rattle.fq_law_in_step.proofs.ReadLemmas.{hold_at, kept_below_read}
use Rattle.fq_law_in_step.proofs.outputs.outputs_have_four_lines_each.Goals as goal
use Rattle.std.proofs.lemmas.Grind.{common_steps}

-- a byte that ends no line
abbrev not_lf : ℕ → Bool
not_lf b = not (eqb b 10)

-- a line, and then a text
ends : (l ys : List ℕ) → list_all not_lf l ≡ true → pieces ((l ++ 10 ∷ []) ++ ys) ≡ l ∷ pieces ys
ends [] ys clean = refl
ends (x ∷ xs) ys clean = let parts = and_parts _ _ clean in
    cond-false (eqb x 10) _ _ (not-true _ parts.0) ∙ ap (before_first_piece x) (ends xs ys parts.1)

-- four lines, and then a text
four_pieces : (title seq qual text : List ℕ) → list_all not_lf title ≡ true →
    list_all not_lf seq ≡ true → list_all not_lf qual ≡ true →
    pieces (written title seq qual ++ text)
    ≡ (64 ∷ title) ∷ seq ∷ (43 ∷ []) ∷ qual ∷ pieces text
four_pieces title seq qual text clean_title clean_seq clean_qual =
    grind (arith, common_steps, append_assoc, ends)

-- a byte that has a score is no LF
scored_clean : (e : Encoding) (l : List ℕ) → list_all (is_scored e) l ≡ true →
    list_all not_lf l ≡ true
scored_clean e [] all = refl
scored_clean e (b ∷ bs) all =
    let low = low_base e in
    grind (arith, common_steps, and_parts, and_from, scored_clean e bs)

qual_clean : (recode : Bool) (e : Encoding) (qual : List ℕ) → list_all (is_scored e) qual ≡ true →
    list_all not_lf (written_quality (then_some recode e) qual) ≡ true
qual_clean true e qual all =
    scored_clean Sanger (map (recoded e) qual) (all_recoded_scored e qual all)
qual_clean false e qual all = scored_clean e qual all

-- the lines of one record, and of what follows
one_record : (steps : List Step) (e : Encoding) (read : Read) (text : List ℕ) →
    IsReadIn e read →
    pieces (record_text steps read ++ text) ≡ four_lines steps read ++ pieces text
one_record steps e read text is =
    grind (arith, common_steps, kept_below_read, clean_bases, hold_at, qual_clean, four_pieces)

-- the lines of many records
many_records : (steps : List Step) (e : Encoding) (reads : List Read) → All (IsReadIn e) reads →
    HasFourLinesEach steps reads (flat_map (record_text steps) reads)
many_records steps e [] are = refl
many_records steps e (read ∷ reads) are =
    one_record steps e read (flat_map (record_text steps) reads)
    (All-head (IsReadIn e) read reads are)
    ∙ ap (λ (ls : List (List ℕ)). four_lines steps read ++ ls)
    (many_records steps e reads (All-tail (IsReadIn e) read reads are))

module _ (check : Bool) (steps : List Step) (e : Encoding) (ms : List Mates)
    (all : All (IsPairIn check e) ms) where
  -- the records of one mate of each pair that is chosen
  side_has : (mate : Mates → Read) → ((m : Mates) → IsPairIn check e m → IsReadIn e (mate m)) →
      (test : Mates → Bool) →
      HasFourLinesEach steps (map mate (filter test ms))
      (flat_map (λ (m : Mates). record_text steps (mate m)) (filter test ms))
  side_has mate valid test =
      let chosen = filter test ms in
      ap pieces (sym (flat_map-map (record_text steps) mate chosen))
      ∙ many_records steps e (map mate chosen)
      (All-map (IsReadIn e) mate chosen
      (All-weaker (IsPairIn check e) (λ (m : Mates). IsReadIn e (mate m)) valid chosen
      (All-filter test (IsPairIn check e) ms all)))

-- each output of pairs of inputs has four lines for each of its reads
pub returns : goal.returns
returns c check steps e ms all =
    let forward = side_has check steps e ms all (λ (m : Mates). m.forward) (λ m is. is.forward) in
    let reverse = side_has check steps e ms all (λ (m : Mates). m.reverse) (λ m is. is.reverse) in
    record {
      forward_paired = forward (both_survive steps);
      forward_unpaired = forward (forward_alone steps);
      reverse_paired = reverse (both_survive steps);
      reverse_unpaired = reverse (reverse_alone steps);
    }
