-- Each record at the front of a text is valid.
use Rattle.std.proofs.Common.{◌≡◌, ℕ, ◌+◌, ◌-◌, ◌≤◌, Bool, true, false, not, eqb, ltb, Option, Some, None, List, [], ◌∷◌, ◌++◌, length, map, refl, ap, sym, subst, ◌∙◌, arith, ⊎_elim}
use Rattle.std.specs.List.{concat, list_all}
use Rattle.std.proofs.lemmas.List.{length-append}
use Rattle.std.proofs.lemmas.List.Folds.{list_all-append}
use Rattle.std.proofs.lemmas.Bool.{cond-false, cases_Bool, and_parts, and_from, not-false, not_from_false, ltb-false, eqb-true}
use Rattle.std.proofs.lemmas.Grind.{common_steps}
use Rattle.fq_text.specs.Scores.{is_scored}
use Rattle.fq_text.specs.Lines.{pieces, without_cr, lines}
use Rattle.fq_text.specs.Grammar.{limit, is_base, IsLawful, Front, End, Found, Read, begins_with, before_plus, from_plus, quality_lines, after_quality, when, is_too_long, title_fault, sequence_fault, quality_fault, or_else, sequence_faults, quality_faults, unless_faulty, completed, from_plus_line, from_title_line, front}
use Rattle.fq_text.specs.declared.encoding.Encoding.{Encoding}
use Rattle.fq_text.specs.declared.fault.Fault.{Fault}
use Rattle.fq_text.specs.declared.fault.Fault.TheVariants as fault

abbrev not_lf : ℕ → Bool
not_lf b = not (eqb b 10)

-- a line has no LF
abbrev pub clean : List ℕ → Bool
clean l = list_all not_lf l

clean_pieces : (text : List ℕ) → list_all clean (pieces text) ≡ true
clean_pieces [] = refl
clean_pieces (b ∷ bs) = grind (arith, common_steps, clean_pieces bs)

clean_without_cr : (l : List ℕ) → clean l ≡ true → clean (without_cr l) ≡ true
clean_without_cr [] all = refl
clean_without_cr (b ∷ []) all = grind (arith, common_steps)
clean_without_cr (b ∷ c ∷ bs) all = let parts = and_parts _ _ all in
    and_from _ _ parts.0 (clean_without_cr (c ∷ bs) parts.1)

clean_map : (ps : List (List ℕ)) → list_all clean ps ≡ true →
    list_all clean (map without_cr ps) ≡ true
clean_map [] all = refl
clean_map (p ∷ ps) all = let parts = and_parts _ _ all in
    and_from _ _ (clean_without_cr p parts.0) (clean_map ps parts.1)

-- no line of a text has an LF
pub clean_lines : (text : List ℕ) → list_all clean (lines text) ≡ true
clean_lines text = clean_map (pieces text) (clean_pieces text)

-- what a record without fault passed
pub passed : (o : Option Fault) (found : Front) (r : Read) (ls : List (List ℕ)) →
    unless_faulty o found ≡ Found r ls → (o ≡ None) × (found ≡ Found r ls)
passed o found r ls is = grind (arith, common_steps)

unfaulted : (b : Bool) (f : Fault) (o : Option Fault) → when b f o ≡ None → (b ≡ false) × (o ≡ None)
unfaulted b f o is = grind (arith, common_steps)

both_none : (o p : Option Fault) → or_else o p ≡ None → (o ≡ None) × (p ≡ None)
both_none o p is = grind (arith, common_steps)

begins-append : (m : ℕ) (l rest : List ℕ) → begins_with m l ≡ false → begins_with m rest ≡ false →
    begins_with m (l ++ rest) ≡ false
begins-append m l rest first then = grind (arith, common_steps)

record Bases (n : ℕ) (bases : List ℕ) : Type 0 where
  fits : n + length bases ≤ limit
  valid : list_all is_base bases ≡ true
  no_title : begins_with 64 bases ≡ false

sound_bases : (n : ℕ) (ls : List (List ℕ)) → n ≤ limit → sequence_faults n ls ≡ None →
    Bases n (concat ls)
sound_bases n [] le sound = record { fits = omega arith; valid = refl; no_title = refl }
sound_bases n (l ∷ ls) le sound =
    let parts = both_none (sequence_fault n l) _ sound in
    let short = unfaulted (is_too_long l) _ _ parts.0 in
    let plain = unfaulted (begins_with 64 l) _ _ short.1 in
    let within = unfaulted (ltb limit (n + length l)) _ _ plain.1 in
    let valid = unfaulted (not (list_all is_base l)) _ _ within.1 in
    let room = ltb-false limit (n + length l) within.0 in
    let rest = sound_bases (n + length l) ls room parts.1 in
    let fits = rest.fits in
    record {
      fits = omega (arith, length-append l (concat ls));
      valid = list_all-append is_base l (concat ls) ∙ and_from _ _ (not-false _ valid.0) rest.valid;
      no_title = begins-append 64 l (concat ls) plain.0 rest.no_title;
    }

no_plus_before : (ls : List (List ℕ)) → begins_with 43 (concat (before_plus ls)) ≡ false
no_plus_before [] = refl
no_plus_before (l ∷ ls) = grind (arith, common_steps, no_plus_before ls)

record Scored (encoding : Encoding) (bases n : ℕ) (quals : List ℕ) : Type 0 where
  fits : n + length quals ≤ bases
  valid : list_all (is_scored encoding) quals ≡ true

sound_quality : (encoding : Encoding) (bases n : ℕ) (ls : List (List ℕ)) → n ≤ bases →
    quality_faults encoding bases n ls ≡ None → Scored encoding bases n (concat ls)
sound_quality encoding bases n [] le sound = record { fits = omega arith; valid = refl }
sound_quality encoding bases n (l ∷ ls) le sound =
    let parts = both_none (quality_fault encoding bases n l) _ sound in
    let short = unfaulted (is_too_long l) _ _ parts.0 in
    let within = unfaulted (ltb bases (n + length l)) _ _ short.1 in
    let valid = unfaulted (not (list_all (is_scored encoding) l)) _ _ within.1 in
    let room = ltb-false bases (n + length l) within.0 in
    let rest = sound_quality encoding bases (n + length l) ls room parts.1 in
    let fits = rest.fits in
    record {
      fits = omega (arith, length-append l (concat ls));
      valid = list_all-append (is_scored encoding) l (concat ls)
          ∙ and_from _ _ (not-false _ valid.0) rest.valid;
    }

enough : (n : ℕ) (ls behind : List (List ℕ)) → after_quality n ls ≡ Some behind →
    n ≤ length (concat (quality_lines n ls))
enough n [] behind is = grind (arith, common_steps)
enough n (l ∷ ls) behind is = ⊎_elim
    (λ none. let e = eqb-true n 0 none in omega arith)
    (λ some.
    let rest =
    enough (n - length l) ls behind (sym (cond-false (eqb n 0) (Some (l ∷ ls))
    (after_quality (n - length l) ls) some) ∙ is) in
    let same =
    ap (λ ms. length (concat ms)) (cond-false (eqb n 0) [] (l ∷ quality_lines (n - length l) ls)
    some) in
    omega (arith, length-append l (concat (quality_lines (n - length l) ls)), same))
    (cases_Bool (eqb n 0))

-- only a record whose quality is complete is found, with the lines after it
pub complete : (r s : Read) (o : Option (List (List ℕ))) (ls : List (List ℕ)) →
    completed r o ≡ Found s ls → (o ≡ Some ls) × (r ≡ s)
complete r s o ls is = grind (arith, common_steps)

module _ (encoding : Encoding) where
  record Quality (title bases : List ℕ) (r : Read) : Type 0 where
    quals : List ℕ
    is : r ≡ record { encoding = encoding; title = title; seq = bases; qual = quals }
    same : length quals ≡ length bases
    valid : list_all (is_scored encoding) quals ≡ true

  found_quality : (title bases : List ℕ) (ls : List (List ℕ)) (r : Read) (behind : List (List ℕ)) →
      from_plus_line encoding title bases ls ≡ Found r behind → Quality title bases r
  found_quality title bases ls r behind is =
      grind (arith, common_steps, passed, complete, sound_quality, enough)

  found_lawful : (b : ℕ) (bs : List ℕ) (ls : List (List ℕ)) (r : Read) (behind : List (List ℕ)) →
      clean (b ∷ bs) ≡ true → from_title_line encoding (b ∷ bs) ls ≡ Found r behind → IsLawful r
  found_lawful b bs ls r behind one is =
      let first = passed (title_fault (b ∷ bs)) _ r behind is in
      let second = passed (sequence_faults 0 (before_plus ls)) _ r behind first.1 in
      let bases = sound_bases 0 (before_plus ls) (omega arith) second.0 in
      let quality = found_quality bs (concat (before_plus ls)) (from_plus ls) r behind second.1 in
      let short =
      ltb-false limit (length (b ∷ bs)) (unfaulted (is_too_long (b ∷ bs)) fault.TooLong _
      first.0).0 in
      subst IsLawful (sym quality.is) (record {
        one_line = (and_parts _ _ one).1;
        title_fits = omega arith;
        seq_fits = omega arith;
        bases = bases.valid;
        no_title = not_from_false _ bases.no_title;
        no_plus = not_from_false _ (no_plus_before ls);
        same_len = quality.same;
        scores = quality.valid;
      })

  -- the record at the front of lines is valid
  pub lawful_lines : (ls : List (List ℕ)) (r : Read) (behind : List (List ℕ)) →
      list_all clean ls ≡ true → front encoding ls ≡ Found r behind → IsLawful r
  lawful_lines [] r behind all is = absurd (let h : End ≡ Found r behind = is in cc)
  lawful_lines ([] ∷ ls) r behind all is = lawful_lines ls r behind all is
  lawful_lines ((b ∷ bs) ∷ ls) r behind all is =
      found_lawful b bs ls r behind (and_parts _ _ all).0 is

  -- the record at the front of a text is valid
  pub front_is_lawful : (text : List ℕ) (r : Read) (behind : List (List ℕ)) →
      front encoding (lines text) ≡ Found r behind → IsLawful r
  front_is_lawful text r behind is = lawful_lines (lines text) r behind (clean_lines text) is

  -- a record has the encoding in which it was read
  pub front_encoding : (ls : List (List ℕ)) (r : Read) (behind : List (List ℕ)) →
      front encoding ls ≡ Found r behind → r.encoding ≡ encoding
  front_encoding [] r behind is = absurd (let h : End ≡ Found r behind = is in cc)
  front_encoding ([] ∷ ls) r behind is = front_encoding ls r behind is
  front_encoding ((b ∷ bs) ∷ ls) r behind is = grind (arith, passed, found_quality)
