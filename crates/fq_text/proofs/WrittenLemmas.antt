-- What was written reads back.
use Rattle.std.proofs.Common.{◌≡◌, ℕ, ◌+◌, ◌<◌, ◌≤◌, Bool, true, false, not, eqb, Option, Some, None, suc, List, [], ◌∷◌, ◌++◌, length, refl, ap, sym, ◌∙◌, arith, append_assoc, ⊎_elim}
use Rattle.std.specs.List.{list_all}
use Rattle.std.proofs.lemmas.Bool.{cond-false, and_parts, and_from, not-true, not_from_false, not_from_true, le-ltb, le-leb, leb-true, ne_eqb}
use Rattle.fq_text.specs.declared.encoding.Encoding.{Encoding}
use Rattle.std.proofs.lemmas.List.{length-map}
use Rattle.std.proofs.lemmas.Grind.{common_steps}
use Rattle.fq_text.specs.Scores.{is_scored}
use Rattle.fq_text.specs.Lines.{pieces, without_cr, lines}
use Rattle.fq_text.specs.Grammar.{limit, is_base, IsLawful, Read, Found, front, begins_with, title_fault, sequence_fault, plus_fault, quality_fault}
use Rattle.fq_text.specs.Phases.{in_quality}
use Rattle.fq_text.specs.Written.{written, as_written, CanRecode, ReadsBack}
use Rattle.fq_text.specs.Records.{with_first, records_within, records}
use Rattle.fq_text.proofs.ScoreLemmas.{all_recoded_scored}
use Rattle.fq_text.proofs.RecordsLemmas.{room_enough}
use Rattle.fq_text.proofs.GrammarLemmas.{title_goes, sequence_goes, sequence_ends, plus_goes, quality_goes, quality_ends}

-- a byte that ends no line
abbrev pub not_lf : ℕ → Bool
not_lf b = not (eqb b 10)

-- a line before the first LF is the first piece
pub pieces_line : (l ys : List ℕ) → list_all not_lf l ≡ true → pieces (l ++ 10 ∷ ys) ≡ l ∷ pieces ys
pieces_line [] ys clean = refl
pieces_line (x ∷ xs) ys clean =
    grind (arith, common_steps, and_parts, cond-false, not-true, pieces_line xs ys)

-- bytes from 33 on hold neither line end
base_high : (b : ℕ) → is_base b ≡ true → 33 ≤ b
base_high b is = leb-true 33 b (and_parts _ _ is).0

-- bases hold no LF
pub clean_bases : (l : List ℕ) → list_all is_base l ≡ true → list_all not_lf l ≡ true
clean_bases [] all = refl
clean_bases (b ∷ bs) all = let parts = and_parts _ _ all in let high = base_high b parts.0 in
    and_from _ _ (not_from_false _ (ne_eqb b 10 (λ e. absurd (omega arith))))
    (clean_bases bs parts.1)

-- bases do not end in CR
pub plain_bases : (l : List ℕ) → list_all is_base l ≡ true → without_cr l ≡ l
plain_bases [] all = refl
plain_bases (b ∷ []) all = grind (arith, common_steps)
plain_bases (b ∷ c ∷ bs) all = ap (λ xs. b ∷ xs) (plain_bases (c ∷ bs) (and_parts _ _ all).1)

-- after a byte that is not CR, a line that does not end in CR still does not
pub plain_behind : (b : ℕ) (l : List ℕ) → eqb b 13 ≡ false → without_cr l ≡ l →
    without_cr (b ∷ l) ≡ b ∷ l
plain_behind b l other plain = grind (arith, common_steps, eqb)

scored_base : (e : Encoding) (b : ℕ) → is_scored e b ≡ true → is_base b ≡ true
scored_base e b is = grind (arith, common_steps)

scored_bases : (e : Encoding) (l : List ℕ) → list_all (is_scored e) l ≡ true →
    list_all is_base l ≡ true
scored_bases e [] all = refl
scored_bases e (b ∷ bs) all = let parts = and_parts _ _ all in
    and_from _ _ (scored_base e b parts.0) (scored_bases e bs parts.1)

-- A line followed by this line end is one line, whatever follows.
abbrev pub Ends : List ℕ → List ℕ → Type 0
Ends end l = (ys : List ℕ) → lines ((l ++ end) ++ ys) ≡ l ∷ lines ys

-- bytes without an LF that do not end in CR are one line if LF follows
pub ends_in_lf : (l : List ℕ) → list_all not_lf l ≡ true → without_cr l ≡ l → Ends (10 ∷ []) l
ends_in_lf l clean plain ys = grind (arith, common_steps, append_assoc, pieces_line)

-- a record as four lines with this line end, these bytes after the `+`, and a text after them
abbrev pub four : List ℕ → List ℕ → Read → List ℕ → List ℕ
four end again r text =
    ((64 ∷ r.title) ++ end)
    ++ ((r.seq ++ end) ++ (((43 ∷ again) ++ end) ++ ((r.qual ++ end) ++ text)))

-- what makes four such lines a record
pub record AreItsLines (end again : List ℕ) (r : Read) : Type 0 where
  pub lawful : IsLawful r
  pub title : Ends end (64 ∷ r.title)
  pub seq : Ends end r.seq
  pub plus : Ends end (43 ∷ again)
  pub qual : Ends end r.qual
  -- the plus line has no fault
  pub same : plus_fault r.title (43 ∷ again) ≡ None

-- the lines of such a text
pub four_lines : (end again : List ℕ) (r : Read) (text : List ℕ) → AreItsLines end again r →
    lines (four end again r text) ≡ (64 ∷ r.title) ∷ r.seq ∷ (43 ∷ again) ∷ r.qual ∷ lines text
four_lines end again r text p = grind (arith, common_steps)

-- a record is written as such lines
written_four : (r : Read) (text : List ℕ) → written r.title r.seq r.qual ++ text ≡ four (10 ∷ []) []
    r text
written_four r text = grind (arith, common_steps)

-- each quality byte of a valid record is from 33 to 126, as a base is
pub quals_are_bases : (r : Read) → IsLawful r → list_all is_base r.qual ≡ true
quals_are_bases r lawful = scored_bases r.encoding r.qual lawful.scores

its_lines : (r : Read) → IsLawful r → without_cr r.title ≡ r.title → AreItsLines (10 ∷ []) [] r
its_lines r lawful plain =
    grind (arith, common_steps, ends_in_lf, plain_behind, clean_bases, plain_bases, quals_are_bases)

-- no line has a fault
sound_title : (title : List ℕ) → length title < limit → title_fault (64 ∷ title) ≡ None
sound_title title fits = cond-false _ _ _ (le-ltb limit (length (64 ∷ title)) (omega arith))

sound_seq : (seq : List ℕ) → length seq ≤ limit → list_all is_base seq ≡ true →
    begins_with 64 seq ≡ false → sequence_fault 0 seq ≡ None
sound_seq seq fits bases plain = grind (arith, common_steps)

-- quality bytes with scores, as many as bases, have no fault
pub sound_qual : (e : Encoding) (bases : ℕ) (qual : List ℕ) → bases ≤ limit → length qual ≡ bases →
    list_all (is_scored e) qual ≡ true → quality_fault e bases 0 qual ≡ None
sound_qual e bases qual fits same scores = grind (arith, common_steps)

-- the way to the quality
pub to_quality : (end again : List ℕ) (r : Read) (ls : List (List ℕ)) → AreItsLines end again r →
    front r.encoding ((64 ∷ r.title) ∷ r.seq ∷ (43 ∷ again) ∷ ls)
    ≡ in_quality r.encoding r.title r.seq [] ls
to_quality end again r ls p =
    let lawful = p.lawful in
    title_goes r.encoding 64 r.title (r.seq ∷ (43 ∷ again) ∷ ls)
    (sound_title r.title lawful.title_fits)
    ∙ sequence_goes r.encoding r.title [] r.seq ((43 ∷ again) ∷ ls) (not-true _ lawful.no_plus)
    (sound_seq r.seq lawful.seq_fits lawful.bases (not-true _ lawful.no_title))
    ∙ sequence_ends r.encoding r.title r.seq (43 ∷ again) ls refl
    ∙ plus_goes r.encoding r.title r.seq (43 ∷ again) ls p.same

nil_qual : (qual : List ℕ) → length qual ≡ 0 → qual ≡ []
nil_qual qual none = grind (arith, common_steps)

-- the lines begin with the record, and after it comes what the other lines begin with
record StandsBefore (encoding : Encoding) (read : Read) (ls others : List (List ℕ)) : Type 0 where
  rest : List (List ℕ)
  found : front encoding ls ≡ Found read rest
  then : front encoding rest ≡ front encoding others

-- a record without bases leaves its empty quality line unread
stands_before : (r : Read) (text : List ℕ) → IsLawful r → without_cr r.title ≡ r.title →
    StandsBefore r.encoding r (lines (written r.title r.seq r.qual ++ text)) (lines text)
stands_before r text lawful plain =
    let same = lawful.same_len in
    let fits = lawful.seq_fits in
    let its = its_lines r lawful plain in
    let four = ap (λ xs. front r.encoding (lines xs)) (written_four r text)
    ∙ ap (front r.encoding) (four_lines (10 ∷ []) [] r text its)
    ∙ to_quality (10 ∷ []) [] r (r.qual ∷ lines text) its in
    ⊎_elim
    (λ none.
    let empty : r.qual ≡ [] = nil_qual r.qual (omega arith) in
    record {
      rest = r.qual ∷ lines text;
      found = four ∙ quality_ends r.encoding r.title r.seq [] (r.qual ∷ lines text) (omega arith)
          ∙ ap (λ q. Found (record {
            encoding = r.encoding;
            title = r.title;
            seq = r.seq;
            qual =
                q;
          }) (r.qual ∷ lines text)) (sym empty);
      then = ap (λ q. front r.encoding (q ∷ lines text)) empty;
    })
    (λ some.
    record {
      rest = lines text;
      found = four ∙ quality_goes r.encoding r.title r.seq [] r.qual (lines text) (omega arith)
          (sound_qual r.encoding (length r.seq) r.qual fits same lawful.scores)
          ∙ quality_ends r.encoding r.title r.seq r.qual (lines text) (omega arith);
      then = refl;
    })
    (Rattle.std.proofs.lemmas.Bool.cases_eq (length r.seq) 0)

-- the records of lines that begin with one: that record, and then those of the lines after it
records_of : (n : ℕ) (e : Encoding) (r : Read) (ls others : List (List ℕ)) → length others < n →
    StandsBefore e r ls others →
    records_within (suc (suc n)) e ls ≡ with_first r (records_within (suc (length others)) e others)
records_of n e r ls others fewer stands =
    grind (arith, common_steps, room_enough (suc n) (suc (length others)) e others)

-- a valid record reads back
reads_lawful : (r : Read) (text : List ℕ) → IsLawful r → without_cr r.title ≡ r.title →
    records r.encoding (written r.title r.seq r.qual ++ text)
    ≡ with_first r (records r.encoding text)
reads_lawful r text lawful plain =
    let whole = lines (written r.title r.seq r.qual ++ text) in
    let len : suc (length whole) ≡ suc (suc (length (lines text) + 3)) =
    omega (
      arith,
      ap (λ xs. length (lines xs)) (written_four r text),
      ap length
          (four_lines (10 ∷ []) [] r text (its_lines r lawful plain)),
    ) in
    ap (λ n. records_within n r.encoding whole) len
    ∙ records_of (length (lines text) + 3) r.encoding r whole (lines text) (omega arith)
    (stands_before r text lawful plain)

-- recoding keeps a record valid
lawful_as_written : (recode : Option Encoding) (r : Read) → IsLawful r → CanRecode recode r.qual →
    IsLawful (as_written recode r)
lawful_as_written recode r lawful can = grind (arith, common_steps, length-map, all_recoded_scored)

-- a valid record whose title does not end in CR reads back, recoded or not, before any text
pub reads_back : ReadsBack
reads_back r None text lawful plain can = reads_lawful r text lawful plain
reads_back r (Some e) text lawful plain can =
    reads_lawful (as_written (Some e) r) text (lawful_as_written (Some e) r lawful can) plain
