use Rattle.std.proofs.Common.{◌≡◌, ◌+◌, List, ℕ, ap, sym, subst, ◌∙◌, arith, [], ◌∷◌, ◌++◌, refl, true, ◌&&◌, map, append_assoc, ◌<◌, length, zero, suc, take, drop, get_or, ◌-◌, ◌⊎◌, inl, inr, ◌≤◌, ⊎_elim, ◌*◌, not, None, bytes_eq}
use Rattle.std.specs.List.{list_all}
use Rattle.std.proofs.lemmas.List.Folds.{list_all-append}
use Rattle.std.proofs.Math.Seq.{take-add}
use Rattle.std.proofs.lemmas.List.{drop-drop, append-nil, length-take, length-drop}
use Rattle.std.proofs.lemmas.Bool.{le-ltb, or_right}
use Rattle.std.proofs.lemmas.Slice.Eq.{bytes_eq-Decides}
use Rattle.std.proofs.lemmas.Grind.{common_steps}
use Rattle.fq_text.specs.Grammar.{Read, Found, front, limit, plus_fault, IsLawful}
use Rattle.fq_text.specs.Reading.{Lined}
use Rattle.fq_text.specs.Phases.{Goes}
use Rattle.fq_text.specs.Unwrapped.{lines_len, BeginsWithRecord, EndsAt, unwrapped, IsFourLines}
use Rattle.fq_text.specs.Lines.{without_cr, lines, is_whole}
use Rattle.fq_text.specs.declared.unwrapped.Shape.{Shape}
use Rattle.fq_text.specs.declared.encoding.Encoding.{Encoding}
use Rattle.fq_text.specs.Devices.{FeedState}
use Rattle.fq_text.proofs.AdvanceLemmas.{behind_line, behind_reads, reads_none}
use Rattle.fq_text.proofs.UnwrappedLemmas.{taken_same}
use Rattle.fq_text.proofs.WrittenLemmas.{not_lf, Ends, pieces_line, AreItsLines, sound_qual, four_lines, four, to_quality, ends_in_lf, clean_bases, plain_bases, plain_behind, quals_are_bases}
use Rattle.fq_text.proofs.GrammarLemmas.{quality_goes, quality_ends}
use Rattle.fq_text.proofs.LineLemmas.{whole_to}
use Rattle.fq_text.proofs.parse.take_in_hand.Goals as goal

without_last_cr : (l : List ℕ) → without_cr (l ++ 13 ∷ []) ≡ l
without_last_cr [] = refl
without_last_cr (b ∷ []) = refl
without_last_cr (b ∷ c ∷ bs) = ap (λ xs. b ∷ xs) (without_last_cr (c ∷ bs))

-- bytes without an LF are one line if CR and LF follow
ends_in_cr_lf : (l : List ℕ) → list_all not_lf l ≡ true → Ends (13 ∷ 10 ∷ []) l
ends_in_cr_lf l clean ys =
    let all : list_all not_lf (l ++ 13 ∷ []) ≡ true = list_all-append not_lf l (13 ∷ [])
    ∙ ap (λ b. b && true) clean in
    ap lines (append_assoc l (13 ∷ 10 ∷ []) ys ∙ sym (append_assoc l (13 ∷ []) (10 ∷ ys)))
    ∙ ap (map without_cr) (pieces_line (l ++ 13 ∷ []) ys all)
    ∙ ap (λ m. m ∷ lines ys) (without_last_cr l)

-- four lines that are a record with bases are the record at the front, whatever lines follow
found_first : (end again : List ℕ) (r : Read) (ls : List (List ℕ)) → AreItsLines end again r →
    0 < length r.seq →
    front r.encoding (lines (four end again r []) ++ ls) ≡ Found r ls
found_first end again r ls p some =
    let lawful = p.lawful in
    let same = lawful.same_len in
    ap (λ xs. front r.encoding (xs ++ ls)) (four_lines end again r [] p)
    ∙ to_quality end again r (r.qual ∷ ls) p
    ∙ quality_goes r.encoding r.title r.seq [] r.qual ls (omega arith)
    (sound_qual r.encoding (length r.seq) r.qual lawful.seq_fits same lawful.scores)
    ∙ quality_ends r.encoding r.title r.seq r.qual ls (omega arith)

one_at : (xs : List ℕ) (i b : ℕ) → i < length xs → get_or xs i 0 ≡ b → take 1 (drop i xs) ≡ b ∷ []
one_at [] i b lt is = absurd (omega arith)
one_at (x ∷ xs) zero b lt is = ap (λ y. y ∷ []) is
one_at (x ∷ xs) (suc i) b lt is = one_at xs i b (omega arith) is

-- c bytes from index i on are a bytes, and then b bytes
parted : (xs : List ℕ) (i j a b c : ℕ) → a + b ≡ c → i + a ≡ j →
    take c (drop i xs) ≡ take a (drop i xs) ++ take b (drop j xs)
parted xs i j a b c sum place = grind (arith, common_steps, take-add, drop-drop)

-- a line end of one byte, or of two
abbrev IsEnd : ℕ → Type 0
IsEnd e = (e ≡ 1) ⊎ (e ≡ 2)

abbrev bytes_of : {e : ℕ} → IsEnd e → List ℕ
bytes_of (inl one) = 10 ∷ []
bytes_of (inr two) = 13 ∷ 10 ∷ []

end_at : (hand : List ℕ) (i e : ℕ) (is : IsEnd e) → i + e ≤ length hand → EndsAt hand i e →
    take e (drop i hand) ≡ bytes_of is
end_at hand i e is within p = grind (arith, common_steps)

-- a line of k bytes at index i, with its line end
line_at : (hand : List ℕ) (i k j e c : ℕ) (is : IsEnd e) → i + k ≡ j → k + e ≡ c →
    j + e ≤ length hand → EndsAt hand j e →
    take c (drop i hand) ≡ take k (drop i hand) ++ bytes_of is
line_at hand i k j e c is place sum within p = grind (arith, common_steps, parted, end_at)

-- a line after a mark
marked_at : (hand : List ℕ) (i b k j e c : ℕ) (is : IsEnd e) → get_or hand i 0 ≡ b → i + 1 + k ≡ j →
    k + e + 1 ≡ c → j + e ≤ length hand → EndsAt hand j e →
    take c (drop i hand) ≡ (b ∷ take k (drop (i + 1) hand)) ++ bytes_of is
marked_at hand i b k j e c is mark place sum within p =
    parted hand i (i + 1) 1 (k + e) c (omega arith) refl
    ∙ ap (λ ys. ys ++ take (k + e) (drop (i + 1) hand)) (one_at hand i b (omega arith) mark)
    ∙ ap (λ ys. b ∷ ys) (line_at hand (i + 1) k j e (k + e) is place refl within p)

-- the length of four lines of a shape
abbrev four_len : Shape → ℕ
four_len s = s.title + s.bases + s.bases + s.again + 4 * s.end + 2

module _ (encoding : Encoding) (hand : List ℕ) (s : Shape) (p : IsFourLines hand s)
    (is : IsEnd s.end) where
  -- the bytes in hand begin with the four lines of the record
  lines_first : take (four_len s) hand ≡ four (bytes_of is) (take s.again (drop 1 hand)) (unwrapped
      encoding s (drop 1 hand)) []
  lines_first =
      let t = s.title in
      let n = s.bases in
      let a = s.again in
      let e = s.end in
      let end = bytes_of is in
      let title = take t (drop 1 hand) in
      let seq = take n (drop (t + e + 1) hand) in
      let qual = take n (drop (t + n + a + 3 * e + 2) hand) in
      let first : take (t + e + 1) (drop 0 hand) ≡ (64 ∷ title) ++ end =
      marked_at hand 0 64 t (t + 1) e (t + e + 1) is p.mark (omega arith) (omega arith)
      (omega arith) p.ends.title in
      let second : take (n + e) (drop (t + e + 1) hand) ≡ seq ++ end =
      line_at hand (t + e + 1) n (t + n + e + 1) e (n + e) is (omega arith) refl (omega arith)
      p.ends.seq in
      let third : take (a + e + 1) (drop (t + n + 2 * e + 1) hand)
      ≡ (43 ∷ take a (drop (t + n + 2 * e + 1 + 1) hand)) ++ end =
      marked_at hand (t + n + 2 * e + 1) 43 a (t + n + a + 2 * e + 2) e (a + e + 1) is p.plus
      (omega arith) (omega arith) (omega arith) p.ends.plus in
      let fourth : take (n + e) (drop (t + n + a + 3 * e + 2) hand) ≡ qual ++ end =
      line_at hand (t + n + a + 3 * e + 2) n (t + n + n + a + 3 * e + 2) e (n + e) is
      (omega arith) refl (omega arith) p.ends.qual in
      let again : take a (drop (t + n + 2 * e + 1 + 1) hand) ≡ take a (drop 1 hand) = p.repeats in
      let from_third : take (a + n + 2 * e + 1) (drop (t + n + 2 * e + 1) hand)
      ≡ ((43 ∷ take a (drop 1 hand)) ++ end) ++ (qual ++ end) =
      parted hand (t + n + 2 * e + 1) (t + n + a + 3 * e + 2) (a + e + 1) (n + e)
      (a + n + 2 * e + 1) (omega arith) (omega arith)
      ∙ ap (λ ys. ys ++ take (n + e) (drop (t + n + a + 3 * e + 2) hand)) (third
      ∙ ap (λ ys. (43 ∷ ys) ++ end) again)
      ∙ ap (λ ys. ((43 ∷ take a (drop 1 hand)) ++ end) ++ ys) fourth in
      let from_second : take (n + a + n + 3 * e + 1) (drop (t + e + 1) hand)
      ≡ (seq ++ end) ++ (((43 ∷ take a (drop 1 hand)) ++ end) ++ (qual ++ end)) =
      parted hand (t + e + 1) (t + n + 2 * e + 1) (n + e) (a + n + 2 * e + 1)
      (n + a + n + 3 * e + 1) (omega arith) (omega arith)
      ∙ ap (λ ys. ys ++ take (a + n + 2 * e + 1) (drop (t + n + 2 * e + 1) hand)) second
      ∙ ap (λ ys. (seq ++ end) ++ ys) from_third in
      let place_seq : drop (t + e) (drop 1 hand) ≡ drop (t + e + 1) hand = drop-drop (t + e) 1 hand
      ∙ ap (λ m. drop m hand) (omega arith) in
      let place_qual : drop (t + n + a + 3 * e + 1) (drop 1 hand)
      ≡ drop (t + n + a + 3 * e + 2) hand = drop-drop (t + n + a + 3 * e + 1) 1 hand
      ∙ ap (λ m. drop m hand) (omega arith) in
      parted hand 0 (t + e + 1) (t + e + 1) (n + a + n + 3 * e + 1) (four_len s) (omega arith)
      (omega arith)
      ∙ ap (λ ys. ys ++ take (n + a + n + 3 * e + 1) (drop (t + e + 1) hand)) first
      ∙ ap (λ ys. ((64 ∷ title) ++ end) ++ ys) from_second
      ∙ ap (λ ys.
      ((64 ∷ title) ++ end) ++ ((seq ++ end) ++ (((43 ∷ take a (drop 1 hand)) ++ end) ++ ys)))
      (sym (append-nil (qual ++ end)))
      ∙ ap (λ ys.
      ((64 ∷ title) ++ end) ++ ((take n ys ++ end) ++ (((43 ∷ take a
      (drop 1 hand)) ++ end) ++ ((qual ++ end) ++ [])))) (sym place_seq)
      ∙ ap (λ ys. ((64 ∷ title) ++ end) ++ ((take n (drop (t + e)
      (drop 1 hand)) ++ end) ++ (((43 ∷ take a (drop 1 hand)) ++ end) ++ ((take n
      ys ++ end) ++ [])))) (sym place_qual)

  -- the bytes used up to the end of such lines are complete lines
  whole_first : is_whole (take (four_len s) hand) ≡ true
  whole_first =
      let last = s.title + s.bases + s.bases + s.again + 3 * s.end + 2 + s.end - 1 in
      let len : four_len s ≡ suc last = omega arith in
      ap (λ m. is_whole (take m hand)) len ∙ whole_to hand last (omega arith) p.ends.qual.lf

-- what follows the second mark is nothing, or the title
plus_is_sound : (title again : List ℕ) → length title < limit → (again ≡ []) ⊎ (again ≡ title) →
    plus_fault title (43 ∷ again) ≡ None
plus_is_sound title again fits is =
    grind (arith, common_steps, le-ltb, bytes_eq-Decides, not, or_right, bytes_eq)

ends_plus : (end title again : List ℕ) → (again ≡ []) ⊎ (again ≡ title) → Ends end (43 ∷ []) →
    Ends end (43 ∷ title) → Ends end (43 ∷ again)
ends_plus end title again is bare titled = grind (arith, common_steps)

-- the lines of a valid record give the record
lawful_lines : {e : ℕ} (is : IsEnd e) (r : Read) (again : List ℕ) → IsLawful r →
    (e ≡ 1 → without_cr r.title ≡ r.title) → (again ≡ []) ⊎ (again ≡ r.title) →
    AreItsLines (bytes_of is) again r
lawful_lines (inl one) r again lawful plain shape =
    let quals = quals_are_bases r lawful in
    record {
      lawful = lawful;
      title = ends_in_lf (64 ∷ r.title) lawful.one_line (plain_behind 64 r.title refl (plain one));
      seq = ends_in_lf r.seq (clean_bases r.seq lawful.bases) (plain_bases r.seq lawful.bases);
      plus = ends_plus (10 ∷ []) r.title again shape (ends_in_lf (43 ∷ []) refl refl)
          (ends_in_lf (43 ∷ r.title) lawful.one_line (plain_behind 43 r.title refl (plain one)));
      qual = ends_in_lf r.qual (clean_bases r.qual quals) (plain_bases r.qual quals);
      same = plus_is_sound r.title again lawful.title_fits shape;
    }
lawful_lines (inr two) r again lawful plain shape =
    let quals = quals_are_bases r lawful in
    record {
      lawful = lawful;
      title = ends_in_cr_lf (64 ∷ r.title) lawful.one_line;
      seq = ends_in_cr_lf r.seq (clean_bases r.seq lawful.bases);
      plus = ends_plus (13 ∷ 10 ∷ []) r.title again shape (ends_in_cr_lf (43 ∷ []) refl)
          (ends_in_cr_lf (43 ∷ r.title) lawful.one_line);
      qual = ends_in_cr_lf r.qual (clean_bases r.qual quals);
      same = plus_is_sound r.title again lawful.title_fits shape;
    }

its_lines : (encoding : Encoding) (hand : List ℕ) (s : Shape)
    (p : BeginsWithRecord encoding hand s) →
    AreItsLines (bytes_of p.shape.end) (take s.again (drop 1 hand))
    (unwrapped encoding s (drop 1 hand))
its_lines encoding hand s p =
    let again : (take s.again (drop 1 hand) ≡ [])
    ⊎ (take s.again (drop 1 hand) ≡ take s.title (drop 1 hand)) =
    ⊎_elim (λ none. inl (ap (λ (m : ℕ). take m (drop 1 hand)) none))
    (λ same. inr (ap (λ (m : ℕ). take m (drop 1 hand)) same)) p.shape.again in
    lawful_lines p.shape.end (unwrapped encoding s (drop 1 hand)) (take s.again (drop 1 hand))
    p.lawful p.plain again

-- such a record is the one at the front, whatever lines follow
found_in_hand : (encoding : Encoding) (hand : List ℕ) (s : Shape) (ls : List (List ℕ)) →
    BeginsWithRecord encoding hand s →
    front encoding (lines (take (four_len s) hand) ++ ls)
    ≡ Found (unwrapped encoding s (drop 1 hand)) ls
found_in_hand encoding hand s ls p =
    let r = unwrapped encoding s (drop 1 hand) in
    ap (λ xs. front encoding (lines xs ++ ls)) (lines_first encoding hand s p.lines p.shape.end)
    ∙ found_first (bytes_of p.shape.end) (take s.again (drop 1 hand)) r ls
    (its_lines encoding hand s p)
    (omega (
      arith,
      length-take s.bases (drop (s.title + s.end) (drop 1 hand)),
      length-drop
          (s.title + s.end) (drop 1 hand),
      length-drop 1 hand,
      p.some,
    ))

module _ {F : Type 0} (state : F → FeedState) where
  -- a reader that takes a record out of the bytes in hand is after it
  goes_first : (a b : Lined F) (encoding : Encoding) (s : Shape) (k : ℕ) →
      b ≡ behind_line a k (four_len s) → BeginsWithRecord encoding a.in_hand s →
      Goes state a b (front encoding) (Found (unwrapped encoding s (drop 1 a.in_hand)))
  goes_first a b encoding s k is p =
      let len = four_len s in
      subst (λ (r : Lined F). Goes state a r (front encoding)
      (Found (unwrapped encoding s (drop 1 a.in_hand)))) (sym is) (record {
        used = take len a.in_hand;
        reads = behind_reads k len (reads_none a);
        closed = inl (whole_first encoding a.in_hand s p.lines p.shape.end);
        answer = λ ls. found_in_hand encoding a.in_hand s ls p;
        small = λ lt. omega (arith, length-drop len a.in_hand);
      })

-- the record in hand is the next of the text, and the reader is after it
pub returns-clause-found : goal.returns-clause-found
returns-clause-found g c =
    let e = c.args.encoding in
    let s = c.in_ok-shape.shape in
    let a = c.args.lines.now in
    let b = c.take_line.new.self in
    let first = subst (λ (h : List ℕ). BeginsWithRecord e h s) c.hand-hand.ensures
    c.in_ok-shape.ensures.found in
    let took = rw c.lines_len-len.ensures at c.take_line.ensures in
    let line = ap (λ (r : Lined g.row.F.Denot). r.line) took in
    let used : lines_len s + s.end ≡ four_len s = omega arith in
    subst (λ (r : Read). Goes g.F.Feed.state a b (front e) (Found r))
    (sym (taken_same e a.in_hand s first b.line line))
    (goes_first g.F.Feed.state a b e s (lines_len s) (took
    ∙ ap (λ n. behind_line a (lines_len s) n) used) first)
