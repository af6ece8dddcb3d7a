-- A record of four lines at the front of some bytes.
use Rattle.std.proofs.Common.{◌≡◌, ℕ, zero, suc, ◌+◌, ◌-◌, ◌*◌, ◌<◌, ◌≤◌, Bool, true, false, not, eqb, ⊎_elim, List, length, take, drop, get_or, refl, ap, sym, subst, ◌∙◌, arith}
use Rattle.std.specs.List.{list_all}
use Rattle.std.proofs.lemmas.List.{drop-drop, get_or-drop, get_or-take, take-take, drop-take, length-take, length-drop}
use Rattle.std.proofs.lemmas.Grind.{common_steps}
use Rattle.fq_text.specs.declared.encoding.Encoding.{Encoding}
use Rattle.fq_text.specs.declared.unwrapped.Shape.{Shape}
use Rattle.fq_text.specs.Lines.{without_cr}
use Rattle.fq_text.specs.Grammar.{is_base}
use Rattle.fq_text.specs.Reading.{NoLf}
use Rattle.fq_text.specs.Unwrapped.{unwrapped, lines_len, EndsAt, IsFirstLine, BeginsWithRecord}
use Rattle.fq_text.proofs.LineLemmas.{without_cr_yes, without_cr_no}
use Rattle.fq_text.proofs.WrittenLemmas.{plain_bases, quals_are_bases}

-- a first part of the bytes in hand that is long enough holds the same record
pub unwrapped_front : (encoding : Encoding) (bytes : List ℕ) (s : Shape) (k : ℕ) →
    s.title + s.bases + s.bases + s.again + 3 * s.end + 1 ≤ k →
    unwrapped encoding s (take k bytes) ≡ unwrapped encoding s bytes
unwrapped_front encoding bytes s k le =
    let part : (a m : ℕ) → a + m ≤ k → take m (drop a (take k bytes)) ≡ take m (drop a bytes) =
    λ a m within. let sum : a + (k - a) ≡ k = omega arith in
    ap (λ j. take m (drop a (take j bytes))) (sym sum) ∙ ap (take m) (drop-take a (k - a) bytes)
    ∙ take-take m (k - a) (drop a bytes) (omega arith) in
    let title = take-take s.title k bytes (omega arith) in
    let seq = part (s.title + s.end) s.bases (omega arith) in
    let qual = part (s.title + s.bases + s.again + 3 * s.end + 1) s.bases (omega arith) in
    cc

-- Where the lines end.

-- a byte that fails a test is at no index below n, if the bytes there all pass it
not_at : (test : ℕ → Bool) (b n : ℕ) (xs : List ℕ) → test b ≡ false → n ≤ length xs →
    list_all test (take n xs) ≡ true → (k : ℕ) → k < n → get_or xs k 0 ≡ b → ⊥
not_at test b n xs fails within passes k lt is = grind (arith, common_steps)

-- there is one first LF
one_end : (xs : List ℕ) (a b : ℕ) → NoLf xs a → get_or xs a 0 ≡ 10 → NoLf xs b →
    get_or xs b 0 ≡ 10 → a ≡ b
one_end xs a b none_a at_a none_b at_b = grind (arith, common_steps)

-- a line end after an index
shifted : (i : ℕ) (hand : List ℕ) (k e : ℕ) → 1 ≤ e → EndsAt hand (i + k) e →
    EndsAt (drop i hand) k e
shifted i hand k e some p = grind (arith, common_steps)

-- no LF is before that of the line end
no_lf_to_end : (xs : List ℕ) (k e : ℕ) → IsFirstLine xs k e → NoLf xs (k + e - 1)
no_lf_to_end xs k e p j lt at = grind (arith, common_steps)

some_end : {xs : List ℕ} {k e : ℕ} → IsFirstLine xs k e → 1 ≤ e
some_end p = ⊎_elim (λ one. omega arith) (λ two. omega arith) p.end_is

-- if a line end is LF alone, no CR is before it
no_cr_before : (xs : List ℕ) (k e : ℕ) → IsFirstLine xs k e → e ≡ 1 → 1 ≤ k →
    get_or xs (k - 1) 0 ≡ 13 → ⊥
no_cr_before xs k e p one some cr =
    grind (arith, common_steps, length-take k xs, get_or-take k xs (k - 1) 0, without_cr_yes)

-- a line that does not end in CR keeps all its bytes
pub plain_to : (xs : List ℕ) (k : ℕ) → k ≤ length xs → (1 ≤ k → get_or xs (k - 1) 0 ≡ 13 → ⊥) →
    without_cr (take k xs) ≡ take k xs
plain_to xs zero le none = refl
plain_to xs (suc n) le none =
    grind (arith, common_steps, length-take (suc n) xs, without_cr_no, get_or-take (suc n) xs n 0)

-- there is one first line, and it has one line end
one_end_of : (xs : List ℕ) (k e k' e' : ℕ) → IsFirstLine xs k e → IsFirstLine xs k' e' →
    k + e ≡ k' + e' → e ≡ 1 → e' ≡ 2 → ⊥
one_end_of xs k e k' e' p q same one two = grind (arith, common_steps, no_cr_before)

-- a text has one first line, with one line end
pub same_line : (xs : List ℕ) (k e k' e' : ℕ) → IsFirstLine xs k e → IsFirstLine xs k' e' →
    (k ≡ k') × (e ≡ e')
same_line xs k e k' e' p q =
    grind (arith, common_steps, some_end, one_end, no_lf_to_end, one_end_of)

-- a first line has its LF
pub first_line_ends : (xs : List ℕ) (k e : ℕ) → IsFirstLine xs k e → NoLf xs (length xs) → ⊥
first_line_ends xs k e p none = grind (arith, common_steps)

module _ (encoding : Encoding) (hand : List ℕ) (s : Shape)
    (p : BeginsWithRecord encoding hand s) where
  -- the last of these bytes has a score, so it is not CR
  lines_plain : without_cr (take (lines_len s) hand) ≡ take (lines_len s) hand
  lines_plain =
      let start = s.title + s.bases + s.again + 3 * s.end + 2 in
      let behind : 1 + (s.title + s.bases + s.again + 3 * s.end + 1) ≡ start = omega arith in
      let qual : drop (s.title + s.bases + s.again + 3 * s.end + 1) (drop 1 hand)
      ≡ drop start hand = drop-drop (s.title + s.bases + s.again + 3 * s.end + 1) 1 hand
      ∙ ap (λ m. drop m hand) behind in
      let bases = subst (λ xs. list_all is_base (take s.bases xs) ≡ true) qual
      (quals_are_bases (unwrapped encoding s (drop 1 hand)) p.lawful) in
      let last : start + (s.bases - 1) ≡ lines_len s - 1 = omega arith in
      plain_to hand (lines_len s) (omega arith)
      (λ _ cr. not_at is_base 13 s.bases (drop start hand) refl
      (omega (arith, length-drop start hand)) bases (s.bases - 1) (omega arith)
      (get_or-drop start hand (s.bases - 1) 0 ∙ ap (λ m. get_or hand m 0) last ∙ cr))

  -- what is taken up to the end of the last line holds the same record
  pub taken_same : (taken : List ℕ) → taken ≡ without_cr (take (lines_len s) hand) →
      unwrapped encoding s (drop 1 taken) ≡ unwrapped encoding s (drop 1 hand)
  taken_same taken is =
      let len : 1 + (lines_len s - 1) ≡ lines_len s = omega arith in
      ap (λ xs. unwrapped encoding s (drop 1 xs)) (is ∙ lines_plain
      ∙ ap (λ m. take m hand) (sym len))
      ∙ ap (unwrapped encoding s) (drop-take 1 (lines_len s - 1) hand)
      ∙ unwrapped_front encoding (drop 1 hand) s (lines_len s - 1) (omega arith)

  -- and all of the record
  pub taken_whole : (taken : List ℕ) → taken ≡ without_cr (take (lines_len s) hand) →
      lines_len s ≤ length taken
  taken_whole taken is = grind (arith, common_steps, lines_plain, length-take)

  end_of_shape : 1 ≤ s.end
  end_of_shape = ⊎_elim (λ one. omega arith) (λ two. omega arith) p.shape.end

  -- the title of the record at the front is the first line
  pub title_line : IsFirstLine (drop 1 hand) s.title s.end
  title_line =
      let fits = p.lines.fits in
      let some = end_of_shape in
      let place : s.title + 1 ≡ 1 + s.title = omega arith in
      record {
        end_is = p.shape.end;
        fits = omega (arith, length-drop 1 hand);
        no_lf = not_at (λ b. not (eqb b 10)) 10 s.title (drop 1 hand) refl
            (omega (arith, length-drop 1 hand)) p.lawful.one_line;
        ends = shifted 1 hand s.title s.end some
            (subst (λ (m : ℕ). EndsAt hand m s.end) place p.lines.ends.title);
        plain = p.plain;
      }

  -- and its bases are the first line after the title
  bases_line : IsFirstLine (drop (s.title + s.end + 1) hand) s.bases s.end
  bases_line =
      let fits = p.lines.fits in
      let some = end_of_shape in
      let place : s.title + s.bases + s.end + 1 ≡ s.title + s.end + 1 + s.bases = omega arith in
      let behind : 1 + (s.title + s.end) ≡ s.title + s.end + 1 = omega arith in
      let seq : drop (s.title + s.end) (drop 1 hand) ≡ drop (s.title + s.end + 1) hand =
      drop-drop (s.title + s.end) 1 hand ∙ ap (λ m. drop m hand) behind in
      let bases = subst (λ xs. list_all is_base (take s.bases xs) ≡ true) seq p.lawful.bases in
      record {
        end_is = p.shape.end;
        fits = omega (arith, length-drop (s.title + s.end + 1) hand);
        no_lf = not_at is_base 10 s.bases (drop (s.title + s.end + 1) hand) refl
            (omega (arith, length-drop (s.title + s.end + 1) hand)) bases;
        ends = shifted (s.title + s.end + 1) hand s.bases s.end some
            (subst (λ (m : ℕ). EndsAt hand m s.end) place p.lines.ends.seq);
        plain = λ one. plain_bases (take s.bases (drop (s.title + s.end + 1) hand)) bases;
      }

  -- both, if the first line was found
  pub as_found : (t k : ℕ) → IsFirstLine (drop 1 hand) t k →
      (t ≡ s.title) × (k ≡ s.end) × IsFirstLine (drop (t + k + 1) hand) s.bases s.end
  as_found t k title =
      let same = same_line (drop 1 hand) t k s.title s.end title title_line in
      let place : s.title + s.end + 1 ≡ t + k + 1 = cc in
      (same.0, same.1, subst (λ (m : ℕ). IsFirstLine (drop m hand) s.bases s.end) place bases_line)

-- a shape by its parts
pub shape_is : (s : Shape) (t n e : ℕ) → t ≡ s.title → n ≡ s.bases → e ≡ s.end →
    s ≡ record { title = t; bases = n; end = e; again = s.again }
shape_is s t n e title bases end = grind (arith, common_steps)
