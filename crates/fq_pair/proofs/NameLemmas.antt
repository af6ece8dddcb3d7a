-- The end of a mate's name in its title.
use Rattle.std.proofs.Common.{◌≡◌, ℕ, ◌-◌, ◌<◌, ◌≤◌, true, false, eqb, Option, Some, None, unwrap_or, List, length, take, get_or, zero-le, ap, sym, ◌∙◌, arith, inl, inr}
use Rattle.std.specs.List.{before_first, position_or_len}
use Rattle.std.specs.Str.{bytes_eq}
use Rattle.std.proofs.lemmas.Bool.{cases_lt, false_from_ne_true}
use Rattle.std.proofs.lemmas.Bool.Decides.{same_from_decides, Decides-eqb, Decides-like}
use Rattle.std.proofs.lemmas.Grind.{common_steps, same_number_lists}
use Rattle.std.proofs.lemmas.List.{length-take, get_or-take}
use Rattle.std.proofs.Math.Seq.{take-length}
use Rattle.std.proofs.lemmas.Slice.Eq.{bytes_eq-Decides}
use Rattle.std.proofs.lemmas.List.Sums.{position_or_len_is, fails_before_first}
use Rattle.memchr.specs.Find.{IsFirstByte, is_byte2}
use Rattle.fq_pair.specs.declared.name.NameLengths.{NameLengths}
use Rattle.fq_pair.specs.declared.side.Side.{Side}
use Rattle.fq_pair.specs.declared.side.Side.TheVariants.{Forward, Reverse}
use Rattle.fq_pair.specs.Mates.{is_gap, mark_of, without_end, name_of, lengths_of}

-- the place of the first blank or tab, or the length
word_end : (title : List ℕ) (r : Option ℕ) → IsFirstByte (is_byte2 32 9) title r →
    position_or_len is_gap title ≡ unwrap_or r (length title)
word_end title None none =
    position_or_len_is is_gap title (length title) 0 (omega arith)
    (λ k lt. false_from_ne_true (is_gap (get_or title k 0)) (none k (zero-le {n = k}) lt))
    (λ lt. absurd (omega arith))
word_end title (Some end) is =
    grind (arith, common_steps, position_or_len_is, false_from_ne_true, zero-le)

-- a title up to its first blank or tab, or all of it if it has none, is its first word
pub word_is : (title : List ℕ) (r : Option ℕ) (end : ℕ) → IsFirstByte (is_byte2 32 9) title r →
    end ≡ unwrap_or r (length title) → take end title ≡ before_first is_gap title
word_is title r end first is = ap (λ n. take n title) (is ∙ sym (word_end title r first))

-- the first word of a word is all of it
pub word_of_word : (title : List ℕ) → before_first is_gap (before_first is_gap title) ≡ before_first
    is_gap title
word_of_word title =
    let n = position_or_len is_gap title in
    let word = take n title in
    let long = length-take n title in
    let all : position_or_len is_gap word ≡ length word =
    position_or_len_is is_gap word (length word) 0 (omega arith)
    (λ k lt.
    let within : k < n = omega arith in
    ap is_gap (get_or-take n title k 0 within) ∙ fails_before_first is_gap title k 0 within)
    (λ lt. absurd (omega arith)) in
    ap (λ (m : ℕ). take m word) all ∙ take-length word

-- No byte of a word is a gap.
no_gap : (word : List ℕ) → before_first is_gap word ≡ word → (k : ℕ) → k < length word →
    is_gap (get_or word k 0) ≡ false
no_gap word is k lt = grind (arith, common_steps, length-take, fails_before_first)

-- A title that begins like a word, and goes on like one, begins with a word of its length.
pub word_beside : (title word : List ℕ) → before_first is_gap word ≡ word → 0 < length word →
    length word ≤ length title
    → take (length word - 1) title ≡ take (length word - 1) word →
    is_gap (get_or title (length word - 1) 0) ≡ false
    → (length word < length title → is_gap (get_or title (length word) 0) ≡ true)
    → take (length word) title ≡ before_first is_gap title
word_beside title word is some within like last end =
    let n = length word in
    ap (λ (m : ℕ). take m title) (sym (position_or_len_is is_gap title n 0 within
    (λ k lt. elim (cases_lt k (n - 1)) [
      | inl front ↦ ap is_gap (sym (get_or-take (n - 1) title k 0 front)
          ∙ ap (λ (bytes : List ℕ). get_or bytes k 0) like ∙ get_or-take (n - 1) word k 0 front)
          ∙ no_gap word is k lt
      | inr past ↦ ap (λ (j : ℕ). is_gap (get_or title j 0)) (let same : k ≡ n - 1 = omega arith in
          same) ∙ last
    ])
    end))

-- A word without an ending is a prefix of it.
get_or-without_end : (ending word : List ℕ) (k : ℕ) → k < length (without_end ending word) →
    get_or (without_end ending word) k 0 ≡ get_or word k 0
get_or-without_end ending word k = grind (arith, common_steps)

length-without_end : (ending word : List ℕ) → length (without_end ending word) ≤ length word
length-without_end ending word = grind (arith, common_steps)

-- a name is a prefix of an equal title, too
pub named : (side : Side) (title same : List ℕ) (len : ℕ) → len ≡ length (name_of side title) →
    same ≡ title → take len same ≡ name_of side title
named side title same len is equal = grind (arith, common_steps)

-- two lengths are those of the names in two titles if each of them is
pub same_lengths : (n : NameLengths) (forward reverse : List ℕ) →
    n.forward ≡ length (name_of Forward forward) → n.reverse ≡ length (name_of Reverse reverse) →
    n ≡ lengths_of forward reverse
same_lengths n forward reverse one other = grind (arith, common_steps)

-- The names in two words that differ at most in their last bytes.
module _ (word mate : List ℕ) (some : 0 < length word)
    (like : take (length word - 1) mate ≡ take (length word - 1) word) where
  abbrev forward_name : List ℕ
  forward_name = without_end (mark_of Forward) word

  abbrev reverse_name : List ℕ
  reverse_name = without_end (mark_of Reverse) mate

  front_like : (k : ℕ) → k < length word - 1 → get_or word k 0 ≡ get_or mate k 0
  front_like k lt = grind (arith, common_steps)

  -- names of one length are the same if the words are alike so far
  same_names : length forward_name ≡ length reverse_name →
      ((k : ℕ) → k < length forward_name → get_or word k 0 ≡ get_or mate k 0) →
      forward_name ≡ reverse_name
  same_names long alike = same_number_lists forward_name reverse_name long
      (λ k lt. get_or-without_end (mark_of Forward) word k lt ∙ alike k lt
      ∙ sym (get_or-without_end (mark_of Reverse) mate k (omega arith)))

  -- names shorter than the words
  pub short_names : length forward_name ≡ length reverse_name →
      length forward_name ≤ length word - 1 → bytes_eq forward_name reverse_name ≡ true
  short_names long short = grind (arith, common_steps, bytes_eq-Decides, same_names, front_like)

  -- names as long as the words are the same if the last bytes are
  pub whole_names : length forward_name ≡ length reverse_name →
      length word - 1 < length forward_name →
      eqb (get_or word (length word - 1) 0) (get_or mate (length word - 1) 0)
      ≡ bytes_eq forward_name reverse_name
  whole_names long whole =
      let last = length word - 1 in
      same_from_decides _ _ (Decides-eqb (get_or word last 0) (get_or mate last 0))
      (Decides-like (bytes_eq forward_name reverse_name)
      (λ same. sym (get_or-without_end (mark_of Forward) word last whole)
      ∙ ap (λ (name : List ℕ). get_or name last 0) same
      ∙ get_or-without_end (mark_of Reverse) mate last (omega arith))
      (λ one. same_names long (λ k lt. elim (cases_lt k last) [
        | inl front ↦ front_like k front
        | inr past ↦ let at : k ≡ last = omega (arith, length-without_end (mark_of Forward) word) in
            ap (λ (j : ℕ). get_or word j 0) at ∙ one ∙ ap (λ (j : ℕ). get_or mate j 0) (sym at)
      ]))
      (bytes_eq-Decides forward_name reverse_name))
