use Rattle.std.proofs.Common.{◌≡◌, ℕ, ◌+◌, ◌-◌, List, length, take, drop, refl, subst, arith}
use Rattle.std.proofs.lemmas.List.{take_rest}
use Rattle.fq_text.specs.Reading.{NoLf}
use Rattle.fq_text.specs.Unwrapped.{IsFirstLine, BeginsWithRecord}
use Rattle.fq_text.specs.declared.encoding.Encoding.{Encoding}
use Rattle.fq_text.specs.declared.unwrapped.Shape.{Shape}
use Rattle.fq_text.proofs.UnwrappedLemmas.{same_line, first_line_ends, title_line, as_found, shape_is}
use Rattle.fq_text.proofs.unwrapped.first_record.Goals as goal
use Rattle.std.proofs.lemmas.Grind.{common_steps}

-- the text after its first bytes
abbrev behind : List ℕ → ℕ → List ℕ
behind hand n = take (length hand - n) (drop n hand)

-- the two lines that were found are the first lines of the record at the front
two_lines : (e : Encoding) (hand : List ℕ) (s : Shape) (t k n m : ℕ) → BeginsWithRecord e hand s →
    IsFirstLine (behind hand 1) t k → IsFirstLine (behind hand (t + k + 1)) n m →
    (t ≡ s.title) × (k ≡ s.end) × (n ≡ s.bases) × (m ≡ s.end)
two_lines e hand s t k n m first title bases =
    let found =
    as_found e hand s first t k (subst (λ (xs : List ℕ). IsFirstLine xs t k) (take_rest hand 1)
    title) in
    let same = same_line (drop (t + k + 1) hand) n m s.bases s.end
    (subst (λ (xs : List ℕ). IsFirstLine xs n m) (take_rest hand (t + k + 1)) bases) found.2 in
    (found.0, found.1, same.0, same.1)

-- if the title has no line end in hand, no such record is there
pub returns-in_err-title-clause-none : goal.returns-in_err-title-clause-none
returns-in_err-title-clause-none c none s first =
    grind (arith, common_steps, first_line_ends, title_line, take_rest)

-- the title is the first line after the `@`
pub shape_of-requires-in-Some-first_line : goal.shape_of-requires-in-Some-first_line
shape_of-requires-in-Some-first_line c =
    subst (λ (xs : List ℕ). IsFirstLine xs c.in_ok-title.title.len c.in_ok-title.title.end)
    (take_rest c.args.hand.now 1) c.in_ok-title.ensures.found

-- if no shape fits the two lines that were found, no such record is there
pub returns-in-Some-first_line-clause-none : goal.returns-in-Some-first_line-clause-none
returns-in-Some-first_line-clause-none c none s first =
    grind (arith, common_steps, two_lines, shape_is)

-- if the two lines end differently, no such record is there
pub returns-in_default-first_line-clause-none : goal.returns-in_default-first_line-clause-none
returns-in_default-first_line-clause-none c none s first = grind (arith, common_steps, two_lines)

-- if the sequence has no line end in hand, no such record is there
pub returns-in_default-first_line-2-clause-none : goal.returns-in_default-first_line-2-clause-none
returns-in_default-first_line-2-clause-none c none s first =
    let e = c.args.encoding in
    let hand = c.args.hand.now in
    let t = c.in_ok-title.title.len in
    let k = c.in_ok-title.title.end in
    let found =
    as_found e hand s first t k (subst (λ (xs : List ℕ). IsFirstLine xs t k) (take_rest hand 1)
    c.in_ok-title.ensures.found) in
    first_line_ends (drop (t + k + 1) hand) s.bases s.end found.2
    (subst (λ (xs : List ℕ). NoLf xs (length xs)) (take_rest hand (t + k + 1))
    (c.in_default-first_line.ensures.none refl))
