-- What a call of a reader of lines does.
use Rattle.std.proofs.Common.{◌≡◌, ℕ, ◌+◌, ◌<◌, ◌≤◌, Bool, true, Result, List, [], ◌∷◌, ◌++◌, length, take, drop, ap, ◌∙◌, arith, add-one, append_assoc, IsTrue, IfOk, IfErr, MatchResult, Some}
use Rattle.std.proofs.lemmas.List.{append-nil, length-take, length-append, take_all, drop_all}
use Rattle.std.proofs.lemmas.Grind.{common_steps}
use Rattle.fq_text.specs.Devices.{FeedState}
use Rattle.fq_text.specs.Lines.{pieces, without_cr, lines}
use Rattle.fq_text.specs.Grammar.{limit}
use Rattle.fq_text.specs.Reading.{Lined, rest_of, IsSound, Reads, Closed, TakesLine, IsLong, NoLf, IsLineEnd}
use Rattle.fq_text.specs.declared.fault.Fault.TheVariants as fault
use Rattle.fq_text.specs.declared.fault.ReadError.{ReadError}
use Rattle.fq_text.specs.declared.fault.ReadError.TheVariants as error
use Rattle.fq_text.proofs.LineLemmas.{piece_to, piece_all, whole_to, lines-append, long_line}

-- the line whose length is tested
pub judged_as : (r : Result Bool ReadError) (P : Bool → Type 0) (Q : ReadError → Type 0) (n : ℕ) →
    IfOk r (λ more. (more ≡ true) × (n ≤ limit)) →
    IfErr r (λ e. (e ≡ error.Fault fault.TooLong) × (limit < n)) → (n ≤ limit → P true) →
    (limit < n → Q (error.Fault fault.TooLong)) → MatchResult r P Q
judged_as r P Q n ok err short long = grind (arith, common_steps)

-- the state after a line was taken out of the bytes in hand
abbrev pub behind_line : {F : Type 0} → Lined F → ℕ → ℕ → Lined F
behind_line r len used =
    record r { line = without_cr (take len r.in_hand); in_hand = drop used r.in_hand }

all_of : (xs : List ℕ) → 0 < length xs → NoLf xs (length xs) → pieces xs ≡ xs ∷ []
all_of [] some none = absurd (omega arith)
all_of (x ∷ xs) some none = piece_all x xs none

module _ {F : Type 0} {state : F → FeedState} where
  -- a reader that has read nothing
  pub reads_none : (r : Lined F) → Reads state r r []
  reads_none r = grind (arith, common_steps)

  -- one call after another
  pub reads_more : {a b c : Lined F} {used then : List ℕ} → Reads state a b used →
      Reads state b c then → Reads state a c (used ++ then)
  reads_more {a} {b} {c} {used} {then} p q =
      grind (
        arith,
        common_steps,
        length-append p.gave q.gave,
        append_assoc a.in_hand p.gave q.gave,
        append_assoc used b.in_hand q.gave,
        append_assoc used then c.in_hand,
      )

  -- what was left before is what was used and what is left now
  pub rest_is : {a b : Lined F} {used : List ℕ} → Reads state a b used →
      IsTrue (state a.feed).tells → rest_of state a ≡ used ++ rest_of state b
  rest_is p told = grind (arith, common_steps)

  -- the lines that were left before are those of what was used, and those that are left now
  pub lines_left : {a b : Lined F} {used : List ℕ} → Reads state a b used → Closed b used →
      IsSound state b → IsTrue (state a.feed).tells →
      lines (rest_of state a) ≡ lines used ++ lines (rest_of state b)
  lines_left p closed sound told =
      grind (arith, common_steps, rest_is, lines-append, append-nil)

  -- a line that is taken out of the bytes in hand uses the first `used` of them
  pub behind_reads : {a b : Lined F} (len used : ℕ) → Reads state a b [] →
      Reads state a (behind_line b len used) (take used b.in_hand)
  behind_reads len used p = grind (arith, common_steps)

  -- a sound reader stays sound when a line is taken out of the bytes in hand
  pub sound_behind : {b c : Lined F} (len used : ℕ) → c ≡ behind_line b len used →
      IsSound state b → IsSound state c
  sound_behind len used is sound = grind (arith, common_steps)

  -- a line with its line end
  pub takes_to : {a b c : Lined F} (at : ℕ) → c ≡ behind_line b at (at + 1) → Reads state a b [] →
      IsLineEnd b.in_hand (Some at) →
      (length a.in_hand < a.chunk → length c.in_hand < c.chunk) → TakesLine state a c
  takes_to {b} at is p found small =
      grind (
        arith,
        common_steps,
        length-take (at + 1) b.in_hand,
        behind_reads at (at + 1) p,
        add-one at,
        piece_to b.in_hand at found.0 found.2 found.1,
        whole_to b.in_hand at found.0 found.1,
      )

  -- a last line without a line end
  pub takes_all : {a b c : Lined F} {n : ℕ} → c ≡ behind_line b n n → n ≡ length b.in_hand →
      0 < n → b.ended ≡ true → Reads state a b [] → NoLf b.in_hand n → TakesLine state a c
  takes_all is whole some ended p none =
      grind (arith, common_steps, take_all, drop_all, behind_reads, all_of)

  -- a line that was taken and is too long
  pub long_taken : {a c : Lined F} → TakesLine state a c → IsSound state c →
      limit < length c.line → IsLong state a c
  long_taken {c} t sound long = record {
    used = t.used;
    reads = t.reads;
    line = c.line;
    behind = lines (rest_of state c);
    is_line = λ told. lines_left t.reads t.closed sound told
        ∙ ap (λ ls. ls ++ lines (rest_of state c)) t.is_line;
    long = long;
  }

  -- too many bytes in hand without a line end
  pub long_waiting : {a b : Lined F} → Reads state a b [] → limit + 1 < length b.in_hand →
      NoLf b.in_hand (length b.in_hand) → IsLong state a b
  long_waiting {b} p long none =
      let some = long_line b.in_hand (state b.feed).to_come limit long none in
      record {
        used = [];
        reads = p;
        line = some.0;
        behind = some.1;
        is_line = λ told. ap lines (rest_is p told) ∙ some.2;
        long = some.3;
      }
