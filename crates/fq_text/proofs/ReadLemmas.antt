-- The bytes in hand, as a part of a buffer.
use Rattle.std.proofs.Common.{◌≡◌, ℕ, ◌+◌, ◌-◌, ◌≤◌, List, ◌++◌, length, take, drop, arith, ap, sym, ◌∙◌, append_assoc}
use Rattle.std.proofs.Math.Seq.{take-add}
use Rattle.std.proofs.lemmas.List.{take-take, take_at, drop_at, take-append-le, drop-append-le, drop-take, drop-drop, length-take, length-drop, length-take-le, take_rest, take-append-drop}
use Rattle.std.proofs.lemmas.Grind.{common_steps}
use Rattle.fq_text.specs.Devices.{FeedState}
use Rattle.fq_text.specs.Lines.{without_cr}
use Rattle.fq_text.specs.Reading.{Moved, MovesOr}
use Rattle.fq_text.specs.declared.fault.ReadError.{ReadError}

-- the bytes after the first `filled` ones of a buffer that a feed wrote into
pub written_behind : (grown wrote past other before : List ℕ) (filled n room : ℕ) →
    take filled grown ≡ before → length before ≡ filled → n ≤ length wrote → filled + n ≤ room →
    take (filled + n) (take room (take filled grown ++ (wrote ++ past) ++ other))
    ≡ before ++ take n wrote
written_behind grown wrote past other before filled n room is same fits within =
    grind (arith, common_steps, append_assoc, take-take, take-add, take_at, drop_at, take-append-le)

-- what a write that begins at index `sent` adds to what was sent before
pub sent_more : (start before after bytes : List ℕ) (sent n : ℕ) →
    before ≡ start ++ take sent bytes →
    after ≡ before ++ take n (take (length bytes - sent) (drop sent bytes)) →
    after ≡ start ++ take (sent + n) bytes
sent_more start before after bytes sent n was is =
    grind (arith, common_steps, append_assoc, take_rest, take-add)

-- the front of what is left, and what is left then
pub parted : (xs new buf : List ℕ) (at n : ℕ) → new ≡ take n (take (length xs - at) (drop at xs)) →
    n ≤ length xs - at →
    drop at xs ≡ take n (new ++ buf) ++ drop (at + n) xs
parted xs new buf at n is le =
    let short : n ≤ length (drop at xs) = omega (arith, length-drop at xs) in
    let front : new ≡ take n (drop at xs) = is ∙ take-take n (length xs - at) (drop at xs) le in
    let len : length new ≡ n = ap length front ∙ length-take-le n (drop at xs) short in
    rw (take_at new buf n len, front, ← drop-drop n at xs) (sym (take-append-drop n (drop at xs)))

-- some of the bytes in hand are used
drop_hand : (bytes : List ℕ) (start filled used : ℕ) → used ≤ filled - start →
    take (filled - (start + used)) (drop (start + used) bytes)
    ≡ drop used (take (filled - start) (drop start bytes))
drop_hand bytes start filled used le =
    let n : used + (filled - (start + used)) ≡ filled - start = omega arith in
    sym (ap (λ m. drop used (take m (drop start bytes))) (sym n)
    ∙ drop-take used (filled - (start + used)) (drop start bytes)
    ∙ ap (take (filled - (start + used))) (drop-drop used start bytes))

-- the line at the front of the bytes in hand
pub line_of_hand : (bytes seen hand : List ℕ) (start filled len used r : ℕ) → seen ≡ bytes →
    take (filled - start) (drop start bytes) ≡ hand → len ≤ used → used ≤ length hand →
    without_cr (take (start + len - start) (drop start seen))
    ≡ take r (take (start + len - start) (drop start seen)) →
    r ≤ length (take (start + len - start) (drop start seen)) →
    take (start + r - start) (drop start bytes) ≡ without_cr (take len hand)
line_of_hand bytes seen hand start filled len used r same is le within without short =
    grind (arith, common_steps)

-- the bytes in hand that are left after the first `used` of them were used
pub hand_used : (bytes hand : List ℕ) (start filled used : ℕ) →
    take (filled - start) (drop start bytes) ≡ hand → used ≤ length hand →
    take (filled - (start + used)) (drop (start + used) bytes) ≡ drop used hand
hand_used bytes hand start filled used is within =
    grind (arith, common_steps, drop_hand, length-take)

-- more bytes come after those in hand
pub hand_grows : (old new gave : List ℕ) (start filled n : ℕ) →
    take (filled + n) new ≡ take filled old ++ gave → start ≤ filled → filled ≤ length old →
    take (filled + n - start) (drop start new) ≡ take (filled - start) (drop start old) ++ gave
hand_grows old new gave start filled n is le within =
    let a : start + (filled + n - start) ≡ filled + n = omega arith in
    let b : start + (filled - start) ≡ filled = omega arith in
    sym (ap (λ m. drop start (take m new)) (sym a) ∙ drop-take start (filled + n - start) new)
    ∙ ap (drop start) is
    ∙ drop-append-le start (take filled old) gave (omega (arith, length-take filled old))
    ∙ ap (λ xs. xs ++ gave) (ap (λ m. drop start (take m old)) (sym b)
    ∙ drop-take start (filled - start) old)

module _ {F : Type 0} (state : F → FeedState) where
  -- what was read after the filled part was read after the bytes in hand
  pub hand_moved : (old new : F) (before after hand : List ℕ) (start filled chunk n : ℕ) →
      start ≤ filled → filled ≤ length before → take (filled - start) (drop start before) ≡ hand →
      Moved state old new (take filled before) (take (filled + n) after) chunk n →
      Moved state old new hand (take (filled + n - start) (drop start after)) chunk n
  hand_moved old new before after hand start filled chunk n le within is p =
      grind (arith, common_steps, hand_grows)

  -- and if nothing was read, the bytes in hand stay
  pub hand_stays : (old new : F) (before after hand : List ℕ) (start filled : ℕ) (why : ReadError) →
      start ≤ filled → take (filled - start) (drop start before) ≡ hand →
      MovesOr state old new (take filled before) (take filled after) why →
      MovesOr state old new hand (take (filled - start) (drop start after)) why
  hand_stays old new before after hand start filled why le is p =
      grind (
        arith,
        common_steps,
        drop-take start (filled - start) after,
        drop-take start (filled - start) before,
      )
