-- A reader of lines, and what its calls do.
use Rattle.std.specs.Prelude.{◌≡◌, ◌≢◌, ℕ, ◌+◌, ◌*◌, ◌^◌, ◌<◌, ◌≤◌, ◌⊎◌, Bool, true, false, Result, Option, Some, None, List, [], ◌∷◌, ◌++◌, length, IsTrue, slice_index}
use Rattle.std.specs.declared.result.Result.TheVariants as res
use Rattle.fq_text.specs.Devices.{FeedState}
use Rattle.fq_text.specs.Lines.{line_feed, lines, is_whole}
use Rattle.fq_text.specs.Grammar.{limit}
use Rattle.fq_text.specs.declared.fault.Fault.TheVariants as fault
use Rattle.fq_text.specs.declared.fault.ReadError.{ReadError}
use Rattle.fq_text.specs.declared.fault.ReadError.TheVariants as error

-- the most bytes that a source asks for in one read call
abbrev pub chunk_limit : ℕ
chunk_limit = 1048576

-- the most bytes that a feed gives: 2^40 read calls of 2^20 bytes each
abbrev pub text_limit : ℕ
text_limit = 2 ^ 60

-- the line that was taken last, and the bytes after it that are in hand: read and not used yet
pub record Buffered : Type 0 where
  pub line : List ℕ
  pub in_hand : List ℕ

-- A feed that is read by lines: the line that was read last, and the bytes after it that are in
-- hand. After it has ended, no more bytes come.
pub record Lined (F : Type 0) : Type 0 where
  pub feed : F
  pub line : List ℕ
  pub in_hand : List ℕ
  pub ended : Bool
  pub taken : ℕ
  pub chunk : ℕ
  pub max_reads : ℕ

-- the bytes after the last line, in hand and still to come
abbrev pub rest_of : {F : Type 0} → (F → FeedState) → Lined F → List ℕ
rest_of state r = r.in_hand ++ (state r.feed).to_come

-- no LF is at an index below n
abbrev pub NoLf : List ℕ → ℕ → Type 0
NoLf xs n = (k : ℕ) → k < n → slice_index xs k ≢ line_feed

-- the index of the first LF, if there is one
abbrev pub IsLineEnd : List ℕ → Option ℕ → Type 0
IsLineEnd xs None = NoLf xs (length xs)
IsLineEnd xs (Some n) = (n < length xs) × (slice_index xs n ≡ line_feed) × NoLf xs n

-- What every reader of lines keeps.
pub record IsSound {F : Type 0} (state : F → FeedState) (r : Lined F) : Type 0 where
  pub bound : r.taken ≤ r.max_reads * r.chunk
  pub nothing : IsTrue r.ended → IsTrue (state r.feed).tells → (state r.feed).to_come ≡ []

-- A reader has used bytes: those that were in hand, and then those that the feed gave, are the used
-- bytes, and then those now in hand.
pub record Reads {F : Type 0} (state : F → FeedState) (old new : Lined F) (used : List ℕ)
    : Type 0 where
  pub gave : List ℕ
  pub taken : new.taken ≡ old.taken + length gave
  pub hand : old.in_hand ++ gave ≡ used ++ new.in_hand
  pub fed : IsTrue (state old.feed).tells
      → (state old.feed).to_come ≡ gave ++ (state new.feed).to_come
  pub told : (state new.feed).tells ≡ (state old.feed).tells
  pub quiet : old.ended ≡ true → (gave ≡ []) × (new.ended ≡ true)
  pub chunk : new.chunk ≡ old.chunk
  pub max_reads : new.max_reads ≡ old.max_reads

-- the used bytes are complete lines
abbrev pub Closed : {F : Type 0} → Lined F → List ℕ → Type 0
Closed new used = (is_whole used ≡ true) ⊎ ((new.ended ≡ true) × (new.in_hand ≡ []))

-- the next line has been read
pub record TakesLine {F : Type 0} (state : F → FeedState) (old new : Lined F) : Type 0 where
  pub used : List ℕ
  pub reads : Reads state old new used
  pub is_line : lines used ≡ new.line ∷ []
  pub some : 0 < length used
  pub closed : Closed new used
  pub small : length old.in_hand < old.chunk → length new.in_hand < new.chunk

-- no line is left
pub record IsAtEnd {F : Type 0} (state : F → FeedState) (old new : Lined F) : Type 0 where
  pub reads : Reads state old new []
  pub ended : new.ended ≡ true
  pub empty : new.in_hand ≡ []

abbrev pub Advances : {F : Type 0} → (F → FeedState) → Lined F → Lined F → Bool → Type 0
Advances state old new true = TakesLine state old new × (length new.line ≤ limit)
Advances state old new false = IsAtEnd state old new

-- no complete line is in hand, and the reader has not ended
pub record LacksLine {F : Type 0} (state : F → FeedState) (old new : Lined F) : Type 0 where
  pub reads : Reads state old new []
  pub going : new.ended ≡ false
  pub no_line : NoLf new.in_hand (length new.in_hand)

-- the next line is too long
pub record IsLong {F : Type 0} (state : F → FeedState) (old new : Lined F) : Type 0 where
  pub used : List ℕ
  pub reads : Reads state old new used
  pub line : List ℕ
  pub behind : List (List ℕ)
  pub is_line : IsTrue (state old.feed).tells → lines (rest_of state old) ≡ line ∷ behind
  pub long : limit < length line

abbrev pub Halts : {F : Type 0} → (F → FeedState) → Lined F → Lined F → ReadError → Type 0
Halts state old new (error.Fault f) = (f ≡ fault.TooLong) × IsLong state old new
Halts state old new error.Read = LacksLine state old new
Halts state old new error.Endless = LacksLine state old new × (new.max_reads ≤ new.taken)
Halts state old new error.OutOfMemory = Reads state old new []

-- how often the feed failed
abbrev pub failed_once : ReadError → ℕ
failed_once (error.Fault f) = 0
failed_once error.Read = 1
failed_once error.Endless = 0
failed_once error.OutOfMemory = 0

abbrev pub fails : {T : Type 0} → Result T ReadError → ℕ
fails (res.Ok x) = 0
fails (res.Err e) = failed_once e

-- a feed has given bytes, which come after those that were there
pub record Moved {F : Type 0} (state : F → FeedState) (old new : F) (before after : List ℕ)
    (chunk n : ℕ) : Type 0 where
  pub gave : List ℕ
  pub len : length gave ≡ n
  pub within : n ≤ chunk
  pub bytes : after ≡ before ++ gave
  pub fed : IsTrue (state old).tells → (state old).to_come ≡ gave ++ (state new).to_come
  pub none : n ≡ 0 → IsTrue (state old).tells → (state old).to_come ≡ []

-- a read call or an allocation failed, and no bytes were given
pub record MovesOr {F : Type 0} (state : F → FeedState) (old new : F) (before after : List ℕ)
    (why : ReadError) : Type 0 where
  pub bytes : after ≡ before
  pub fed : IsTrue (state old).tells → (state new).to_come ≡ (state old).to_come
  pub cause : (why ≡ error.Read) ⊎ (why ≡ error.OutOfMemory)

-- one more read call was made, or refused
abbrev pub Fills : {F : Type 0} → (F → FeedState) → Lined F → Lined F → Result Unit ReadError
    → Type 0
Fills state old new (res.Ok x) =
    Reads state old new [] × (length new.in_hand < length old.in_hand + new.chunk + 1)
    × (new.ended ≡ false → old.taken < new.taken)
Fills state old new (res.Err (error.Fault f)) = ⊥
Fills state old new (res.Err error.Read) = Reads state old new [] × (new.ended ≡ false)
    × (new.in_hand ≡ old.in_hand)
Fills state old new (res.Err error.Endless) = Reads state old new [] × (new.ended ≡ false)
    × (new.in_hand ≡ old.in_hand) × (new.max_reads ≤ new.taken)
Fills state old new (res.Err error.OutOfMemory) = Reads state old new []
