-- A source of records, and what its calls return.
use Rattle.std.specs.Prelude.{◌≡◌, ◌≢◌, ℕ, ◌+◌, ◌-◌, ◌<◌, ◌≤◌, ◌⊎◌, Bool, true, false, IsTrue, Option, Some, None, Result, List, [], ◌++◌, length, take, codes}
use Rattle.std.specs.declared.result.Result.TheVariants as res
use Rattle.fq_text.specs.Devices.{FeedState}
use Rattle.fq_text.specs.declared.encoding.Encoding.{Encoding}
use Rattle.fq_text.specs.declared.fault.Fault.{Fault}
use Rattle.fq_text.specs.declared.fault.Fault.TheVariants as fault
use Rattle.fq_text.specs.declared.fault.ReadError.{ReadError}
use Rattle.fq_text.specs.declared.fault.ReadError.TheVariants as error
use Rattle.fq_text.specs.declared.fault.TextFault.{TextFault}
use Rattle.fq_text.specs.declared.fault.TextFault.TheVariants as text
use Rattle.fq_text.specs.Lines.{lines, is_whole, whole_part}
use Rattle.fq_text.specs.Grammar.{Read, Front, End, Faulty, Found, front, IsLawful}

-- A source: its feed, the bytes in hand (read and not used yet), whether the feed has reported its
-- end, the number of bytes taken from the feed and of records given, the last result once that is a
-- fault or the end, and the record in hand.
pub record Sourced (F : Type 0) : Type 0 where
  pub feed : F
  pub encoding : Encoding
  pub chunk : ℕ
  pub max_reads : ℕ
  pub in_hand : List ℕ
  pub ended : Bool
  pub taken : ℕ
  pub given : ℕ
  pub last : Option (Result (Unit {0}) TextFault)
  pub current : Option Read

-- a fault of a record with its number
abbrev pub numbered : Fault → ℕ → TextFault
numbered fault.NoTitle k = text.NoTitle k
numbered fault.BadSequence k = text.BadSequence k
numbered fault.NoPlus k = text.NoPlus k
numbered fault.PlusDiffers k = text.PlusDiffers k
numbered fault.BadQuality k = text.BadQuality k
numbered fault.QualityLong k = text.QualityLong k
numbered fault.QualityShort k = text.QualityShort k
numbered fault.TooLong k = text.TooLong k

abbrev pub text_fault : ReadError → ℕ → TextFault
text_fault (error.Fault f) k = numbered f k
text_fault error.Read k = text.Read
text_fault error.Endless k = text.Endless
text_fault error.OutOfMemory k = text.OutOfMemory

-- the name of a fault in messages
abbrev pub fault_name : TextFault → List ℕ
fault_name (text.NoTitle k) = codes "NoTitle"
fault_name (text.BadSequence k) = codes "BadSequence"
fault_name (text.NoPlus k) = codes "NoPlus"
fault_name (text.PlusDiffers k) = codes "PlusDiffers"
fault_name (text.BadQuality k) = codes "BadQuality"
fault_name (text.QualityLong k) = codes "QualityLong"
fault_name (text.QualityShort k) = codes "QualityShort"
fault_name (text.TooLong k) = codes "TooLong"
fault_name text.Read = codes "Read"
fault_name text.Endless = codes "Endless"
fault_name text.OutOfMemory = codes "OutOfMemory"

-- the number of the faulty record; none if the text could not be read to its end
abbrev pub faulty_record : TextFault → Option ℕ
faulty_record (text.NoTitle k) = Some k
faulty_record (text.BadSequence k) = Some k
faulty_record (text.NoPlus k) = Some k
faulty_record (text.PlusDiffers k) = Some k
faulty_record (text.BadQuality k) = Some k
faulty_record (text.QualityLong k) = Some k
faulty_record (text.QualityShort k) = Some k
faulty_record (text.TooLong k) = Some k
faulty_record text.Read = None
faulty_record text.Endless = None
faulty_record text.OutOfMemory = None

-- what `next` returns after the end or a fault
abbrev pub answer_of : Result (Unit {0}) TextFault → Result (Option Read) TextFault
answer_of (res.Ok x) = res.Ok None
answer_of (res.Err f) = res.Err f

-- what `advance` returns after the end or a fault
abbrev pub more_of : Result (Unit {0}) TextFault → Result Bool TextFault
more_of (res.Ok x) = res.Ok false
more_of (res.Err f) = res.Err f

-- the bytes that the records still to come are read from
abbrev pub rest_in : {F : Type 0} → (F → FeedState) → Sourced F → List ℕ
rest_in state s = s.in_hand ++ (state s.feed).to_come

-- what those bytes begin with
abbrev pub front_of : {F : Type 0} → (F → FeedState) → Sourced F → Front
front_of state s = front s.encoding (lines (rest_in state s))

-- the bytes in hand before a call, and then those that the feed gave during the call
abbrev pub held : {F : Type 0} → (F → FeedState) → Sourced F → Sourced F → List ℕ
held state old new = old.in_hand ++ take (new.taken - old.taken) (state old.feed).to_come

-- a text is the rest of another one from the start of a line on, or it is empty and the feed has
-- ended
pub record IsTail (whole tail : List ℕ) (ended : Bool) : Type 0 where
  pub before : List ℕ
  pub some : 0 < length before
  pub split : whole ≡ before ++ tail
  pub at_line : (is_whole before ≡ true) ⊎ ((tail ≡ []) × (ended ≡ true))

-- What every call keeps: the number of bytes taken grows by the bytes that the feed gave, and a
-- feed that has ended stays at its end.
pub record KeepsCount {F : Type 0} (state : F → FeedState) (old new : Sourced F) : Type 0 where
  pub encoding : new.encoding ≡ old.encoding
  pub chunk : new.chunk ≡ old.chunk
  pub max_reads : new.max_reads ≡ old.max_reads
  pub told : (state new.feed).tells ≡ (state old.feed).tells
  pub grows : old.taken ≤ new.taken
  pub ended : old.ended ≡ true → new.ended ≡ true
  pub fed : IsTrue (state old.feed).tells → (state old.feed).to_come
      ≡ take (new.taken - old.taken) (state old.feed).to_come ++ (state new.feed).to_come
  pub length : IsTrue (state old.feed).tells
      → new.taken - old.taken ≤ length (state old.feed).to_come

-- a record was returned, and is in hand
pub record GivesRecord {F : Type 0} (state : F → FeedState) (old new : Sourced F) (read : Read)
    : Type 0 where
  pub lawful : IsLawful read
  pub encoding : read.encoding ≡ old.encoding
  pub record_is : IsTrue (state old.feed).tells
      → front_of state old ≡ Found read (lines (rest_in state new))
  pub tail : IsTrue (state old.feed).tells
      → IsTail (rest_in state old) (rest_in state new) new.ended
  pub given : new.given ≡ old.given + 1
  pub last : new.last ≡ None
  pub current : new.current ≡ Some read
  pub in_hand : length new.in_hand < new.chunk

-- the end was returned
pub record EndsText {F : Type 0} (state : F → FeedState) (old new : Sourced F) : Type 0 where
  pub end_is : IsTrue (state old.feed).tells → front_of state old ≡ End
  pub given : new.given ≡ old.given
  pub last : new.last ≡ Some (res.Ok tt)
  pub current : new.current ≡ None

-- no complete record was read
abbrev pub LacksRecord : {F : Type 0} → (F → FeedState) → Sourced F → Sourced F → Type 0
LacksRecord state old new = IsTrue (state old.feed).tells → (read : Read) (ls : List (List ℕ)) →
    front old.encoding (lines (whole_part (held state old new))) ≢ Found read ls

abbrev pub FaultIs : Front → ℕ → TextFault → Type 0
FaultIs front k (text.NoTitle n) = (front ≡ Faulty fault.NoTitle) × (n ≡ k)
FaultIs front k (text.BadSequence n) = (front ≡ Faulty fault.BadSequence) × (n ≡ k)
FaultIs front k (text.NoPlus n) = (front ≡ Faulty fault.NoPlus) × (n ≡ k)
FaultIs front k (text.PlusDiffers n) = (front ≡ Faulty fault.PlusDiffers) × (n ≡ k)
FaultIs front k (text.BadQuality n) = (front ≡ Faulty fault.BadQuality) × (n ≡ k)
FaultIs front k (text.QualityLong n) = (front ≡ Faulty fault.QualityLong) × (n ≡ k)
FaultIs front k (text.QualityShort n) = (front ≡ Faulty fault.QualityShort) × (n ≡ k)
FaultIs front k (text.TooLong n) = (front ≡ Faulty fault.TooLong) × (n ≡ k)
FaultIs front k text.Read = Unit {0}
FaultIs front k text.Endless = Unit {0}
FaultIs front k text.OutOfMemory = Unit {0}

abbrev pub if_read : Type 0 → TextFault → Type 0
if_read P text.Read = P
if_read P text.Endless = P
if_read P _ = Unit {0}

abbrev pub if_endless : Type 0 → TextFault → Type 0
if_endless P text.Endless = P
if_endless P _ = Unit {0}

-- A fault was returned. After the feed has reported its end, no read call fails and none is one too
-- many.
pub record StopsText {F : Type 0} (state : F → FeedState) (old new : Sourced F) (why : TextFault)
    : Type 0 where
  pub fault_is : IsTrue (state old.feed).tells → FaultIs (front_of state old) (old.given + 1) why
  pub given : new.given ≡ old.given
  pub last : new.last ≡ Some (res.Err why)
  pub current : new.current ≡ None
  pub lacks : if_read (LacksRecord state old new) why
  pub going : if_read (old.ended ≡ false) why
  pub endless : if_endless (new.max_reads ≤ new.taken) why

-- how often the feed failed during a call
abbrev pub failed_in : {T : Type 0} → Result T TextFault → ℕ
failed_in (res.Ok x) = 0
failed_in (res.Err text.Read) = 1
failed_in (res.Err _) = 0
