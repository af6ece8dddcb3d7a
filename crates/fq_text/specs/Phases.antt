-- What a list of lines begins with after some of them have been read, and what each step of the
-- reader does.
use Rattle.std.specs.Prelude.{◌≡◌, ◌≢◌, ℕ, ◌-◌, ◌<◌, ◌≤◌, Bool, true, false, IsTrue, Option, Some, None, List, [], ◌∷◌, ◌++◌, length, drop}
use Rattle.std.specs.List.{concat}
use Rattle.std.specs.Option.{option_map}
use Rattle.fq_text.specs.Devices.{FeedState}
use Rattle.fq_text.specs.declared.encoding.Encoding.{Encoding}
use Rattle.fq_text.specs.declared.fault.Fault.{Fault}
use Rattle.fq_text.specs.declared.fault.ReadError.{ReadError}
use Rattle.fq_text.specs.declared.fault.ReadError.TheVariants as error
use Rattle.fq_text.specs.declared.parse.Place.{Place}
use Rattle.fq_text.specs.declared.parse.Place.TheVariants.{Unwrapped, Joined}
use Rattle.fq_text.specs.Lines.{lines, is_whole}
use Rattle.fq_text.specs.Reading.{Lined, rest_of, Reads, Closed, NoLf}
use Rattle.fq_text.specs.Grammar.{Read, Front, End, Faulty, Found, before_plus, from_plus, quality_lines, after_quality, sequence_faults, quality_faults, unless_faulty, from_plus_line, completed, front, plus_sign, begins_with, limit}
use Rattle.fq_text.specs.Unwrapped.{unwrapped, lines_len}

-- after the title and these bases have been read
abbrev pub in_sequence : Encoding → List ℕ → List ℕ → List (List ℕ) → Front
in_sequence encoding title bases ls =
    unless_faulty (sequence_faults (length bases) (before_plus ls))
    (from_plus_line encoding title (bases ++ concat (before_plus ls)) (from_plus ls))

-- after the title, the bases and the plus line have been read
abbrev pub at_plus : Encoding → List ℕ → List ℕ → List ℕ → List (List ℕ) → Front
at_plus encoding title bases line ls = from_plus_line encoding title bases (line ∷ ls)

-- after the title, the bases, the plus line and this quality have been read
abbrev pub in_quality : Encoding → List ℕ → List ℕ → List ℕ → List (List ℕ) → Front
in_quality encoding title bases quals ls =
    unless_faulty (quality_faults encoding (length bases) (length quals)
    (quality_lines (length bases - length quals) ls))
    (completed (record {
      encoding = encoding;
      title = title;
      seq = bases;
      qual = quals ++ concat (quality_lines (length bases - length quals) ls);
    })
    (after_quality (length bases - length quals) ls))

-- A reader has gone on from a place from which lines are read by S, to a place from which they are
-- read by T.
pub record Goes {F : Type 0} (state : F → FeedState) (old new : Lined F)
    (S T : List (List ℕ) → Front) : Type 0 where
  pub used : List ℕ
  pub reads : Reads state old new used
  pub closed : Closed new used
  pub answer : (ls : List (List ℕ)) → S (lines used ++ ls) ≡ T ls
  pub small : length old.in_hand < old.chunk → length new.in_hand < new.chunk

-- the text has ended at a place from which lines are read by S
pub record Ends {F : Type 0} (state : F → FeedState) (old new : Lined F) (S : List (List ℕ) → Front)
    : Type 0 where
  pub used : List ℕ
  pub reads : Reads state old new used
  pub ended : new.ended ≡ true
  pub empty : new.in_hand ≡ []
  pub answer : S (lines used) ≡ End

-- the text has a fault
pub record Breaks {F : Type 0} (state : F → FeedState) (old new : Lined F)
    (S : List (List ℕ) → Front) (fault : Fault) : Type 0 where
  pub used : List ℕ
  pub reads : Reads state old new used
  pub answer : IsTrue (state old.feed).tells → S (lines (rest_of state old)) ≡ Faulty fault

-- the complete lines so far make no record
pub record Waits {F : Type 0} (state : F → FeedState) (old new : Lined F)
    (S : List (List ℕ) → Front) : Type 0 where
  pub used : List ℕ
  pub reads : Reads state old new used
  pub whole : is_whole used ≡ true
  pub going : new.ended ≡ false
  pub no_line : NoLf new.in_hand (length new.in_hand)
  pub answer : (read : Read) (ls : List (List ℕ)) → S (lines used) ≢ Found read ls

-- it is not known what comes next
pub record Fails {F : Type 0} (state : F → FeedState) (old new : Lined F) : Type 0 where
  pub used : List ℕ
  pub reads : Reads state old new used

abbrev pub Stops : {F : Type 0} → (F → FeedState) → Lined F → Lined F → (List (List ℕ) → Front)
    → ReadError → Type 0
Stops state old new S (error.Fault fault) = Breaks state old new S fault
Stops state old new S error.Read = Waits state old new S
Stops state old new S error.Endless = Waits state old new S × (new.max_reads ≤ new.taken)
Stops state old new S error.OutOfMemory = Fails state old new

-- A title has been found, or the end of the text.
abbrev pub FindsTitle : {F : Type 0} → (F → FeedState) → Lined F → Lined F → Encoding → Read → Bool
    → Type 0
FindsTitle state old new encoding parts false = Ends state old new (front encoding)
FindsTitle state old new encoding parts true =
    Goes state old new (front encoding) (in_sequence encoding parts.title [])
    × (parts ≡ record { encoding = encoding; title = parts.title; seq = []; qual = [] })

-- the plus line has been found, after the bases
abbrev pub FindsPlus : {F : Type 0} → (F → FeedState) → Lined F → Lined F → Read → Read → Unit {0}
    → Type 0
FindsPlus state old new before after done =
    Goes state old new (in_sequence before.encoding before.title [])
    (at_plus before.encoding before.title after.seq new.line)
    × (after ≡ record before { seq = after.seq }) × (length after.seq ≤ limit)
    × (begins_with plus_sign new.line ≡ true) × (length new.line ≤ limit)

-- the record has been found
abbrev pub FindsRecord : {F : Type 0} → (F → FeedState) → Lined F → Lined F → Read → Read → Unit {0}
    → Type 0
FindsRecord state old new before after done =
    Goes state old new (in_quality before.encoding before.title before.seq []) (Found after)
    × (after ≡ record before { qual = after.qual })

-- the read at a place: in the four lines that were taken last, or in the parts
abbrev pub read_at : Encoding → List ℕ → Read → Place → Read
read_at encoding taken parts (Unwrapped shape) = unwrapped encoding shape (drop 1 taken)
read_at encoding taken parts Joined = parts

-- the read at a place, if there is one
abbrev pub current_at : Encoding → List ℕ → Read → Option Place → Option Read
current_at encoding taken parts place = option_map (read_at encoding taken parts) place

-- the lines at a place are as long as its shape says
abbrev pub IsPlace : List ℕ → Place → Type 0
IsPlace taken (Unwrapped shape) = lines_len shape ≤ length taken
IsPlace taken Joined = Unit {0}

-- the next record, or the end of the text
abbrev pub FindsNext : {F : Type 0} → (F → FeedState) → Lined F → Lined F → Encoding → Option Read
    → Type 0
FindsNext state old new encoding None = Ends state old new (front encoding)
FindsNext state old new encoding (Some read) = Goes state old new (front encoding) (Found read)

-- what follows a title has been found
abbrev pub FindsRest : {F : Type 0} → (F → FeedState) → Lined F → Lined F → Read → Read → Unit {0}
    → Type 0
FindsRest state old new before after done =
    Goes state old new (in_sequence before.encoding before.title []) (Found after)
