-- Reading pairs, one after the other.
use Rattle.std.specs.Prelude.{◌≡◌, ℕ, suc, ◌+◌, ◌-◌, ◌*◌, ◌≤◌, ◌⊎◌, Bool, true, false, IsTrue, Option, Some, None, Result, List, [], ◌∷◌, ◌++◌, length, take}
use Rattle.std.specs.Option.{IsSomeAnd}
use Rattle.std.specs.declared.result.Result.TheVariants as res
use Rattle.fq_text.specs.Devices.{FeedState}
use Rattle.fq_text.specs.declared.encoding.Encoding.{Encoding}
use Rattle.fq_text.specs.Lines.{lines, is_whole, whole_part}
use Rattle.fq_text.specs.Records.{records}
use Rattle.fq_text.specs.Sources.{Sourced}
use Rattle.fq_pair.specs.declared.side.Side.{Side}
use Rattle.fq_pair.specs.declared.side.Side.TheVariants.{Forward, Reverse}
use Rattle.fq_pair.specs.declared.fault.InputFault.{InputFault}
use Rattle.fq_pair.specs.Mates.{Mates, MateNames}
use Rattle.fq_pair.specs.Pairing.{PairFront, Ended, Stopped, Met, first_names}
use Rattle.fq_pair.specs.Interleaved.{side_after}
use Rattle.fq_pair.specs.PairSources.{PairSourced, is_from_outside, is_cut_short, if_cut, if_endless, if_unmatched, names_kept}
use Rattle.fq_pair.specs.InterleavedSources.{InterleavedSourced}
use Rattle.fq_pair.specs.Forms.{Form, TwoTexts, InterleavedText, pairs_in, front_in, records_of_pairs, failed_at}

-- one side of a source of pairs: its feed, the bytes in hand, whether the feed has reported its
-- end, and the bytes taken and records given so far
pub record SideState : Type 0 where
  pub tells : Bool
  pub in_hand : List ℕ
  pub ended : Bool
  pub to_come : List ℕ
  pub failures : ℕ
  pub taken : ℕ
  pub given : ℕ
  pub max_reads : ℕ

abbrev pub side_state : {F : Type 0} → (F → FeedState) → Sourced F → SideState
side_state state s = record {
  tells = (state s.feed).tells;
  in_hand = s.in_hand;
  ended = s.ended;
  to_come = (state s.feed).to_come;
  failures = (state s.feed).failures;
  taken = s.taken;
  given = s.given;
  max_reads = s.max_reads;
}

-- A source of pairs: its form, its two sides, its settings, how many pairs it gave, whether it goes
-- on, the current pair, and the names that differ, if it stopped at them. Both sides of an
-- interleaved text are the same.
pub record SourceState : Type 0 where
  pub form : Form
  pub forward : SideState
  pub reverse : SideState
  pub encoding : Encoding
  pub check_names : Bool
  pub most_bytes : ℕ
  pub given : ℕ
  pub last : Option (Result (Unit {0}) InputFault)
  pub current : Option Mates
  pub names : Option MateNames

abbrev pub source_state : {F G : Type 0} → (F → FeedState) → (G → FeedState) → PairSourced F G →
    SourceState
source_state state state' s = record {
  form = TwoTexts;
  forward = side_state state s.forward;
  reverse = side_state state' s.reverse;
  encoding = s.forward.encoding;
  check_names = s.check_names;
  most_bytes = s.forward.max_reads * s.forward.chunk;
  given = s.given;
  last = s.last;
  current = s.current;
  names = names_kept s.last s.forward.current s.reverse.current;
}

abbrev pub interleaved_state : {F : Type 0} → (F → FeedState) → InterleavedSourced F → SourceState
interleaved_state state s = record {
  form = InterleavedText;
  forward = side_state state s.source;
  reverse = side_state state s.source;
  encoding = s.source.encoding;
  check_names = s.check_names;
  most_bytes = s.source.max_reads * s.source.chunk;
  given = s.given;
  last = s.last;
  current = s.current;
  names = names_kept s.last (Some s.forward) s.source.current;
}

-- the bytes from which a side can still read records
abbrev pub rest : SideState → List ℕ
rest s = s.in_hand ++ s.to_come

-- the bytes that a feed gave between two states
abbrev pub fed : SideState → SideState → List ℕ
fed old new = take (new.taken - old.taken) old.to_come

-- the bytes that were in hand before, and those that the feed gave
abbrev pub came : SideState → SideState → List ℕ
came old new = old.in_hand ++ fed old new

-- a side's feed gave bytes, which were counted, and failed this often; an end that it reported
-- stays
pub record Draws (old new : SideState) (failed : ℕ) : Type 0 where
  pub told : new.tells ≡ old.tells
  pub max_reads : new.max_reads ≡ old.max_reads
  pub grows : old.taken ≤ new.taken
  pub ended : old.ended ≡ true → new.ended ≡ true
  pub bytes : IsTrue old.tells → old.to_come ≡ fed old new ++ new.to_come
  pub size : IsTrue old.tells → new.taken - old.taken ≤ length old.to_come
  pub failures : new.failures ≡ old.failures + failed

-- bytes were used up: whole lines, or all bytes up to the end that the feed has reported
pub record Uses (old new : SideState) : Type 0 where
  pub used : List ℕ
  pub split : rest old ≡ used ++ rest new
  pub at_line : (is_whole used ≡ true) ⊎ ((rest new ≡ []) × (new.ended ≡ true))

-- what no call changes
pub record KeepsSettings (old new : SourceState) : Type 0 where
  pub form : new.form ≡ old.form
  pub encoding : new.encoding ≡ old.encoding
  pub check_names : new.check_names ≡ old.check_names
  pub most_bytes : new.most_bytes ≡ old.most_bytes

-- these pairs come first in the texts, in order, and these lines after them
abbrev pub Leads : Form → Bool → Encoding → ℕ → List Mates → List (List ℕ) → List (List ℕ) →
    List (List ℕ) → List (List ℕ) → Type 0
Leads form check encoding given [] forward reverse forward' reverse' =
    (forward ≡ forward') × (reverse ≡ reverse')
Leads form check encoding given (m ∷ ms) forward reverse forward' reverse' =
    (fs : List (List ℕ)) × (rs : List (List ℕ))
    × (front_in form check encoding given forward reverse ≡ Met m fs rs)
    × Leads form check encoding (suc given) ms fs rs forward' reverse'

-- what comes next
abbrev pub next_front : SourceState → PairFront
next_front s = front_in s.form s.check_names s.encoding s.given (lines (rest s.forward))
    (lines (rest s.reverse))

-- the names of the pair that comes next, whether they match or not
abbrev pub next_names : SourceState → Option MateNames
next_names s = first_names (next_front (record s { check_names = false }))

-- these pairs were read, and the source goes on
pub record Walks (old new : SourceState) (ms : List Mates) : Type 0 where
  pub same : KeepsSettings old new
  pub given : new.given ≡ old.given + length ms
  pub forward_records : new.forward.given
      ≡ old.forward.given + records_of_pairs old.form (length ms)
  pub reverse_records : new.reverse.given
      ≡ old.reverse.given + records_of_pairs old.form (length ms)
  pub last : new.last ≡ None
  pub forward : Draws old.forward new.forward 0
  pub reverse : Draws old.reverse new.reverse 0
  pub forward_used : IsTrue old.forward.tells → Uses old.forward new.forward
  pub reverse_used : IsTrue old.reverse.tells → Uses old.reverse new.reverse
  pub leads : IsTrue old.forward.tells → IsTrue old.reverse.tells →
      Leads old.form old.check_names old.encoding old.given ms (lines (rest old.forward))
      (lines (rest old.reverse)) (lines (rest new.forward)) (lines (rest new.reverse))

-- the end of the texts was found
pub record MeetsEnd (old new : SourceState) : Type 0 where
  pub forward : Draws old.forward new.forward 0
  pub reverse : Draws old.reverse new.reverse 0
  pub end_is : IsTrue old.forward.tells → IsTrue old.reverse.tells → next_front old ≡ Ended

abbrev pub faulty : InputFault → Result (Option Mates) InputFault
faulty why = res.Err why

-- this is the side of the next record of an interleaved text, after those in the whole lines that
-- came
abbrev pub IsNext : SourceState → SourceState → Side → Type 0
IsNext old new side = IsTrue old.forward.tells →
    side_after (length (records old.encoding (whole_part (came old.forward new.forward))).reads)
    ≡ side

-- A fault was met. In an interleaved text, a read call that failed, or was one too many, was made
-- for the next record, before the feed had reported its end.
pub record MeetsFault (old new : SourceState) (why : InputFault) : Type 0 where
  pub forward : Draws old.forward new.forward (failed_at old.form Forward (faulty why))
  pub reverse : Draws old.reverse new.reverse (failed_at old.form Reverse (faulty why))
  pub fault_is : IsTrue old.forward.tells → IsTrue old.reverse.tells → is_from_outside why ≡ false →
      next_front old ≡ Stopped why
  pub lacks : is_cut_short why ≡ true → IsTrue old.forward.tells → IsTrue old.reverse.tells →
      (pairs_in old.form old.check_names old.encoding old.given
      (whole_part (came old.forward new.forward)) (whole_part (came old.reverse new.reverse))).mates
      ≡ []
  pub next : old.form ≡ InterleavedText → if_cut (IsNext old new) why
  pub going : old.form ≡ InterleavedText → is_cut_short why ≡ true → old.forward.ended ≡ false
  pub names : if_unmatched (IsSomeAnd new.names (λ names. IsTrue old.forward.tells →
      IsTrue old.reverse.tells → next_names old ≡ Some names)) why
  pub endless : if_endless (new.forward.max_reads ≤ new.forward.taken)
      (new.reverse.max_reads ≤ new.reverse.taken) why

-- What a call returns if the source goes on: the current pair is the one that was read. After the
-- end or a fault there is none.
abbrev pub Advances : SourceState → SourceState → Result Bool InputFault → Type 0
Advances old new (res.Ok true) = IsSomeAnd new.current (λ m. Walks old new (m ∷ []))
Advances old new (res.Ok false) = MeetsEnd old new × (new.current ≡ None)
Advances old new (res.Err why) = MeetsFault old new why × (new.current ≡ None)

-- a source that goes on, and has not given more records than bytes may come
pub record GoesOn (s : SourceState) : Type 0 where
  pub last : s.last ≡ None
  pub within : s.forward.given ≤ s.most_bytes
