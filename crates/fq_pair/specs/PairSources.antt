-- A source of pairs from two texts, and what its calls return.
use Rattle.std.specs.Prelude.{◌≡◌, ℕ, ◌+◌, ◌*◌, ◌≤◌, ◌⊎◌, Bool, true, false, IsTrue, Option, Some, None, IfSome, Result, []}
use Rattle.std.specs.Option.{IsSomeAnd, option_map}
use Rattle.std.specs.declared.result.Result.TheVariants as res
use Rattle.fq_text.specs.Devices.{FeedState}
use Rattle.fq_text.specs.declared.fault.TextFault.{TextFault}
use Rattle.fq_text.specs.declared.fault.TextFault.TheVariants as text
use Rattle.fq_text.specs.Lines.{lines, whole_part}
use Rattle.fq_text.specs.Grammar.{Read}
use Rattle.fq_text.specs.Sources.{Sourced, rest_in, held, KeepsCount, GivesRecord, EndsText}
use Rattle.fq_pair.specs.declared.side.Side.{Side}
use Rattle.fq_pair.specs.declared.side.Side.TheVariants.{Forward, Reverse}
use Rattle.fq_pair.specs.declared.fault.InputFault.{InputFault}
use Rattle.fq_pair.specs.declared.fault.InputFault.TheVariants.{Text, NamesDiffer}
use Rattle.fq_pair.specs.declared.name.NameLengths.{NameLengths}
use Rattle.fq_pair.specs.Mates.{Mates, MateNames, mates_in, mate_names, name_lengths, names_match}
use Rattle.fq_pair.specs.Pairing.{Pairs, PairFront, Ended, Stopped, Met, first_names, belong, pair_front, pairs, with_pair}

-- A source of pairs: the sources of its mates, whether names are checked, how many pairs were
-- given, the end or the fault once that was returned, and the current pair.
pub record PairSourced (F G : Type 0) : Type 0 where
  pub forward : Sourced F
  pub reverse : Sourced G
  pub check_names : Bool
  pub given : ℕ
  pub last : Option (Result (Unit {0}) InputFault)
  pub current : Option Mates

-- nothing has been read from a source
pub record IsUnasked {F : Type 0} (s : Sourced F) : Type 0 where
  pub in_hand : s.in_hand ≡ []
  pub taken : s.taken ≡ 0
  pub given : s.given ≡ 0
  pub last : s.last ≡ None

-- what comes next
abbrev pub front_of : {F G : Type 0} → (F → FeedState) → (G → FeedState) → PairSourced F G →
    PairFront
front_of state state' s =
    pair_front s.check_names s.forward.encoding s.given (lines (rest_in state s.forward))
    (lines (rest_in state' s.reverse))

-- the pairs that are left, and how they end
abbrev pub pairs_left : {F G : Type 0} → (F → FeedState) → (G → FeedState) → PairSourced F G → Pairs
pairs_left state state' s =
    pairs s.check_names s.forward.encoding s.given (rest_in state s.forward)
    (rest_in state' s.reverse)

-- What every call keeps: the counts of bytes taken grow by those that the feeds gave.
pub record KeepsCounts {F G : Type 0} (state : F → FeedState) (state' : G → FeedState)
    (old new : PairSourced F G) : Type 0 where
  pub forward : KeepsCount state old.forward new.forward
  pub reverse : KeepsCount state' old.reverse new.reverse
  pub check_names : new.check_names ≡ old.check_names

-- A pair was returned: it is the first of those that were left, and the others are left.
pub record GivesPair {F G : Type 0} (state : F → FeedState) (state' : G → FeedState)
    (old new : PairSourced F G) (m : Mates) : Type 0 where
  pub pair_is : IsTrue (state old.forward.feed).tells → IsTrue (state' old.reverse.feed).tells →
      front_of state state' old
      ≡ Met m (lines (rest_in state new.forward)) (lines (rest_in state' new.reverse))
  pub left : IsTrue (state old.forward.feed).tells → IsTrue (state' old.reverse.feed).tells →
      pairs_left state state' old ≡ with_pair m (pairs_left state state' new)
  pub forward : GivesRecord state old.forward new.forward m.forward
  pub reverse : GivesRecord state' old.reverse new.reverse m.reverse
  pub names : belong old.check_names m ≡ true
  pub given : new.given ≡ old.given + 1
  pub last : new.last ≡ None

-- The end was returned: no pair was left, and no fault.
pub record EndsPairs {F G : Type 0} (state : F → FeedState) (state' : G → FeedState)
    (old new : PairSourced F G) : Type 0 where
  pub end_is : IsTrue (state old.forward.feed).tells → IsTrue (state' old.reverse.feed).tells →
      front_of state state' old ≡ Ended
  pub left : IsTrue (state old.forward.feed).tells → IsTrue (state' old.reverse.feed).tells →
      pairs_left state state' old ≡ record { mates = []; fault = None }
  pub forward : EndsText state old.forward new.forward
  pub reverse : EndsText state' old.reverse new.reverse
  pub given : new.given ≡ old.given
  pub last : new.last ≡ Some (res.Ok tt)
  pub current : new.current ≡ None

-- a fault of a device or of memory, which no text determines
abbrev pub is_outside : TextFault → Bool
is_outside text.Read = true
is_outside text.Endless = true
is_outside text.OutOfMemory = true
is_outside _ = false

abbrev pub is_from_outside : InputFault → Bool
is_from_outside (Text side fault) = is_outside fault
is_from_outside _ = false

-- a text could not be read further: a read call failed, or was one too many
abbrev pub is_cut : TextFault → Bool
is_cut text.Read = true
is_cut text.Endless = true
is_cut _ = false

abbrev pub is_cut_short : InputFault → Bool
is_cut_short (Text side fault) = is_cut fault
is_cut_short _ = false

-- what holds for the side whose text could not be read further
abbrev pub if_cut : (Side → Type 0) → InputFault → Type 0
if_cut P (Text side text.Read) = P side
if_cut P (Text side text.Endless) = P side
if_cut P _ = Unit {0}

-- the whole lines of the bytes in hand before a call and of those that the feeds gave in it make no
-- pair
abbrev pub LacksPair : {F G : Type 0} → (F → FeedState) → (G → FeedState) → PairSourced F G →
    PairSourced F G → Type 0
LacksPair state state' old new = IsTrue (state old.forward.feed).tells →
    IsTrue (state' old.reverse.feed).tells →
    (pairs old.check_names old.forward.encoding old.given
    (whole_part (held state old.forward new.forward))
    (whole_part (held state' old.reverse new.reverse))).mates ≡ []

-- the first fact if the fault is Text(Forward, Endless), the second if it is Text(Reverse, Endless)
abbrev pub if_endless : Type 0 → Type 0 → InputFault → Type 0
if_endless P Q (Text Forward text.Endless) = P
if_endless P Q (Text Reverse text.Endless) = Q
if_endless P Q _ = Unit {0}

-- A fault of a side's text, of whatever kind, is the last result of the source that was being read.
-- The forward record is read first: if the fault is in its text, the reverse source is unchanged,
-- and if it is in the reverse text, the forward source has given a record or has ended.
abbrev pub WasReading : {F G : Type 0} → PairSourced F G → PairSourced F G → InputFault → Type 0
WasReading old new (Text Forward fault) =
    (new.forward.last ≡ Some (res.Err fault)) × (new.reverse ≡ old.reverse)
WasReading old new (Text Reverse fault) = (new.reverse.last ≡ Some (res.Err fault))
    × ((new.forward.given ≡ old.forward.given + 1) ⊎ (new.forward.last ≡ Some (res.Ok tt)))
WasReading old new _ = Unit {0}

-- the pair of two current records, if they are one
abbrev pub pair_of : Bool → Option Read → Option Read → Option Mates
pair_of false forward reverse = None
pair_of true None reverse = None
pair_of true (Some forward) None = None
pair_of true (Some forward) (Some reverse) = Some (mates_in forward reverse)

-- the names of two current records, if they were the last result of the source because they differ
abbrev pub names_kept : Option (Result (Unit {0}) InputFault) → Option Read → Option Read →
    Option MateNames
names_kept (Some (res.Err (NamesDiffer k))) forward reverse =
    option_map mate_names (pair_of true forward reverse)
names_kept _ forward reverse = None

-- what holds if the fault is that names differ
abbrev pub if_unmatched : Type 0 → InputFault → Type 0
if_unmatched P (NamesDiffer k) = P
if_unmatched P _ = Unit {0}

-- A fault was returned. If it is one of the texts, no pair was left, and the pairs end with it. If
-- names differ, they are kept, and are those of the records that come first.
pub record StopsPairs {F G : Type 0} (state : F → FeedState) (state' : G → FeedState)
    (old new : PairSourced F G) (why : InputFault) : Type 0 where
  pub fault_is : IsTrue (state old.forward.feed).tells → IsTrue (state' old.reverse.feed).tells →
      is_from_outside why ≡ false →
      front_of state state' old ≡ Stopped why
  pub left : IsTrue (state old.forward.feed).tells → IsTrue (state' old.reverse.feed).tells →
      is_from_outside why ≡ false →
      pairs_left state state' old ≡ record { mates = []; fault = Some why }
  pub lacks : is_cut_short why ≡ true → LacksPair state state' old new
  pub endless : if_endless (new.forward.max_reads ≤ new.forward.taken)
      (new.reverse.max_reads ≤ new.reverse.taken) why
  pub names : if_unmatched
      (IsSomeAnd (names_kept new.last new.forward.current new.reverse.current)
      (λ names. IsTrue (state old.forward.feed).tells → IsTrue (state' old.reverse.feed).tells →
      first_names (front_of state state' (record old { check_names = false })) ≡ Some names)) why
  pub reading : WasReading old new why
  pub given : new.given ≡ old.given
  pub last : new.last ≡ Some (res.Err why)
  pub current : new.current ≡ None

-- how often the feed of a side failed in a call
abbrev pub failed_on : {T : Type 0} → Side → Result T InputFault → ℕ
failed_on Forward (res.Err (Text Forward text.Read)) = 1
failed_on Reverse (res.Err (Text Reverse text.Read)) = 1
failed_on _ _ = 0

-- two sources that have given this many records each and have no last result
pub record IsReady {F G : Type 0} (forward : Sourced F) (reverse : Sourced G)
    (given : ℕ) : Type 0 where
  pub forward_last : forward.last ≡ None
  pub reverse_last : reverse.last ≡ None
  pub forward_given : forward.given ≡ given
  pub reverse_given : reverse.given ≡ given

-- if there is a current pair, these are the lengths of its names
abbrev pub HasNames : Option NameLengths → Option Mates → Type 0
HasNames names current = IfSome current (λ m. names ≡ Some (name_lengths m))

-- names that don't match were returned as the fault
abbrev pub is_unmatched : Option (Result (Unit {0}) InputFault) → Bool
is_unmatched (Some (res.Err (NamesDiffer k))) = true
is_unmatched _ = false

-- after that, the mates that have these names are the current records
abbrev pub KeepsUnmatched : Option (Result (Unit {0}) InputFault) → Option Read → Option Read →
    Type 0
KeepsUnmatched (Some (res.Err (NamesDiffer k))) forward reverse =
    IsSomeAnd (pair_of true forward reverse)
    (λ m. names_match m.forward.title m.reverse.title ≡ false)
KeepsUnmatched _ forward reverse = Unit {0}

-- a source of pairs that goes on, and one that has stopped
abbrev pub asked : {F G : Type 0} → Sourced F → Sourced G → Bool → ℕ → Bool → PairSourced F G
asked forward reverse check given has_pair = record {
  forward = forward;
  reverse = reverse;
  check_names = check;
  given = given;
  last = None;
  current = pair_of has_pair forward.current reverse.current;
}

abbrev pub stopped : {F G : Type 0} → Sourced F → Sourced G → Bool → ℕ →
    Result (Unit {0}) InputFault → PairSourced F G
stopped forward reverse check given last = record {
  forward = forward;
  reverse = reverse;
  check_names = check;
  given = given;
  last = Some last;
  current = None;
}

-- no count of a source exceeds what its feed may give
pub record IsBounded {F : Type 0} (s : Sourced F) : Type 0 where
  pub given : s.given ≤ s.taken
  pub taken : s.taken ≤ s.max_reads * s.chunk
