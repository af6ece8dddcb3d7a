-- A source of pairs from an interleaved text, and what its calls return.
use Rattle.std.specs.Prelude.{◌≡◌, ℕ, ◌+◌, ◌*◌, ◌<◌, ◌≤◌, Bool, true, false, IsTrue, Option, Some, None, Result, [], length}
use Rattle.std.specs.Option.{IsSomeAnd}
use Rattle.std.specs.declared.result.Result.TheVariants as res
use Rattle.fq_text.specs.Devices.{FeedState}
use Rattle.fq_text.specs.Lines.{lines, whole_part}
use Rattle.fq_text.specs.Grammar.{Read, IsLawful}
use Rattle.fq_text.specs.Records.{records}
use Rattle.fq_text.specs.Sources.{Sourced, rest_in, held, IsTail, KeepsCount, EndsText}
use Rattle.fq_pair.specs.declared.side.Side.{Side}
use Rattle.fq_pair.specs.declared.side.Side.TheVariants.{Forward, Reverse}
use Rattle.fq_pair.specs.declared.fault.InputFault.{InputFault}
use Rattle.fq_pair.specs.declared.fault.InputFault.TheVariants.{Text}
use Rattle.fq_pair.specs.Mates.{Mates}
use Rattle.fq_pair.specs.Pairing.{Pairs, PairFront, Ended, Stopped, Met, first_names, belong, with_pair}
use Rattle.fq_pair.specs.Interleaved.{side_after, interleaved_pairs, interleaved_front}
use Rattle.fq_pair.specs.PairSources.{is_from_outside, is_cut_short, if_cut, if_endless, if_unmatched, failed_on, pair_of, names_kept}

-- A source of pairs: the source of both mates, the forward mate that was read last, whether names
-- are checked, how many pairs were given, the end or the fault once that was returned, and the
-- current pair.
pub record InterleavedSourced (F : Type 0) : Type 0 where
  pub source : Sourced F
  pub forward : Read
  pub check_names : Bool
  pub given : ℕ
  pub last : Option (Result (Unit {0}) InputFault)
  pub current : Option Mates

-- what comes next
abbrev pub front_of : {F : Type 0} → (F → FeedState) → InterleavedSourced F → PairFront
front_of state s = interleaved_front s.check_names s.source.encoding s.given
    (lines (rest_in state s.source))

-- the pairs that are left, and how they end
abbrev pub pairs_left : {F : Type 0} → (F → FeedState) → InterleavedSourced F → Pairs
pairs_left state s = interleaved_pairs s.check_names s.source.encoding s.given
    (rest_in state s.source)

-- What every call keeps: the count of bytes taken grows by those that the feed gave.
pub record KeepsCounts {F : Type 0} (state : F → FeedState)
    (old new : InterleavedSourced F) : Type 0 where
  pub source : KeepsCount state old.source new.source
  pub check_names : new.check_names ≡ old.check_names

-- two records were given, one after the other
pub record GivesTwo {F : Type 0} (state : F → FeedState) (old new : Sourced F)
    (m : Mates) : Type 0 where
  pub forward : IsLawful m.forward
  pub reverse : IsLawful m.reverse
  pub forward_encoding : m.forward.encoding ≡ old.encoding
  pub reverse_encoding : m.reverse.encoding ≡ old.encoding
  pub tail : IsTrue (state old.feed).tells →
      IsTail (rest_in state old) (rest_in state new) new.ended
  pub given : new.given ≡ old.given + 2
  pub last : new.last ≡ None
  pub in_hand : length new.in_hand < new.chunk

-- A pair was returned: it is the first of those that were left, and the others are left.
pub record GivesPair {F : Type 0} (state : F → FeedState) (old new : InterleavedSourced F)
    (m : Mates) : Type 0 where
  pub pair_is : IsTrue (state old.source.feed).tells →
      (let ls = lines (rest_in state new.source) in front_of state old ≡ Met m ls ls)
  pub left : IsTrue (state old.source.feed).tells →
      pairs_left state old ≡ with_pair m (pairs_left state new)
  pub records : GivesTwo state old.source new.source m
  pub names : belong old.check_names m ≡ true
  pub given : new.given ≡ old.given + 1
  pub last : new.last ≡ None

-- The end was returned: no pair was left, and no fault.
pub record EndsPairs {F : Type 0} (state : F → FeedState) (old new : InterleavedSourced F) :
    Type 0 where
  pub end_is : IsTrue (state old.source.feed).tells → front_of state old ≡ Ended
  pub left : IsTrue (state old.source.feed).tells →
      pairs_left state old ≡ record { mates = []; fault = None }
  pub source : EndsText state old.source new.source
  pub given : new.given ≡ old.given
  pub last : new.last ≡ Some (res.Ok tt)
  pub current : new.current ≡ None

-- the whole lines of the bytes in hand before a call and of those that the feed gave in it make no
-- pair
abbrev pub LacksPair : {F : Type 0} → (F → FeedState) → InterleavedSourced F →
    InterleavedSourced F → Type 0
LacksPair state old new = IsTrue (state old.source.feed).tells →
    (interleaved_pairs old.check_names old.source.encoding old.given
    (whole_part (held state old.source new.source))).mates ≡ []

-- this is the side of the next record, after those in the whole lines of the bytes in hand before a
-- call and of those that the feed gave in it
abbrev pub IsNext : {F : Type 0} → (F → FeedState) → Sourced F → Sourced F → Side → Type 0
IsNext state old new side = IsTrue (state old.feed).tells →
    side_after (length (records old.encoding (whole_part (held state old new))).reads) ≡ side

-- A fault of the text, of whatever kind, is the last result of its source, and its side is that of
-- the record that was being read: if it is reverse, the forward record had been given.
abbrev pub WasReading : {F : Type 0} → Sourced F → Sourced F → InputFault → Type 0
WasReading old new (Text Forward fault) =
    (new.last ≡ Some (res.Err fault)) × (new.given ≡ old.given)
WasReading old new (Text Reverse fault) =
    (new.last ≡ Some (res.Err fault)) × (new.given ≡ old.given + 1)
WasReading old new _ = Unit {0}

-- A fault was returned. If it is one of the text, no pair was left, and the pairs end with it. A
-- read call that failed, or was one too many, was made for the next record, before the feed had
-- reported its end. If names differ, they are kept, and are those of the records that come first.
pub record StopsPairs {F : Type 0} (state : F → FeedState) (old new : InterleavedSourced F)
    (why : InputFault) : Type 0 where
  pub fault_is : IsTrue (state old.source.feed).tells → is_from_outside why ≡ false →
      front_of state old ≡ Stopped why
  pub left : IsTrue (state old.source.feed).tells → is_from_outside why ≡ false →
      pairs_left state old ≡ record { mates = []; fault = Some why }
  pub lacks : is_cut_short why ≡ true → LacksPair state old new
  pub next : if_cut (IsNext state old.source new.source) why
  pub going : is_cut_short why ≡ true → old.source.ended ≡ false
  pub endless : (let most : Type 0 = new.source.max_reads ≤ new.source.taken in
      if_endless most most why)
  pub names : if_unmatched (IsSomeAnd (names_kept new.last (Some new.forward) new.source.current)
      (λ names. IsTrue (state old.source.feed).tells →
      first_names (front_of state (record old { check_names = false })) ≡ Some names)) why
  pub reading : WasReading old.source new.source why
  pub given : new.given ≡ old.given
  pub last : new.last ≡ Some (res.Err why)
  pub current : new.current ≡ None

-- how often the feed failed in a call
abbrev pub failed_in : {T : Type 0} → Result T InputFault → ℕ
failed_in r = failed_on Forward r + failed_on Reverse r

-- a source that has given the records of this many pairs and has no last result
pub record IsReady {F : Type 0} (source : Sourced F) (given : ℕ) : Type 0 where
  pub last : source.last ≡ None
  pub records : source.given ≡ 2 * given

-- a source of pairs that goes on, with the forward mate that was kept, and one that has stopped
abbrev pub asked : {F : Type 0} → Sourced F → Read → Bool → ℕ → Bool → InterleavedSourced F
asked source forward check given has_pair = record {
  source = source;
  forward = forward;
  check_names = check;
  given = given;
  last = None;
  current = pair_of has_pair (Some forward) source.current;
}

abbrev pub stopped : {F : Type 0} → Sourced F → Read → Bool → ℕ → Result (Unit {0}) InputFault →
    InterleavedSourced F
stopped source forward check given last = record {
  source = source;
  forward = forward;
  check_names = check;
  given = given;
  last = Some last;
  current = None;
}
