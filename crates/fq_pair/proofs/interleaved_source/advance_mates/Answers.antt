-- The forward mate is kept, and the current record is its reverse mate.
use Rattle.std.proofs.Common.{◌≡◌, true, false, Some, Ok, refl, is_some, arith, rules, ℕ, List, length, ap, ◌∙◌, ◌+◌, ◌++◌, suc, Bool, IsTrue, sym, ◌⊎◌, [], ⊎_elim, ◌*◌, Err, ◌≤◌, add-one}
use Rattle.std.specs.Option.{IsSomeAnd}
use Rattle.std.proofs.lemmas.Grind.{common_steps}
use Rattle.std.proofs.lemmas.Result.{err_from_is_err_and}
use Rattle.std.proofs.lemmas.List.{length-append}
use Rattle.std.proofs.lemmas.Bool.{cases_Bool, both_ways}
use Rattle.fq_text.specs.declared.encoding.Encoding.{Encoding}
use Rattle.fq_text.specs.Grammar.{Read, Front, End, Faulty, Found, front}
use Rattle.fq_text.specs.Records.{records}
use Rattle.fq_text.specs.Devices.{FeedState}
use Rattle.fq_text.specs.Sources.{Sourced, KeepsCount, rest_in, IsTail, GivesRecord, held, LacksRecord, FaultIs, if_read, if_endless as endless_text, StopsText, EndsText}
use Rattle.fq_pair.specs.Walks.{SideState, side_state, Draws, Uses}
use Rattle.fq_text.specs.Lines.{lines, whole_part}
use Rattle.fq_pair.specs.Interleaved.{meeting_after, interleaved_meeting, interleaved_pairs, side_after}
use Rattle.fq_pair.specs.InterleavedSources.{front_of, asked, GivesPair, IsNext, StopsPairs, stopped, WasReading}
use Rattle.fq_pair.specs.Mates.{mates_in}
use Rattle.fq_pair.specs.Pairing.{belong, Stopped, Met, first_names, Pairs}
use Rattle.fq_text.specs.declared.fault.TextFault.{TextFault}
use Rattle.fq_pair.specs.PairSources.{is_outside, is_cut, if_cut, if_endless, if_unmatched, names_kept, is_cut_short}
use Rattle.fq_pair.specs.declared.side.Side.{Side}
use Rattle.fq_pair.specs.declared.fault.InputFault.{InputFault}
use Rattle.fq_text.proofs.ResultLemmas.{err_mapped}
use Rattle.fq_pair.specs.declared.fault.InputFault.TheVariants.{Text, NamesDiffer, MateMissing}
use Rattle.fq_pair.specs.declared.side.Side.TheVariants.{Reverse}
use Rattle.fq_pair.proofs.SourceLaws.{of_current, of_pair, of_titles}
use Rattle.fq_pair.proofs.PairLaws.{records_of}
use Rattle.fq_pair.proofs.SideLemmas.{draws_then, uses_then, more_lines, lines_before, lines_left, lines_behind}
use Rattle.fq_pair.proofs.InterleavedLaws.{interleaved_left_met, interleaved_pairs_of-stopped, interleaved_pairs_of-ended, interleaved_left_stopped}
use Rattle.fq_pair.proofs.FrontLemmas.{front_more}
use Rattle.fq_pair.proofs.TakenLemmas.{front_fewer, one_record}
use Rattle.fq_pair.proofs.interleaved_source.advance_mates.Goals as goal

-- How many records some lines hold.

-- none, if none comes first
no_records : (e : Encoding) (ls : List (List ℕ)) →
    ((r : Read) (rest : List (List ℕ)) → front e ls ≡ Found r rest → ⊥) →
    length (records_of e ls).reads ≡ 0
no_records e ls none = grind (arith, common_steps)

-- Two records of one source, one after the other.

-- Three states of a source: what its feed gave up to the second and up to the third.
module _ {F : Type 0} (state : F → FeedState) (a b c : Sourced F) (p : KeepsCount state a b)
    (q : KeepsCount state b c) where
  -- the source as a side, whose failures don't count here
  abbrev side : Sourced F → SideState
  side s = record (side_state state s) { failures = 0 }

  drawn_in : (old new : Sourced F) → KeepsCount state old new → Draws (side old) (side new) 0
  drawn_in old new k = search rules

  abbrev used_in : (old new : Sourced F) → IsTail (rest_in state old) (rest_in state new)
      new.ended → Uses (side old) (side new)
  used_in old new t = record { used = t.before; split = t.split; at_line = t.at_line }

  -- what every call keeps is also kept by two calls, one after the other
  keeps_then : KeepsCount state a c
  keeps_then =
      let d = draws_then (side a) (side b) (side c) 0 (drawn_in a b p) (drawn_in b c q) in
      search rules

  -- the rest of a rest of a text
  tail_then : IsTail (rest_in state a) (rest_in state b) b.ended →
      IsTail (rest_in state b) (rest_in state c) c.ended →
      IsTail (rest_in state a) (rest_in state c) c.ended
  tail_then t u =
      let both = uses_then (side a) (side b) (side c) q.ended (used_in a b t) (used_in b c u) in
      let some = t.some in
      record {
        before = t.before ++ u.before;
        some =
            omega (arith, length-append t.before u.before);
        split = both.split;
        at_line =
            both.at_line;
      }

  -- after the first record the second decides what comes first
  front_behind : (kept : Read) (check : Bool) (given : ℕ) (before : Bool) (f : Read) →
      GivesRecord state a b f → IsTrue (state a.feed).tells →
      front_of state (asked a kept check given before)
      ≡ meeting_after check (suc given) f (front b.encoding (lines (rest_in state b)))
  front_behind kept check given before f first told = grind (arith, common_steps)

  -- two records that were given make a pair if their names allow it
  two_given : (kept : Read) (check : Bool) (given : ℕ) (before now : Bool) (f r : Read) →
      GivesRecord state a b f → GivesRecord state b c r → belong check (mates_in f r) ≡ true →
      GivesPair state (asked a kept check given before) (asked c f check (given + 1) now)
      (mates_in f r)
  two_given kept check given before now f r first second together =
      let one = first.given in let two = second.given in
      let ls = lines (rest_in state c) in
      let n = suc given in
      let pair_is : IsTrue (state a.feed).tells →
      front_of state (asked a kept check given before) ≡ Met (mates_in f r) ls ls =
      λ told. grind (arith, common_steps, front_behind) in
      record {
        pair_is = pair_is;
        left = λ told. interleaved_left_met state (asked a kept check given before)
            (asked c f check (given + 1) now) (mates_in f r) (q.encoding
            ∙ p.encoding) refl refl (pair_is told);
        records = record {
          forward = first.lawful;
          reverse = second.lawful;
          forward_encoding = first.encoding;
          reverse_encoding = second.encoding ∙ p.encoding;
          tail = λ told. tail_then (first.tail told) (second.tail (p.told ∙ told));
          given = omega arith;
          last = second.last;
          in_hand = second.in_hand;
        };
        names = together;
        given = refl;
        last = refl;
      }

  module _ (told : IsTrue (state a.feed).tells)
      (t : IsTail (rest_in state a) (rest_in state b) b.ended) where
    abbrev came : List ℕ
    came = held state a c

    abbrev more : List (List ℕ)
    more = more_lines (side a) (side b) (side c) 0 (drawn_in a b p) (drawn_in b c q) told
        (used_in a b t)

    before : lines (rest_in state a) ≡ lines (whole_part came) ++ more
    before = lines_before (side a) (side b) (side c) 0 (drawn_in a b p) (drawn_in b c q) told
        (used_in a b t)

    left : (ls : List (List ℕ)) → ls ++ more ≡ lines (rest_in state b) →
        (ls ≡ lines (whole_part (held state b c))) ⊎ (ls ≡ [])
    left = lines_left (side a) (side b) (side c) 0 (drawn_in a b p) (drawn_in b c q) told
        (used_in a b t)

    module _ (check : Bool) (given : ℕ) (f : Read)
        (first : front a.encoding (lines (rest_in state a)) ≡ Found f (lines (rest_in state b)))
        (lacks : LacksRecord state b c) where
      abbrev whole_lines : List (List ℕ)
      whole_lines = lines (whole_part came)

      abbrev HasNone : Type 0
      HasNone = (interleaved_pairs check a.encoding given (whole_part came)).mates ≡ []

      abbrev n : ℕ
      n = suc given

      -- there is no second record
      none_behind : (x y : Read) (ls rest : List (List ℕ)) →
          front a.encoding whole_lines ≡ Found x ls → front a.encoding ls ≡ Found y rest → ⊥
      none_behind x y ls rest one two = grind (arith, common_steps, front_more, before, left)

      by_second : (x : Read) (ls : List (List ℕ)) → front a.encoding whole_lines ≡ Found x ls →
          (B : Front) → front a.encoding ls ≡ B → HasNone
      by_second x ls one End two = ap (λ (ps : Pairs). ps.mates)
          (interleaved_pairs_of-stopped check a.encoding given whole_lines _
          (ap (interleaved_meeting check a.encoding n) one ∙ ap (meeting_after check n x) two))
      by_second x ls one (Faulty y) two = ap (λ (ps : Pairs). ps.mates)
          (interleaved_pairs_of-stopped check a.encoding given whole_lines _
          (ap (interleaved_meeting check a.encoding n) one ∙ ap (meeting_after check n x) two))
      by_second x ls one (Found y rest) two = absurd (none_behind x y ls rest one two)

      by_first : (A : Front) → front a.encoding whole_lines ≡ A → HasNone
      by_first End one =
          ap (λ (ps : Pairs). ps.mates) (interleaved_pairs_of-ended check a.encoding given
          whole_lines (ap (interleaved_meeting check a.encoding n) one))
      by_first (Faulty x) one = ap (λ (ps : Pairs). ps.mates)
          (interleaved_pairs_of-stopped check a.encoding given whole_lines _
          (ap (interleaved_meeting check a.encoding n) one))
      by_first (Found x ls) one = by_second x ls one (front a.encoding ls) refl

      -- if the second record was not read, the whole lines that came make no pair
      no_pair : HasNone
      no_pair = by_first (front a.encoding whole_lines) refl

      -- if the feed had not reported its end, they make one record
      one_came : b.ended ≡ false → length (records a.encoding (whole_part came)).reads ≡ 1
      one_came going =
          grind (
            arith,
            before,
            lines_behind (side a) (side b) (side c) 0 (drawn_in a b p) (drawn_in b c q) told
                (used_in a b t) going,
            front_fewer,
            one_record,
            no_records,
          )

-- a fault of the text is that of the record that comes first, with its number
stops_behind : (check : Bool) (n : ℕ) (f : Read) (x : Front) (k : ℕ) (why : TextFault) → k ≡ 2 * n →
    is_outside why ≡ false → FaultIs x k why →
    meeting_after check n f x ≡ Stopped (Text Reverse why)
stops_behind check n f x k why is inside p = grind (arith, common_steps)

cut_lacks : (P : Type 0) (why : TextFault) → is_cut why ≡ true → if_read P why → P
cut_lacks P why cut p = search rules

-- the side of a cut
cut_side : (P : Side → Type 0) (s : Side) (why : TextFault) → (is_cut why ≡ true → P s) →
    if_cut P (Text s why)
cut_side P s why p = search rules

endless_behind : (P : Type 0) (why : TextFault) → endless_text P why →
    if_endless P P (Text Reverse why)
endless_behind P why p = search rules

-- what stays, and is false later, was false before
not_before : {before later : Bool} → (before ≡ true → later ≡ true) → later ≡ false → before ≡ false
not_before {before} {later} stays none = ⊎_elim (λ over. absurd (let h = sym (stays over) ∙ none in
    cc)) (λ going. going) (cases_Bool before)

module _ {F : Type 0} (state : F → FeedState) (a b c : Sourced F) (p : KeepsCount state a b)
    (q : KeepsCount state b c) (kept : Read) (check : Bool) (given : ℕ) (before : Bool) (f : Read)
    (first : GivesRecord state a b f) where
  -- a fault after a forward mate
  second_stops : (why : TextFault) → a.given ≡ 2 * given → StopsText state b c why →
      StopsPairs state (asked a kept check given before)
      (stopped c f check given (Err (Text Reverse why))) (Text Reverse why)
  second_stops why even stops =
      let one = first.given in
      let n = suc given in
      let number : b.given + 1 ≡ 2 * n = omega arith in
      let fault_is : IsTrue (state a.feed).tells → is_outside why ≡ false →
      front_of state (asked a kept check given before) ≡ Stopped (Text Reverse why) =
      λ told inside.
      front_behind state a b c p q kept check given before f first told
      ∙ stops_behind check n f (front b.encoding (lines (rest_in state b))) (b.given + 1) why number
      inside (stops.fault_is (p.told ∙ told)) in
      record {
        fault_is = fault_is;
        left = λ told inside. interleaved_left_stopped state (asked a kept check given before)
            (Text Reverse why) (fault_is told inside);
        lacks = λ cut told. no_pair state a b c p q told (first.tail told) check given f
            (first.record_is told) (cut_lacks _ why cut stops.lacks);
        next = cut_side (IsNext state a c) Reverse why (λ cut told.
            ap side_after (one_came state a b c p q told (first.tail told) check given f
            (first.record_is told) (cut_lacks _ why cut stops.lacks)
            (cut_lacks _ why cut stops.going)));
        going = λ cut. not_before p.ended (cut_lacks _ why cut stops.going);
        endless = endless_behind _ why stops.endless;
        names = tt;
        reading = (stops.last, stops.given ∙ first.given);
        given = refl;
        last = refl;
        current = refl;
      }

  -- a fault that is not one of the text
  pair_stops : (why : InputFault) → is_cut_short why ≡ false → if_cut (IsNext state a c) why →
      if_endless (c.max_reads ≤ c.taken) (c.max_reads ≤ c.taken) why → WasReading a c why →
      if_unmatched (IsSomeAnd (names_kept (Some (Err why)) (Some f) c.current) (λ names.
      IsTrue (state a.feed).tells →
      first_names (front_of state (asked a kept false given before)) ≡ Some names)) why →
      (IsTrue (state a.feed).tells →
      front_of state (asked a kept check given before) ≡ Stopped why) →
      StopsPairs state (asked a kept check given before) (stopped c f check given (Err why)) why
  pair_stops why uncut next endless reading names fault_is = record {
    fault_is = λ told inside. fault_is told;
    left = λ told inside. interleaved_left_stopped state (asked a kept check given before) why
        (fault_is told);
    lacks = λ cut. absurd (both_ways (is_cut_short why) uncut cut);
    next = next;
    going = λ cut. absurd (both_ways (is_cut_short why) uncut cut);
    endless = endless;
    names = names;
    reading = reading;
    given = refl;
    last = refl;
    current = refl;
  }

  -- if the text ends after a forward mate, the reverse mate is missing
  mate_missing : EndsText state b c →
      (let why = MateMissing Reverse (given + 1) in
      StopsPairs state (asked a kept check given before) (stopped c f check given (Err why)) why)
  mate_missing ends =
      pair_stops (MateMissing Reverse (given + 1)) refl tt tt tt tt
      (λ told. grind (arith, common_steps, front_behind))

  -- two records that were given make no pair if their names differ
  names_differ : (r : Read) (why : InputFault) → why ≡ NamesDiffer (given + 1) →
      GivesRecord state b c r → belong check (mates_in f r) ≡ false →
      StopsPairs state (asked a kept check given before) (stopped c f check given (Err why)) why
  names_differ r why is second apart =
      grind (arith, common_steps, two_given, pair_stops, front_behind, add-one)

pub returns-in_err-has_second-clause-count : goal.returns-in_err-has_second-clause-count
returns-in_err-has_second-clause-count g c =
    keeps_then g.F.Feed.state _ _ _ c.next_into.ensures.count c.read_record.ensures.count

pub returns-then-not-has_second-clause-count : goal.returns-then-not-has_second-clause-count
returns-then-not-has_second-clause-count g c =
    keeps_then g.F.Feed.state _ _ _ c.next_into.ensures.count c.read_record.ensures.count

pub returns-in_err-lengths-clause-count : goal.returns-in_err-lengths-clause-count
returns-in_err-lengths-clause-count g c = keeps_then g.F.Feed.state _ _ _ c.next_into.ensures.count
    c.read_record.ensures.count

pub returns-clause-count : goal.returns-clause-count
returns-clause-count g c = keeps_then g.F.Feed.state _ _ _ c.next_into.ensures.count
    c.read_record.ensures.count

pub returns-clause-found : goal.returns-clause-found
returns-clause-found g c = λ lent _.
    let f = c.next_into.new.copy in
    let r = c.record-second.result in
    let held = c.record-second.ensures.record in
    let checked = c.in_ok-lengths.ensures in
    let one : c.next_into.result ≡ Ok true = grind (arith, common_steps) in
    let two : c.read_record.result ≡ Ok true = grind (arith, common_steps) in
    let first = c.next_into.ensures.found c.requires.ready.last one in
    let second = of_current _ r _ held (c.read_record.ensures.found two) in
    let together = of_titles c.args.check_names true f r _ _ c.title.ensures.title
    c.title-2.ensures.title checked.names in
    of_pair (Some f) _ f r _ refl held
    (two_given g.F.Feed.state _ _ _ c.next_into.ensures.count c.read_record.ensures.count
    c.args.forward.now c.args.check_names c.args.given (is_some c.args.names.now) lent f r
    first second together)

pub returns-in_err-has_second-clause-fault : goal.returns-in_err-has_second-clause-fault
returns-in_err-has_second-clause-fault g c =
    let one : c.next_into.result ≡ Ok true = grind (arith, common_steps) in
    let told = err_from_is_err_and c.from_residual-in_err-has_second.result
    c.from_residual-in_err-has_second.ensures.1 in
    let why = err_mapped c.read_record.result c.map_err-2.result (Text Reverse) _
    c.map_err-2.ensures.cases (λ why u is. search rules) _ c.in_err-has_second.was in
    let first = c.next_into.ensures.found c.requires.ready.last one in
    rw (told.1, told.2, why.2) (second_stops g.F.Feed.state _ _ _ c.next_into.ensures.count
    c.read_record.ensures.count _ _ _ _ _ first why.0 c.requires.ready.records
    (rw why.1 at c.read_record.ensures.fault))

pub returns-then-not-has_second-clause-fault : goal.returns-then-not-has_second-clause-fault
returns-then-not-has_second-clause-fault g c =
    let one : c.next_into.result ≡ Ok true = grind (arith, common_steps) in
    let two : c.read_record.result ≡ Ok false = grind (arith, common_steps) in
    let first = c.next_into.ensures.found c.requires.ready.last one in
    mate_missing g.F.Feed.state _ _ _ c.next_into.ensures.count c.read_record.ensures.count
    c.args.forward.now c.args.check_names c.args.given (is_some c.args.names.now)
    c.next_into.new.copy first
    (c.read_record.ensures.end two)

pub returns-in_err-lengths-clause-fault : goal.returns-in_err-lengths-clause-fault
returns-in_err-lengths-clause-fault g c =
    grind (arith, common_steps, of_current, of_titles, err_from_is_err_and, names_differ)
