-- What reading shows of the pairs of the inputs.
use Rattle.std.proofs.Common.{◌≡◌, ℕ, suc, ◌+◌, ◌-◌, ◌≤◌, ⊎_elim, Bool, true, false, IsTrue, Option, Some, None, List, [], ◌∷◌, ◌++◌, length, refl, ap, sym, ◌∙◌, arith, append_assoc}
use Rattle.std.specs.List.{slice_get}
use Rattle.std.specs.Option.{IsSomeAnd, option_map}
use Rattle.std.proofs.lemmas.List.{append-nil}
use Rattle.std.proofs.lemmas.Grind.{common_steps}
use Rattle.fq_text.specs.declared.encoding.Encoding.{Encoding}
use Rattle.fq_text.specs.Lines.{lines, whole_part}
use Rattle.fq_text.specs.Records.{records}
use Rattle.fq_text.specs.declared.fault.TextFault.{TextFault}
use Rattle.fq_pair.specs.declared.side.Side.TheVariants.{Forward, Reverse}
use Rattle.fq_pair.specs.declared.side.Side.{Side}
use Rattle.fq_pair.specs.declared.fault.InputFault.{InputFault}
use Rattle.fq_pair.specs.declared.fault.InputFault.TheVariants.{Text, NamesDiffer}
use Rattle.fq_pair.specs.Mates.{Mates, MateNames, mate_names}
use Rattle.fq_pair.specs.Forms.{Form, TwoTexts, InterleavedText, pairs_in, front_in, names_of_pair, failed_at}
use Rattle.fq_pair.specs.Pairing.{Pairs, with_pair, PairFront, Ended, Stopped, first_names}
use Rattle.fq_pair.specs.PairSources.{is_from_outside, is_cut, is_cut_short, if_cut}
use Rattle.fq_pair.specs.Interleaved.{side_after}
use Rattle.fq_pair.proofs.AskLemmas.{some_and}
use Rattle.fq_pair.proofs.WholeLemmas.{behind_whole}
use Rattle.fq_pair.proofs.SideLemmas.{draws_then, lines_before, lines_left, lines_behind}
use Rattle.fq_run_core.specs.declared.reading_end.ReadingEnd.{ReadingEnd}
use Rattle.fq_run_core.specs.declared.reading_end.ReadingEnd.TheVariants as reading
use Rattle.fq_run_core.specs.Choices.{Choices}
use Rattle.fq_text.specs.Devices.{FeedState}
use Rattle.fq_run_core.specs.Devices.{Fed}
use Rattle.fq_pair.specs.Walks.{SideState, SourceState, rest, fed, came, Draws, Leads, next_front, next_names, Walks, MeetsFault, IsNext, faulty}
use Rattle.fq_run_core.specs.PairsRead.{Reads, fresh_side, fresh_source, feed_in}
use Rattle.fq_run_core.specs.Endings.{AreFirst}
use Rattle.fq_run_core.proofs.FormLemmas.{pairs_at, pairs_in-lines, pairs_at-met, pairs_at-stopped, pairs_at-ended}
use Rattle.fq_run_core.proofs.NamesLemmas.{leads_unchecked, differ_next, first_names_at, pair_after}
use Rattle.fq_run_core.proofs.CutLemmas.{mates_at, no_forward, no_reverse, at_most, interleaved_at, no_interleaved, interleaved_at_most, turn_kept}

-- pairs before others
abbrev pub put_before : List Mates → Pairs → Pairs
put_before ms p = record { mates = ms ++ p.mates; fault = p.fault }

-- the pairs of the inputs are the leading ones, and those after them
pub leads_all : (form : Form) (check : Bool) (e : Encoding) (n : ℕ) (ms : List Mates)
    (f r f' r' : List (List ℕ)) → Leads form check e n ms f r f' r' →
    pairs_at form check e n f r ≡ put_before ms (pairs_at form check e (n + length ms) f' r')
leads_all form check e n [] f r f' r' p = grind (arith, common_steps)
leads_all form check e n (m ∷ ms) f r f' r' p =
    let number : suc n + length ms ≡ n + suc (length ms) = omega arith in
    pairs_at-met check e n form f r m p.0 p.1 p.2
    ∙ ap (with_pair m) (leads_all form check e (suc n) ms p.0 p.1 f' r' p.3)
    ∙ ap (λ (k : ℕ). put_before (m ∷ ms) (pairs_at form check e k f' r')) number

-- how often a side's feed failed
abbrev pub failed_by : Form → Side → Option ReadingEnd → ℕ
failed_by form side (Some (reading.Fault why)) = failed_at form side (faulty why)
failed_by form side _ = 0

-- One side.

module _ (c : Choices) (f : FeedState) (s : SideState) (n : ℕ)
    (d : Draws (fresh_side c f) s n) where
  -- the feed that is handed back has the other bytes still to come, and failed n times
  pub fed_back : Fed f (feed_in s) n
  fed_back = grind (arith, common_steps)

-- Both sides.

module _ (form : Form) (c : Choices) (f r : FeedState) where
  -- all pairs
  abbrev pub all_of : Pairs
  all_of = pairs_in form c.check_names c.encoding 0 f.to_come r.to_come

  led : (check : Bool) (s : SourceState) (ms : List Mates) →
      Leads form check c.encoding 0 ms (lines f.to_come) (lines r.to_come) (lines (rest s.forward))
      (lines (rest s.reverse)) →
      pairs_in form check c.encoding 0 f.to_come r.to_come
      ≡ put_before ms (pairs_at form check c.encoding (length ms) (lines (rest s.forward))
      (lines (rest s.reverse)))
  led check s ms leads =
      let number : 0 + length ms ≡ length ms = omega arith in
      pairs_in-lines check c.encoding 0 form f.to_come r.to_come
      ∙ leads_all form check c.encoding 0 ms _ _ _ _ leads
      ∙ ap (λ (k : ℕ). put_before ms (pairs_at form check c.encoding k (lines (rest s.forward))
      (lines (rest s.reverse)))) number

  walked : (s : SourceState) (ms : List Mates) → Walks (fresh_source form c f r) s ms →
      IsTrue f.tells → IsTrue r.tells →
      all_of ≡ put_before ms (pairs_at form c.check_names c.encoding (length ms) (lines
      (rest s.forward)) (lines (rest s.reverse)))
  walked s ms w tf tr = led c.check_names s ms (w.leads tf tr)

  front_as : (s : SourceState) (ms : List Mates) (x : PairFront) →
      Walks (fresh_source form c f r) s ms → next_front s ≡ x →
      front_in form c.check_names c.encoding (length ms) (lines (rest s.forward))
      (lines (rest s.reverse)) ≡ x
  front_as s ms x w is = grind (arith, common_steps)

  is_first : (s : SourceState) (ms : List Mates) → Walks (fresh_source form c f r) s ms →
      IsTrue f.tells → IsTrue r.tells → AreFirst ms all_of.mates
  is_first s ms w tf tr = (
    (pairs_at form c.check_names c.encoding (length ms) (lines (rest s.forward))
        (lines (rest s.reverse))).mates,
    ap (λ (p : Pairs). p.mates) (walked s ms w tf tr),
  )

  -- the pairs that were read are the first of all pairs
  pub reads_first : (s : SourceState) (ms : List Mates) (why : Option ReadingEnd) →
      Reads (fresh_source form c f r) s ms why → IsTrue f.tells → IsTrue r.tells →
      AreFirst ms all_of.mates
  reads_first s ms None p tf tr = is_first s ms p tf tr
  reads_first s ms (Some reading.End) p tf tr = is_first p.0 ms p.1 tf tr
  reads_first s ms (Some (reading.Fault w)) p tf tr = is_first p.0 ms p.1 tf tr
  reads_first s ms (Some (reading.Memory refused)) p tf tr =
      let q = is_first s (ms ++ p.0) p.1 tf tr in (p.0 ++ q.0, q.1 ∙ append_assoc ms p.0 q.0)

  -- if no pair comes next, they are all pairs
  read_all : (s : SourceState) (ms : List Mates) (fault : Option InputFault) →
      Walks (fresh_source form c f r) s ms → IsTrue f.tells → IsTrue r.tells →
      pairs_at form c.check_names c.encoding (length ms) (lines (rest s.forward))
      (lines (rest s.reverse)) ≡ record { mates = []; fault = fault } →
      all_of ≡ record { mates = ms; fault = fault }
  read_all s ms fault w tf tr none = walked s ms w tf tr ∙ ap (put_before ms) none
      ∙ ap (λ (xs : List Mates). let q : Pairs = record { mates = xs; fault = fault } in
      q) (append-nil ms)

  -- at the end of the inputs they are all pairs, and there is no fault
  pub reads_end : (s : SourceState) (ms : List Mates) →
      Reads (fresh_source form c f r) s ms (Some reading.End) → IsTrue f.tells → IsTrue r.tells →
      all_of ≡ record { mates = ms; fault = None }
  reads_end s ms p tf tr =
      let w = p.1 in let e = p.2 in let d = w.forward in let d' = w.reverse in
      read_all p.0 ms None w tf tr (pairs_at-ended c.check_names c.encoding (length ms) form _ _
      (front_as p.0 ms Ended w (e.end_is (d.told ∙ tf) (d'.told ∙ tr))))

  -- at a fault in the texts they are all pairs too, and this is the fault
  pub reads_fault : (s : SourceState) (ms : List Mates) (why : InputFault) →
      Reads (fresh_source form c f r) s ms (Some (reading.Fault why)) →
      is_from_outside why ≡ false → IsTrue f.tells → IsTrue r.tells →
      all_of ≡ record { mates = ms; fault = Some why }
  reads_fault s ms why p inside tf tr =
      let w = p.1 in let e = p.2 in let d = w.forward in let d' = w.reverse in
      read_all p.0 ms (Some why) w tf tr (pairs_at-stopped c.check_names c.encoding (length ms)
      form _ _ why (front_as p.0 ms (Stopped why) w (e.fault_is (d.told ∙ tf) (d'.told ∙ tr)
      inside)))

  names_as : (s : SourceState) (ms : List Mates) → Walks (fresh_source form c f r) s ms →
      next_names s ≡ first_names (front_in form false c.encoding (length ms)
      (lines (rest s.forward)) (lines (rest s.reverse)))
  names_as s ms w = grind (arith, common_steps)

  of_pair : (m s : SourceState) (ms : List Mates) (k : ℕ) (names : MateNames) →
      Walks (fresh_source form c f r) m ms → MeetsFault m s (NamesDiffer k) →
      next_names m ≡ Some names → IsTrue f.tells → IsTrue r.tells →
      names_of_pair k form c.encoding f.to_come r.to_come ≡ Some names
  of_pair m s ms k names w e is tf tr =
      let d = w.forward in let d' = w.reverse in
      let ahead = lines (rest m.forward) in let behind = lines (rest m.reverse) in
      let number =
      differ_next form c.check_names c.encoding (length ms) k ahead behind (front_as m ms
      (Stopped (NamesDiffer k)) w (e.fault_is (d.told ∙ tf) (d'.told ∙ tr) refl)) in
      let place : k - 1 ≡ length ms = omega arith in
      let others = (pairs_at form false c.encoding (length ms) ahead behind).mates in
      ap (option_map mate_names) (ap (λ (q : Pairs). slice_get q.mates (k - 1)) (led false m ms
      (leads_unchecked form c.check_names c.encoding 0 ms _ _ _ _ (w.leads tf tr)))
      ∙ ap (λ (i : ℕ). slice_get (ms ++ others) i) place ∙ pair_after ms others)
      ∙ sym (first_names_at form c.encoding (length ms) ahead behind) ∙ sym (names_as m ms w) ∙ is

  -- names that differ are those of the pair with this number
  pub reads_names : (s : SourceState) (ms : List Mates) (k : ℕ) →
      Reads (fresh_source form c f r) s ms (Some (reading.Fault (NamesDiffer k))) →
      IsSomeAnd s.names (λ names. IsTrue f.tells → IsTrue r.tells →
      names_of_pair k form c.encoding f.to_come r.to_come ≡ Some names)
  reads_names s ms k p =
      let w = p.1 in let e = p.2 in let d = w.forward in let d' = w.reverse in
      some_and s.names _ _ (λ names is tf tr.
      of_pair p.0 s ms k names w e (is (d.told ∙ tf) (d'.told ∙ tr)) tf tr) e.names

  -- the failures of a side, by the form of the source at the fault
  failed_as : (m : SourceState) (old new : SideState) (side : Side) (why : InputFault) →
      m.form ≡ form → Draws old new (failed_at m.form side (faulty why)) →
      Draws old new (failed_at form side (faulty why))
  failed_as m old new side why is d = grind (arith, common_steps)

  -- the forward feed gave bytes, and failed as often as the reason why reading stopped implies
  pub reads_forward : (s : SourceState) (ms : List Mates) (why : Option ReadingEnd) →
      Reads (fresh_source form c f r) s ms why →
      Draws (fresh_side c f) s.forward (failed_by form Forward why)
  reads_forward s ms None p = p.forward
  reads_forward s ms (Some reading.End) p = let w = p.1 in let e = p.2 in let m = p.0 in
      draws_then _ m.forward _ 0 w.forward e.forward
  reads_forward s ms (Some (reading.Fault x)) p = let v = p.1 in let e = p.2 in let m = p.0 in
      let same = v.same in draws_then _ m.forward _ _ v.forward
      (failed_as m m.forward s.forward Forward x same.form e.forward)
  reads_forward s ms (Some (reading.Memory refused)) p = let w = p.1 in w.forward

  -- the reverse feed gave bytes, and failed as often as the reason why reading stopped implies
  pub reads_reverse : (s : SourceState) (ms : List Mates) (why : Option ReadingEnd) →
      Reads (fresh_source form c f r) s ms why →
      Draws (fresh_side c r) s.reverse (failed_by form Reverse why)
  reads_reverse s ms None p = p.reverse
  reads_reverse s ms (Some reading.End) p = let w = p.1 in let e = p.2 in let m = p.0 in
      draws_then _ m.reverse _ 0 w.reverse e.reverse
  reads_reverse s ms (Some (reading.Fault x)) p = let v = p.1 in let e = p.2 in let m = p.0 in
      let same = v.same in draws_then _ m.reverse _ _ v.reverse
      (failed_as m m.reverse s.reverse Reverse x same.form e.reverse)
  reads_reverse s ms (Some (reading.Memory refused)) p = let w = p.1 in w.reverse

  lacks_as : (s : SourceState) (ms : List Mates) (xs ys : List ℕ) →
      Walks (fresh_source form c f r) s ms →
      (pairs_in s.form s.check_names s.encoding s.given (whole_part xs) (whole_part ys)).mates
      ≡ [] →
      (pairs_at form c.check_names c.encoding (0 + length ms) (lines (whole_part xs))
      (lines (whole_part ys))).mates ≡ []
  lacks_as s ms xs ys w is = grind (arith, common_steps)

-- If reading was cut short, the complete lines that came have no more pairs.
module _ (c : Choices) (f r : FeedState) where
  cut_two : (s : SourceState) (ms : List Mates) (why : InputFault) →
      Reads (fresh_source TwoTexts c f r) s ms (Some (reading.Fault why)) →
      is_cut_short why ≡ true → IsTrue f.tells → IsTrue r.tells →
      length (pairs_in TwoTexts c.check_names c.encoding 0
      (whole_part (fed (fresh_side c f) s.forward))
      (whole_part (fed (fresh_side c r) s.reverse))).mates ≤ length ms
  cut_two s ms why p short tf tr =
      let m = p.0 in let w = p.1 in let e = p.2 in let d = w.forward in let d' = w.reverse in
      let F = lines_before (fresh_side c f) m.forward s.forward _ w.forward e.forward tf
      (w.forward_used tf) in
      let R = lines_before (fresh_side c r) m.reverse s.reverse _ w.reverse e.reverse tr
      (w.reverse_used tr) in
      let lacks = lacks_as TwoTexts c f r m ms (m.forward.in_hand ++ fed m.forward s.forward)
      (m.reverse.in_hand ++ fed m.reverse s.reverse) w (e.lacks short (d.told ∙ tf) (d'.told
      ∙ tr)) in
      at_most c.check_names c.encoding (lines (behind_whole
      (fed (fresh_side c f) s.forward) ++ s.forward.to_come))
      (lines (behind_whole (fed (fresh_side c r) s.reverse) ++ s.reverse.to_come)) 0 ms
      (lines (whole_part (fed (fresh_side c f) s.forward)))
      (lines (whole_part (fed (fresh_side c r) s.reverse))) (lines (rest m.forward))
      (lines (rest m.reverse))
      (rw R at (rw F at (w.leads tf tr)))
      (λ fs rs first second. ⊎_elim
      (λ came. ⊎_elim
      (λ also.
      let none : mates_at c.check_names c.encoding (0 + length ms) fs rs ≡ [] =
      ap (λ ls. mates_at c.check_names c.encoding (0 + length ms) ls rs) came
      ∙ ap (mates_at c.check_names c.encoding (0 + length ms)
      (lines (whole_part (m.forward.in_hand ++ fed m.forward s.forward)))) also ∙ lacks in
      let len = ap length none in omega arith)
      (λ nothing_left.
      let none = ap (mates_at c.check_names c.encoding (0 + length ms) fs) nothing_left
      ∙ no_reverse c.check_names c.encoding (0 + length ms) fs in
      let len = ap length none in omega arith)
      (lines_left (fresh_side c r) m.reverse s.reverse _ w.reverse e.reverse tr (w.reverse_used tr)
      rs second))
      (λ nothing_left.
      let none = ap (λ ls. mates_at c.check_names c.encoding (0 + length ms) ls rs) nothing_left
      ∙ no_forward c.check_names c.encoding (0 + length ms) rs in
      let len = ap length none in omega arith)
      (lines_left (fresh_side c f) m.forward s.forward _ w.forward e.forward tf (w.forward_used tf)
      fs first))

  cut_one : (s : SourceState) (ms : List Mates) (why : InputFault) →
      Reads (fresh_source InterleavedText c f r) s ms (Some (reading.Fault why)) →
      is_cut_short why ≡ true → IsTrue f.tells → IsTrue r.tells →
      length (pairs_in InterleavedText c.check_names c.encoding 0
      (whole_part (fed (fresh_side c f) s.forward))
      (whole_part (fed (fresh_side c r) s.reverse))).mates ≤ length ms
  cut_one s ms why p short tf tr =
      let m = p.0 in let w = p.1 in let e = p.2 in let d = w.forward in let d' = w.reverse in
      let F = lines_before (fresh_side c f) m.forward s.forward _ w.forward e.forward tf
      (w.forward_used tf) in
      let lacks = lacks_as InterleavedText c f r m ms (m.forward.in_hand ++ fed m.forward s.forward)
      (m.reverse.in_hand ++ fed m.reverse s.reverse) w (e.lacks short (d.told ∙ tf) (d'.told
      ∙ tr)) in
      interleaved_at_most c.check_names c.encoding
      (lines (behind_whole (fed (fresh_side c f) s.forward) ++ s.forward.to_come)) 0 ms
      (lines (whole_part (fed (fresh_side c f) s.forward))) (lines (rest (fresh_side c r)))
      (lines (rest m.forward)) (lines (rest m.reverse))
      (rw F at (w.leads tf tr))
      (λ fs first. ⊎_elim
      (λ came. let none = ap (interleaved_at c.check_names c.encoding (0 + length ms)) came
      ∙ lacks in let len = ap length none in omega arith)
      (λ nothing_left. let none = ap (interleaved_at c.check_names c.encoding (0 + length ms))
      nothing_left ∙ no_interleaved c.check_names c.encoding (0 + length ms) in let len =
      ap length none in omega arith)
      (lines_left (fresh_side c f) m.forward s.forward _ w.forward e.forward tf (w.forward_used tf)
      fs first))

  -- if reading was cut short, the complete lines that came have at most the pairs that were read
  pub reads_cut : (form : Form) (s : SourceState) (ms : List Mates) (why : InputFault) →
      Reads (fresh_source form c f r) s ms (Some (reading.Fault why)) → is_cut_short why ≡ true →
      IsTrue f.tells → IsTrue r.tells →
      length (pairs_in form c.check_names c.encoding 0 (whole_part (fed (fresh_side c f) s.forward))
      (whole_part (fed (fresh_side c r) s.reverse))).mates ≤ length ms
  reads_cut TwoTexts = cut_two
  reads_cut InterleavedText = cut_one

  -- in an interleaved text the read call was made for the next record
  pub reads_next : (s : SourceState) (ms : List Mates) (side : Side) (fault : TextFault) →
      Reads (fresh_source InterleavedText c f r) s ms (Some (reading.Fault (Text side fault))) →
      is_cut fault ≡ true →
      ((P : Side → Type 0) → if_cut P (Text side fault) → P side) → IsTrue f.tells →
      IsTrue r.tells →
      side_after
      (length (records c.encoding (whole_part (fed (fresh_side c f) s.forward))).reads) ≡ side
  reads_next s ms side fault p cut of_side tf tr =
      let m = p.0 in let w = p.1 in let e = p.2 in let d = w.forward in let same = w.same in
      let F = lines_before (fresh_side c f) m.forward s.forward _ w.forward e.forward tf
      (w.forward_used tf) in
      let B = lines_behind (fresh_side c f) m.forward s.forward _ w.forward e.forward tf
      (w.forward_used tf) (e.going same.form cut) in
      let more = lines (behind_whole (fed (fresh_side c f) s.forward) ++ s.forward.to_come) in
      let behind = lines (whole_part (came m.forward s.forward)) in
      turn_kept c.check_names c.encoding more behind 0 ms
      (lines (whole_part (fed (fresh_side c f) s.forward))) (lines (rest (fresh_side c r)))
      (lines (rest m.reverse))
      (rw B at (rw F at (w.leads tf tr)))
      ∙ ap (λ (x : Encoding). side_after (length (records x
      (whole_part (came m.forward s.forward))).reads)) (sym same.encoding)
      ∙ of_side (IsNext m s) (e.next same.form) (d.told ∙ tf)
