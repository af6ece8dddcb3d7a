-- Which outcome a run has, what it implies, and what the run guarantees if all its lanes are
-- confirmed. A serial run has no lanes.
use Rattle.std.proofs.Common.{◌≡◌, ◌<◌, ◌≤◌, Bool, true, false, ◌||◌, Option, Some, None, is_some, IsSome, MatchOption, Result, IfOk, MatchResult, refl, sym, ap, ◌∙◌, arith, ◌&&◌, ℕ, ◌⊎◌, inl, inr, IsTrue, List, [], ◌++◌, length, subst, append_assoc}
use Rattle.std.specs.Option.{IsSomeAnd}
use Rattle.std.proofs.lemmas.Grind.{common_steps}
use Rattle.fq_text.specs.declared.memory.MemoryRefused.{MemoryRefused}
use Rattle.fq_pair.specs.declared.out.Out.{Out}
use Rattle.fq_pair.specs.declared.side.Side.{Side}
use Rattle.fq_pair.specs.declared.side.Side.TheVariants.{Forward, Reverse}
use Rattle.fq_pair.specs.declared.fault.InputFault.TheVariants.{Text, NamesDiffer}
use Rattle.fq_pair.specs.PairSources.{is_from_outside, is_cut, is_cut_short, if_cut}
use Rattle.fq_pair.specs.Forms.{Form, TwoTexts, InterleavedText}
use Rattle.fq_run_core.specs.declared.outcome.Outcome.{Outcome}
use Rattle.fq_run_core.specs.declared.outcome.Outcome.TheVariants.{Spawn, Lane, Gate, Memory, Write, Read, Endless, Input, Finished}
use Rattle.fq_run_core.specs.declared.halt.Halt.{Halt}
use Rattle.fq_run_core.specs.declared.reading_end.ReadingEnd.{ReadingEnd}
use Rattle.fq_run_core.specs.Outcomes.{rank, end_of, is_memory, is_unmatched, outcome_of}
use Rattle.fq_run_core.specs.Writing.{no_halt, refused_in, fault_in, occurred, IsCounted, Passes, FlushesAfter, is_flush, Runs}
use Rattle.fq_run_core.proofs.ReadingLemmas.{failed_by, fed_back, reads_first, reads_end, reads_fault, reads_forward, reads_reverse, reads_cut, reads_next, reads_names}
use Rattle.std.proofs.lemmas.List.{append-nil}
use Rattle.std.proofs.Math.Bool.{and-true, and-false}
use Rattle.fq_trim.specs.declared.step.Step.{Step}
use Rattle.fq_report_pairs.specs.declared.tally.Tally.{Tally}
use Rattle.fq_text.specs.declared.fault.TextFault.{TextFault}
use Rattle.fq_pair.specs.declared.fault.InputFault.{InputFault}
use Rattle.fq_pair.specs.Mates.{Mates, MateNames}
use Rattle.fq_pair.specs.Pairing.{Pairs}
use Rattle.fq_pair.specs.Outputs.{texts_of, text_of, counts_of}
use Rattle.fq_report_pairs.specs.Results.{tally_if}
use Rattle.fq_run_core.specs.declared.total.Total.{Total}
use Rattle.fq_run_core.specs.Choices.{Choices}
use Rattle.fq_text.specs.Devices.{FeedState}
use Rattle.fq_run_core.specs.Devices.{gave, OutletStates, AreFlushed, OutletsTook, AreHealthy}
use Rattle.fq_run_core.specs.Fates.{Fate, Unbroken, FlushFailed, WriteFailed, failed_outlet, block_begun, part_begun, IsCutShort}
use Rattle.fq_pair.specs.Walks.{SourceState, fed}
use Rattle.fq_run_core.specs.PairsRead.{Reads, fresh_side, fresh_source, feed_in}
use Rattle.fq_run_core.specs.Totals.{tally_at, ended}
use Rattle.fq_run_core.proofs.TotalLemmas.{recounted}
use Rattle.fq_run_core.specs.Endings.{Run, AreTold, all_pairs, trimmed_outcome, IsTrimmed, ends_whole, feed_of, feed_left, gave_to, failures_in, IsCutOff, pairs_given, IsNext, IsAllThatCame, AreFirst, IsJustified, AreItsNames, TellsNames, EveryEnding}
use Rattle.fq_run_core.proofs.OutletLemmas.{all_took_same, still_healthy}
use Rattle.fq_text.specs.declared.fault.TextFault.TheVariants as text
use Rattle.fq_run_core.specs.declared.reading_end.ReadingEnd.TheVariants as reading
use Rattle.fq_run_core.specs.declared.outcome.Outcome.TheVariants as outcome

-- Which outcome a run has, and what it implies.

-- memory was refused to a pair, or to the reading of one
abbrev pub lacks_memory : Option ReadingEnd → Bool
lacks_memory why = is_some (refused_in why) || is_memory (end_of (fault_in why))

-- what occurred in a run whose lanes are all confirmed, by its outcome
abbrev pub Verdict : Halt → Option ReadingEnd → Option Out → Outcome → Type 0
Verdict halt why failed Gate = halt.gate ≡ true
Verdict halt why failed Memory = Unit {0}
Verdict halt why failed (Write out) =
    (failed ≡ Some out) × (halt ≡ no_halt) × (lacks_memory why ≡ false)
Verdict halt why failed (Read side) =
    (why ≡ Some (reading.Fault (Text side text.Read))) × (failed ≡ None) × (halt ≡ no_halt)
Verdict halt why failed (Endless side) =
    (why ≡ Some (reading.Fault (Text side text.Endless))) × (failed ≡ None) × (halt ≡ no_halt)
Verdict halt why failed (Input fault) =
    (why ≡ Some (reading.Fault fault)) × (failed ≡ None) × (halt ≡ no_halt)
    × (is_from_outside fault ≡ false)
Verdict halt why failed Finished = (why ≡ Some reading.End) × (failed ≡ None) × (halt ≡ no_halt)
Verdict halt why failed _ = ⊥

abbrev halt_of : Bool → Option MemoryRefused → Halt
halt_of gate memory = record { gate = gate; memory = memory }

verdict_of : (gate : Bool) (memory : Option MemoryRefused) (why : Option ReadingEnd)
    (failed : Option Out) → (why ≡ None → failed ≡ None → ⊥) →
    Verdict (halt_of gate memory) why failed
    (outcome_of (occurred (halt_of gate memory) why failed))
verdict_of true memory why failed over = refl
verdict_of false (Some refused) why failed over = tt
verdict_of false None (Some (reading.Memory refused)) failed over = tt
verdict_of false None (Some (reading.Fault (Text side text.OutOfMemory))) failed over = tt
verdict_of false None why (Some out) over = (refl, refl, refl)
verdict_of false None None None over = absurd (over refl refl)
verdict_of false None (Some reading.End) None over = (refl, refl, refl)
verdict_of false None (Some (reading.Fault (Text side text.Read))) None over = (refl, refl, refl)
verdict_of false None (Some (reading.Fault (Text side text.Endless))) None over = (refl, refl, refl)
verdict_of false None (Some (reading.Fault fault)) None over = (refl, refl, refl, refl)

-- a run in which reading stopped, or an outlet failed, has its outcome for one of these reasons
pub verdict : (halt : Halt) (why : Option ReadingEnd) (failed : Option Out) →
    (why ≡ None → failed ≡ None → ⊥) → Verdict halt why failed
    (outcome_of (occurred halt why failed))
verdict halt why failed over = verdict_of halt.gate halt.memory why failed over

-- How often a feed failed.

-- the feed of a side failed once if a read call for that side failed
pub read_once : (form : Form) (side : Side) →
    failed_by form side (Some (reading.Fault (Text side text.Read))) ≡ 1
read_once TwoTexts Forward = refl
read_once TwoTexts Reverse = refl
read_once InterleavedText Forward = refl
read_once InterleavedText Reverse = refl

-- a feed failed at most once
pub failed_once : (form : Form) (side : Side) (why : Option ReadingEnd) →
    failed_by form side why ≤ 1
failed_once TwoTexts Forward (Some (reading.Fault (Text Forward text.Read))) = omega arith
failed_once TwoTexts Reverse (Some (reading.Fault (Text Reverse text.Read))) = omega arith
failed_once InterleavedText side (Some (reading.Fault (Text Forward text.Read))) = omega arith
failed_once InterleavedText side (Some (reading.Fault (Text Reverse text.Read))) = omega arith
failed_once _ _ _ = omega arith

-- What an outcome implies.

module _ (halt : Halt) (why : Option ReadingEnd) (failed : Option Out) where
  -- the outcome is not `Spawn` or `Lane`
  pub least : (o : Outcome) → Verdict halt why failed o → 3 ≤ rank o
  least Spawn v = absurd v
  least Lane v = absurd v
  least _ v = omega arith

  -- if no worker stopped, the outcome is not `Spawn`, `Lane` or `Gate`
  pub is_serial : (o : Outcome) → halt ≡ no_halt → Verdict halt why failed o → 4 ≤ rank o
  is_serial Spawn sound v = absurd v
  is_serial Lane sound v = absurd v
  is_serial Gate sound v = absurd (let e = ap (λ (h : Halt). h.gate) sound in cc)
  is_serial _ sound v = omega arith

  -- if an outlet failed, the outcome is `Write` or comes before it in the order of precedence
  pub outlet_first : (o : Outcome) → Verdict halt why failed o → (out : Out) →
      failed ≡ Some out → rank o ≤ 5
  outlet_first (Read side) v out is = absurd (let e = sym is ∙ v.1 in cc)
  outlet_first (Endless side) v out is = absurd (let e = sym is ∙ v.1 in cc)
  outlet_first (Input fault) v out is = absurd (let e = sym is ∙ v.1 in cc)
  outlet_first Finished v out is = absurd (let e = sym is ∙ v.1 in cc)
  outlet_first _ v out is = omega arith

  -- if a feed failed, the outcome is `Read` or comes before it in the order of precedence
  pub feed_first : (form : Form) (o : Outcome) → Verdict halt why failed o → (side : Side) →
      0 < failed_by form side why → rank o ≤ 6
  feed_first form (Endless x) v side some = grind (arith, common_steps)
  feed_first form (Input fault) v side some = grind (arith, common_steps)
  feed_first form Finished v side some = grind (arith, common_steps)
  feed_first form _ v side some = omega arith

-- What a run guarantees, from what it read and wrote.

-- pairs were read and written, and the outlets flushed
pub record Closes (c : Choices) (old new : SourceState) (before after : OutletStates)
    (counted : Total) (halt : Halt) (why : Option ReadingEnd) (broken : Option Out) : Type 0 where
  -- the pairs whose block was written completely
  pub whole : List Mates
  pub fate : Fate
  -- the pairs that were read after these, and of which no text was written
  pub missed : List Mates
  pub counts : IsCounted c whole halt why broken counted
  pub reads : Reads old new ((whole ++ block_begun fate) ++ missed) why
  pub took : OutletsTook before after (λ out. text_of out (texts_of c.steps whole) ++ part_begun
      c.steps fate out) (failed_outlet fate)
  pub failed : broken ≡ failed_outlet fate
  pub flushed : broken ≡ None → AreFlushed after
  pub cut_short : IsCutShort c.block_pairs c.steps fate
  -- reading stopped, or an outlet failed
  pub over : why ≡ None → broken ≡ None → ⊥
  -- if a flush failed, reading had stopped
  pub stopped : is_flush fate ≡ true → why ≡ None → ⊥
  -- if no worker stopped, and no write failed, all pairs that were read were written
  pub missed_none : halt ≡ no_halt → block_begun fate ≡ [] → missed ≡ []

unbroken : (fate : Fate) → None ≡ failed_outlet fate → fate ≡ Unbroken
unbroken Unbroken is = refl
unbroken _ is = absurd cc

-- a write failed in a block that has pairs
some_begun : (most : ℕ) (steps : List Step) (fate : Fate) (out : Out) →
    Some out ≡ failed_outlet fate → is_flush fate ≡ false → IsCutShort most steps fate →
    block_begun fate ≡ [] → ⊥
some_begun most steps Unbroken out is unflushed short none = cc
some_begun most steps (FlushFailed failed) out is unflushed short none = cc
some_begun most steps (WriteFailed failed sent block) out is unflushed short none =
    let some = short.0 in let len = ap length none in omega arith

-- an outlet failed at its flush, or none failed
abbrev at_flush : Option Out → Fate
at_flush None = Unbroken
at_flush (Some out) = FlushFailed out

none_begun : (failed : Option Out) → block_begun (at_flush failed) ≡ []
none_begun None = refl
none_begun (Some out) = refl

module _ (c : Choices) (old new : SourceState) (before mid after : OutletStates) (counted : Total)
    (halt : Halt) (why : Option ReadingEnd) where
  -- flushes add no text after the last write, and a failed one is the fate if no write had failed
  pub closes : (broken failed : Option Out) → Passes c old new before mid counted halt why broken →
      FlushesAfter broken mid after failed → Closes c old new before after counted halt why failed
  closes (Some out) failed p q = rw (q.0, q.1) (record {
    whole = p.whole;
    fate = p.fate;
    missed = p.missed;
    counts = p.counts;
    reads = p.reads;
    took = p.took;
    failed = p.failed;
    flushed = λ none. absurd cc;
    cut_short = p.cut_short;
    over = λ going none. absurd cc;
    stopped = λ flush. absurd (let e = p.unflushed in cc);
    missed_none = λ sound empty. absurd (some_begun c.block_pairs c.steps p.fate out p.failed
        p.unflushed p.cut_short empty);
  })
  closes None failed p q =
      let sound = unbroken p.fate p.failed in
      record {
        whole = p.whole;
        fate = at_flush failed;
        missed = p.missed;
        counts = recounted c p.whole halt why None failed counted (λ none. refl) p.counts;
        reads = rw (none_begun failed) (rw sound at p.reads);
        took = grind (arith, common_steps);
        failed = grind (arith, common_steps);
        flushed = q.1;
        cut_short = grind (arith, common_steps);
        over = λ going none. p.over going refl;
        stopped = λ flush going. p.over going refl;
        missed_none = λ sound empty. p.missed_none sound refl;
      }

-- a run, by its form, its feeds and outlets before and after it, its outcome and its total
abbrev pub run_with : Form → FeedState → FeedState → OutletStates → Option FeedState →
    Option FeedState → OutletStates → Outcome → Total → Run
run_with form f r before f' r' after o total = record {
  form = form;
  forward = f;
  reverse = r;
  outlets = before;
  forward_left = f';
  reverse_left = r';
  outlets_left = after;
  outcome = o;
  counts = total.counts;
  tally = total.tally;
}

-- what a run guarantees if all its lanes are confirmed. A serial run has no lanes.
pub record Keeps (c : Choices) (run : Run) (halt : Halt) (held : Option MateNames) : Type 0 where
  -- the outcome is not `Spawn` or `Lane`
  pub started : 3 ≤ rank run.outcome
  -- if no worker stopped, it is not `Gate` either
  pub serial : halt ≡ no_halt → 4 ≤ rank run.outcome
  pub gate : run.outcome ≡ outcome.Gate → halt.gate ≡ true
  -- names that it returns are those of the pair with the number in its outcome
  pub names : (told : Option MateNames) (lacked : Option MemoryRefused) →
      (is_unmatched run.outcome ≡ true → TellsNames held told lacked) →
      AreItsNames run.form c.encoding run.forward run.reverse run.outcome told lacked
  pub every : EveryEnding c run
  pub whole : IsTrue (ends_whole run.outcome) → AreTold run → IsTrimmed c run

-- what holds of names that a source has holds of those that were returned
told_names : (held told : Option MateNames) (lacked : Option MemoryRefused)
    (P : MateNames → Type 0) → TellsNames held told lacked → IsSomeAnd held P →
    MatchOption told (IsSome lacked) P
told_names held told lacked P tells is = grind (arith, common_steps)

-- the beginning of a beginning
first_of : (ms ns all : List Mates) → AreFirst (ms ++ ns) all → AreFirst ms all
first_of ms ns all p = (ns ++ p.0, p.1 ∙ append_assoc ms ns p.0)

-- plain trimming ends at the end of the input, or at a fault in it
kept_at : (fault : Option InputFault) (t : Option Tally) → tally_at (trimmed_outcome fault) t ≡ t
kept_at None t = refl
kept_at (Some fault) t = refl

module _ (form : Form) (c : Choices) (f r : FeedState) (new : SourceState)
    (before after : OutletStates) (counted : Total) (halt : Halt) (why : Option ReadingEnd)
    (failed : Option Out) (o : Outcome)
    (p : Closes c (fresh_source form c f r) new before after counted halt why failed)
    (v : Verdict halt why failed o) (sound : f.failures ≡ 0) (sound' : r.failures ≡ 0) where
  -- the run
  abbrev pub run : Run
  run = run_with form f r before (Some (feed_in new.forward)) (Some (feed_in new.reverse)) after o
      (ended o counted)

  -- all pairs that were read
  abbrev all_read : List Mates
  all_read = (p.whole ++ block_begun p.fate) ++ p.missed

  failures_are : (side : Side) → failures_in (feed_left side run) ≡ failed_by form side why
  failures_are Forward = grind (arith, common_steps)
  failures_are Reverse = grind (arith, common_steps)

  forward_gave : IsTrue f.tells → gave f (feed_in new.forward) ≡ fed (fresh_side c f) new.forward
  forward_gave told = grind (arith, common_steps)

  reverse_gave : IsTrue r.tells → gave r (feed_in new.reverse) ≡ fed (fresh_side c r) new.reverse
  reverse_gave told = grind (arith, common_steps)

  reads_at : (s : ReadingEnd) → why ≡ Some s → Reads (fresh_source form c f r) new all_read (Some s)
  reads_at s is = grind (arith, common_steps)

  -- at least `max_reads` bytes were given if one read call more would have been too many
  endless_bytes : (side : Side) → why ≡ Some (reading.Fault (Text side text.Endless)) →
      IsTrue (feed_of side run).tells → c.max_reads ≤ length
      (gave_to (feed_of side run) (feed_left side run))
  endless_bytes Forward is told = grind (arith, common_steps)
  endless_bytes Reverse is told = grind (arith, common_steps)

  -- at least the pairs in the complete lines that came
  cut_whole : AreTold run → (fault : InputFault) → why ≡ Some (reading.Fault fault) →
      is_cut_short fault ≡ true → all_read ≡ p.whole → length (pairs_given c run) ≤ length p.whole
  cut_whole told fault is short whole =
      let most = reads_cut c f r form new all_read fault (reads_at (reading.Fault fault) is) short
      told.forward told.reverse in
      rw (forward_gave told.forward, reverse_gave told.reverse, ← whole) most

  sound_fate : failed ≡ None → p.fate ≡ Unbroken
  sound_fate none = unbroken p.fate (sym none ∙ p.failed)

  whole_is : halt ≡ no_halt → (fate : Fate) → p.fate ≡ fate → block_begun fate ≡ [] →
      all_read ≡ p.whole
  whole_is going fate is none = grind (arith, common_steps)

  -- in an interleaved text the read call was made for the next record
  next_side : form ≡ InterleavedText → AreTold run → (side : Side) (fault : TextFault) →
      why ≡ Some (reading.Fault (Text side fault)) → is_cut fault ≡ true →
      ((P : Side → Type 0) → if_cut P (Text side fault) → P side) → IsNext c run side
  next_side one told side fault is cut of_side =
      let R : Form → Type 0 = λ x. Reads (fresh_source x c f r) new all_read
      (Some (reading.Fault (Text side fault))) in
      rw (forward_gave told.forward) (reads_next c f r new all_read side fault
      (subst R one (reads_at (reading.Fault (Text side fault)) is)) cut of_side told.forward
      told.reverse)

  -- a feed was cut off
  cut_off : (side : Side) → IsCutOff c (feed_of side run) (feed_left side run) →
      IsCutOff c run.forward run.forward_left ⊎ IsCutOff c run.reverse run.reverse_left
  cut_off Forward is = inl is
  cut_off Reverse is = inr is

  told_of : AreTold run → (side : Side) → IsTrue (feed_of side run).tells
  told_of told Forward = told.forward
  told_of told Reverse = told.reverse

  failed_once_at : (side : Side) → why ≡ Some (reading.Fault (Text side text.Read)) →
      failures_in (feed_left side run) ≡ 1
  failed_once_at side is = failures_are side ∙ ap (failed_by form side) is ∙ read_once form side

  -- what was written if a flush failed
  came : AreTold run → (w : Option ReadingEnd) → why ≡ w → (why ≡ None → ⊥) →
      lacks_memory w ≡ false → all_read ≡ p.whole → IsAllThatCame c run p.whole
  came told None is stopped enough whole = absurd (stopped is)
  came told (Some (reading.Memory refused)) is stopped enough whole = absurd cc
  came told (Some (reading.Fault (Text side text.OutOfMemory))) is stopped enough whole = absurd cc
  came told (Some reading.End) is stopped enough whole =
      inl (sym whole
      ∙ sym (ap (λ (q : Pairs). q.mates)
      (reads_end form c f r new all_read (reads_at reading.End is) told.forward told.reverse)))
  came told (Some (reading.Fault (Text side text.Read))) is stopped enough whole = inr (
    cut_off side (inl (let e = failed_once_at side is in omega arith)),
    cut_whole told (Text side text.Read) is refl whole,
  )
  came told (Some (reading.Fault (Text side text.Endless))) is stopped enough whole = inr (
    cut_off side (inr (endless_bytes side is (told_of told side))),
    cut_whole told (Text side text.Endless) is refl whole,
  )
  came told (Some (reading.Fault fault)) is stopped enough whole =
      inl (sym whole
      ∙ sym (ap (λ (q : Pairs). q.mates)
      (reads_fault form c f r new all_read fault (reads_at (reading.Fault fault) is) refl
      told.forward told.reverse)))

  -- what occurred if this is the outcome
  at : (x : Outcome) → o ≡ x → Verdict halt why failed x
  at x is = subst (Verdict halt why failed) is v

  justified : IsJustified c run p.whole p.fate
  justified = record {
    spawn = λ is. absurd (at outcome.Spawn is);
    write = λ out is. let q = at (outcome.Write out) is in sym p.failed ∙ q.0;
    read = λ side is. let q = at (outcome.Read side) is in failed_once_at side q.0;
    endless = λ side is told. let q = at (outcome.Endless side) is in endless_bytes side q.0 told;
    outlet_failed = λ out is. outlet_first halt why failed o v out (p.failed ∙ is);
    feed_failed = λ side some. let e = failures_are side in
        feed_first halt why failed form o v side (omega arith);
    cut_at_read = λ told side is. let q = at (outcome.Read side) is in
        cut_whole told (Text side text.Read) q.0 refl (whole_is q.2 Unbroken (sound_fate q.1) refl);
    cut_at_endless = λ told side is. let q = at (outcome.Endless side) is in
        cut_whole told (Text side text.Endless) q.0 refl
        (whole_is q.2 Unbroken (sound_fate q.1) refl);
    next_at_read = λ one told side is. let q = at (outcome.Read side) is in
        next_side one told side text.Read q.0 refl (λ P holds. holds);
    next_at_endless = λ one told side is. let q = at (outcome.Endless side) is in
        next_side one told side text.Endless q.0 refl (λ P holds. holds);
    flushed = λ told out fate is. let q = at (outcome.Write out) is in
        came told why refl (p.stopped (ap is_flush fate)) q.2
        (whole_is q.1 (FlushFailed out) fate refl);
  }

  -- the tally is that of the pairs that were written, if the run ended whole
  tally_is : (x : Outcome) → Verdict halt why failed x →
      tally_at x counted.tally ≡ tally_if (c.tallied && ends_whole x) c.steps p.whole
  tally_is (outcome.Input fault) w = rw and-true (p.counts.tally w.2 w.1 (ap refused_in w.0))
  tally_is outcome.Finished w = rw and-true (p.counts.tally w.2 w.1 (ap refused_in w.0))
  tally_is _ w = rw and-false refl

  -- what holds at every ending
  every_is : EveryEnding c run
  every_is = record {
    whole = p.whole;
    fate = p.fate;
    counts = p.counts.counts;
    tally = tally_is o v;
    took = p.took;
    flushed = λ none started. p.flushed (p.failed ∙ none);
    cut_short = p.cut_short;
    first = λ told. first_of (p.whole ++ block_begun p.fate) p.missed _
        (reads_first form c f r new all_read why p.reads told.forward told.reverse);
    forward = let d = reads_forward form c f r new all_read why p.reads in
        (failed_by form Forward why, failed_once form Forward why, fed_back c f new.forward _ d);
    reverse = let d = reads_reverse form c f r new all_read why p.reads in
        (failed_by form Reverse why, failed_once form Reverse why, fed_back c r new.reverse _ d);
    outcome = justified;
  }

  -- if all pairs were read and no outlet failed
  trimmed_all : AreTold run → failed ≡ None → halt ≡ no_halt → refused_in why ≡ None →
      (fault : Option InputFault) → all_pairs c run ≡ record { mates = all_read; fault = fault } →
      o ≡ trimmed_outcome fault → IsTrimmed c run
  trimmed_all told none going enough fault all is =
      let sound_is = sound_fate none in
      let same : p.whole ≡ (all_pairs c run).mates =
      sym (whole_is going Unbroken sound_is refl) ∙ sym (ap (λ (q : Pairs). q.mates) all) in
      let P : Fate → Type 0 = λ x. OutletsTook before after
      (λ out. text_of out (texts_of c.steps p.whole) ++ part_begun c.steps x out)
      (failed_outlet x) in
      record {
        took = all_took_same before after (λ out. text_of out (texts_of c.steps p.whole) ++ []) _
            None
            (λ out. append-nil (text_of out (texts_of c.steps p.whole))
            ∙ ap (λ ms. text_of out (texts_of c.steps ms)) same) (subst P sound_is p.took);
        flushed = p.flushed none;
        counts = p.counts.counts ∙ ap (counts_of c.steps) same;
        tally = ap (λ x. tally_at x counted.tally) is ∙ kept_at fault counted.tally
            ∙ p.counts.tally going none enough ∙ ap (tally_if c.tallied c.steps) same;
        outcome = is ∙ ap trimmed_outcome (sym (ap (λ (q : Pairs). q.fault) all));
      }

  -- a run that ends at the end of the input, or at a fault in it, has trimmed all pairs
  trimmed_by : (x : Outcome) → o ≡ x → Verdict halt why failed x → IsTrue (ends_whole x) →
      AreTold run → IsTrimmed c run
  trimmed_by (outcome.Input fault) is w ends told =
      trimmed_all told w.1 w.2 (ap refused_in w.0) (Some fault)
      (reads_fault form c f r new all_read fault (reads_at (reading.Fault fault) w.0) w.3
      told.forward told.reverse) is
  trimmed_by outcome.Finished is w ends told = trimmed_all told w.1 w.2 (ap refused_in w.0) None
      (reads_end form c f r new all_read (reads_at reading.End w.0) told.forward told.reverse) is
  trimmed_by _ is w ends told = absurd cc

  names_are : (told : Option MateNames) (lacked : Option MemoryRefused) →
      (is_unmatched o ≡ true → TellsNames new.names told lacked) → (x : Outcome) → o ≡ x →
      AreItsNames form c.encoding f r x told lacked
  names_are told lacked tells (Input (NamesDiffer k)) is =
      let w = at (Input (NamesDiffer k)) is in
      told_names new.names told lacked _ (tells (ap is_unmatched is))
      (reads_names form c f r new all_read k (reads_at (reading.Fault (NamesDiffer k)) w.0))
  names_are told lacked tells _ is = tt

  -- what the run guarantees, from what it read and wrote
  pub keeps : Keeps c run halt new.names
  keeps = record {
    started = least halt why failed o v;
    serial = λ sound. is_serial halt why failed o sound v;
    gate = at outcome.Gate;
    names = λ told lacked tells. names_are told lacked tells o refl;
    every = every_is;
    whole = trimmed_by o refl v;
  }

-- names are told if memory for them wasn't refused
pub tells_names : {E : Type 0} (names : Result (Option MateNames) E) (held told : Option MateNames)
    (lacked : Option MemoryRefused) → IfOk names (λ x. x ≡ held) →
    MatchResult names (λ x. told ≡ x) (λ e. (told ≡ None) × IsSome lacked) →
    TellsNames held told lacked
tells_names names held told lacked is tells = grind (arith, common_steps)

module _ (form : Form) (c : Choices) (f r f' r' : FeedState) (before mid : OutletStates)
    (counted : Total) (halt : Halt) (why : Option ReadingEnd) (broken : Option Out)
    {E : Type 0} {names : Result (Option MateNames) E}
    (p : Runs form c f r f' r' before mid counted halt why broken names) where
  -- outlets that did not fail have no failures yet
  pub runs_healthy : AreHealthy before → broken ≡ None → AreHealthy mid
  runs_healthy h none =
      let q = p.passes in
      let P : Option Out → Type 0 = λ b. OutletsTook before mid
      (λ out. text_of out (texts_of c.steps q.whole) ++ part_begun c.steps q.fate out) b in
      still_healthy before mid _ h (subst P (sym q.failed ∙ none) q.took)

  -- what a run guarantees once its outlets are flushed
  pub run_keeps : (after : OutletStates) (failed : Option Out) (o : Outcome) →
      FlushesAfter broken mid after failed → o ≡ outcome_of (occurred halt why failed) →
      f.failures ≡ 0 → r.failures ≡ 0 → (total : Total) → total ≡ ended o counted →
      Keeps c (run_with form f r before (Some f') (Some r') after o total) halt p.new.names
  run_keeps after failed o q is sound sound' total at_end =
      let d = closes c (fresh_source form c f r) p.new before mid after counted halt why broken
      failed p.passes q in
      rw (at_end, p.forward, p.reverse) (keeps form c f r p.new before after counted halt why
      failed o d (rw is (verdict halt why failed d.over)) sound sound')
