-- The next reply in turn is written, is a stop, or does not come.
use Rattle.std.proofs.Common.{◌<◌, refl, ap, ◌∙◌, arith, Some, length, ◌≡◌, ℕ, suc, Bool, None, List, [], ◌∷◌, ◌++◌, sym, ◌%◌, is_some, map, subst}
use Rattle.std.proofs.lemmas.Grind.{common_steps}
use Rattle.fq_lane.specs.Take.{taken_of}
use Rattle.fq_run.proofs.collector.CollectLemmas.{hears_take, at_turn}
use Rattle.fq_run.proofs.lanes.LaneLemmas.{taken_at, takes_names, TakesAt, dealt_item, at_mark_closed, takes_length}
use Rattle.fq_run.proofs.collector.Collector.write_next.Goals as goal
use Rattle.fq_lane.specs.History.{History}
use Rattle.fq_lane.specs.declared.taken.Taken.TheVariants.{Item, Closed}
use Rattle.fq_work.specs.declared.reply.Cause.{Cause}
use Rattle.fq_work.specs.declared.reply.Cause.TheVariants.{Gate, Memory}
use Rattle.fq_work.specs.declared.reply.Cause.TheVariants as cause
use Rattle.fq_work.specs.declared.reply.Reply.TheVariants.{Done as done, Stop}
use Rattle.fq_run.specs.lanes.Items.{IsDealt, IsBegun}
use Rattle.fq_run.specs.collector.Stops.{with_stop}
use Rattle.fq_run_core.specs.declared.halt.Halt.{Halt}
use Rattle.std.proofs.lemmas.Nat.{mod_below}
use Rattle.std.proofs.lemmas.List.{append-nil, length-map, map-append}
use Rattle.fq_pair.specs.declared.out.Out.{Out}
use Rattle.fq_run_core.specs.declared.total.Total.{Total}
use Rattle.fq_run_core.specs.Totals.{no_total, total_plus}
use Rattle.fq_pair.specs.Outputs.{text_of}
use Rattle.fq_report_pairs.specs.declared.done.Done.{Done}
use Rattle.fq_run_core.specs.Devices.{OutletStates, OutletsTook, part_at}
use Rattle.fq_run_core.specs.Sending.{BreaksAt}
use Rattle.fq_run.specs.collector.Collecting.{written_text, counted_from, counted, IsHeard, HasStopped, HasBroken, Writes, Collects}
use Rattle.fq_run.specs.declared.collector.Collector.{Collector}
use Rattle.fq_run.specs.declared.collector.phase.Phase.TheVariants.{Writing, AtMark, Stopped, WriteFailed}
use Rattle.fq_run.proofs.DealLemmas.{turn_more}
use Rattle.fq_run_core.proofs.OutletLemmas.{all_took_then, all_took_same}

-- the text of one more reply comes after the text of those before
written_more : (out : Out) (ds : List Done) (d : Done) →
    written_text out (ds ++ d ∷ []) ≡ written_text out ds ++ text_of out d.texts
written_more out [] d = append-nil (text_of out d.texts)
written_more out (e ∷ ds) d = grind (arith, common_steps, written_more out ds d)

counted_from_more : (total : Total) (ds : List Done) (d : Done) →
    counted_from total (ds ++ d ∷ []) ≡ total_plus (counted_from total ds) d
counted_from_more total [] d = refl
counted_from_more total (e ∷ ds) d = counted_from_more (total_plus total e) ds d

-- what one more reply counts is added to the total of those before
counted_more : (tallied : Bool) (ds : List Done) (d : Done) →
    counted tallied (ds ++ d ∷ []) ≡ total_plus (counted tallied ds) d
counted_more tallied ds d = counted_from_more (no_total tallied) ds d

-- Stops.

is_heard : (why : Cause) (k : Collector) (halt : Halt) → k.halt ≡ with_stop why halt → IsHeard why k
is_heard cause.Gate k halt e = ap (λ (h : Halt). h.gate) e
is_heard (cause.Memory refused) k halt e = ap (λ (h : Halt). is_some h.memory) e

-- what is dealt out is begun
begun_now : {T : Type 0} (w : ℕ) (xs : List T) (ls : List (History T)) → IsDealt w xs ls →
    IsBegun w xs ls
begun_now w xs ls h = grind (arith, common_steps)

module _ (tallied : Bool) (w : ℕ) (before old now : OutletStates) (k l : Collector) where
  -- the reply in turn was written, and it is the next lane's turn
  collects_written : (d : Done) → Collects tallied w before old k → k.phase ≡ Writing →
      l.phase ≡ Writing → TakesAt (Item (done d)) k.replies.items l.replies.items k.turn →
      OutletsTook old now (λ out. text_of out d.texts) None → l.total ≡ total_plus k.total d →
      l.turn ≡ suc k.turn % w → Collects tallied w before now l
  collects_written d h at_k at_l t took total turn =
      let ds = h.written in
      let k_writes = at_turn tallied w before old k h at_k in
      let pos : 0 < w = omega (arith, h.turn) in
      let more : map done (ds ++ d ∷ []) ≡ map done ds ++ done d ∷ [] =
      map-append done ds (d ∷ []) in
      let longer : length (map done ds ++ done d ∷ []) ≡ length (ds ++ d ∷ []) =
      ap length (sym more) ∙ length-map (ds ++ d ∷ []) done in
      record {
        lanes = takes_length (Item (done d)) _ _ _ t ∙ h.lanes;
        turn = rw turn (mod_below (suc k.turn) w pos);
        written = ds ++ d ∷ [];
        total = total ∙ ap (λ (t : Total). total_plus t d) h.total
            ∙ sym (counted_more tallied ds d);
        writes = rw at_l (
          turn_more (map done ds) (done d) k.turn l.turn w k_writes.0 turn ∙ ap (λ n. n % w) longer,
          rw more (dealt_item w (map done ds) (done d) k.replies.items l.replies.items k.turn
              k_writes.1 t h.turn k_writes.0),
          all_took_same before now _ _ None (λ out. sym (written_more out ds d))
              (all_took_then before old now (λ out. written_text out ds)
              (λ out. text_of out d.texts) None k_writes.2 took),
        );
      }

  -- a write of the reply in turn failed
  collects_broken : (d : Done) (failed : Out) → Collects tallied w before old k →
      k.phase ≡ Writing → l.phase ≡ WriteFailed failed →
      TakesAt (Item (done d)) k.replies.items l.replies.items k.turn →
      BreaksAt old now d.texts failed → l.total ≡ k.total → l.turn ≡ k.turn →
      Collects tallied w before now l
  collects_broken d failed h at_k at_l t breaks total turn =
      let ds = h.written in
      let k_writes = at_turn tallied w before old k h at_k in
      let more : map done (ds ++ d ∷ []) ≡ map done ds ++ done d ∷ [] =
      map-append done ds (d ∷ []) in
      let dealt = dealt_item w (map done ds) (done d) k.replies.items l.replies.items k.turn
      k_writes.1 t h.turn k_writes.0 in
      let broken : HasBroken failed w before now ds l = record {
        next = d;
        sent = breaks.sent;
        short = breaks.short;
        begun = rw more (begun_now w _ _ dealt);
        took = all_took_then before old now (λ out. written_text out ds)
            (λ out. part_at failed breaks.sent out (text_of out d.texts)) (Some failed) k_writes.2
            breaks.took;
      } in
      record {
        lanes = takes_length (Item (done d)) _ _ _ t ∙ h.lanes;
        turn = rw turn h.turn;
        written = ds;
        total = total ∙ h.total;
        writes = subst (λ p. Writes p w before now ds l) (sym at_l) broken;
      }

module _ (tallied : Bool) (w : ℕ) (before now : OutletStates) (k l : Collector) where
  -- the lane whose turn it is has closed
  collects_at_mark : Collects tallied w before now k → k.phase ≡ Writing → l.phase ≡ AtMark →
      TakesAt Closed k.replies.items l.replies.items k.turn →
      l.total ≡ k.total → l.turn ≡ k.turn → Collects tallied w before now l
  collects_at_mark h at_k at_l t total turn =
      let ds = h.written in
      let k_writes = at_turn tallied w before now k h at_k in
      record {
        lanes = takes_length Closed _ _ _ t ∙ h.lanes;
        turn = rw turn h.turn;
        written = ds;
        total = total ∙ h.total;
        writes = rw at_l (
          at_mark_closed w (map done ds) k.replies.items l.replies.items k.turn k_writes.1 t
              h.turn k_writes.0,
          k_writes.2,
        );
      }

  -- the reply in turn is a stop
  collects_stopped : (why : Cause) → Collects tallied w before now k → k.phase ≡ Writing →
      l.phase ≡ Stopped → TakesAt (Item (Stop why)) k.replies.items l.replies.items k.turn →
      l.halt ≡ with_stop why k.halt → l.total ≡ k.total → l.turn ≡ k.turn →
      Collects tallied w before now l
  collects_stopped why h at_k at_l t halt total turn =
      let ds = h.written in
      let k_writes = at_turn tallied w before now k h at_k in
      let stopped : HasStopped w before now ds l = record {
        why = why;
        begun = begun_now w _ _ (dealt_item w (map done ds) (Stop why) k.replies.items
            l.replies.items k.turn k_writes.1 t h.turn k_writes.0);
        heard = is_heard why l k.halt halt;
        took = k_writes.2;
      } in
      record {
        lanes = takes_length (Item (Stop why)) _ _ _ t ∙ h.lanes;
        turn = rw turn h.turn;
        written = ds;
        total = total ∙ h.total;
        writes = subst (λ p. Writes p w before now ds l) (sym at_l) stopped;
      }

-- if a write of the reply fails, the phase says in which outlet
pub returns-in-Err : goal.returns-in-Err
returns-in-Err g c =
    let k = c.args.self.now in
    let lt : k.turn < length k.replies.items = omega (arith, k.replies.ok.0) in
    let t = taken_at _ _ _ _ k.turn _ _ _ (ap taken_of (c.in-Some-Done.is
    ∙ ap Some c.in-Some-Done.field-0-is)) lt c.index_mut-ends.ensures.value
    c.next_reply.ensures.takes refl in
    record {
      collects = λ tallied before h. collects_broken tallied _ before _ _ k _ c.in-Some-Done.done
          c.in-Err.out h c.requires.writing refl t c.in-Err.ensures refl refl;
      names = takes_names _ _ _ _ t;
      hears = hears_take _ _ _ _ _ k.turn lt t refl;
      next = grind (arith, common_steps);
    }

-- a reply that was written is one more, and it is the next lane's turn
pub returns-in_default : goal.returns-in_default
returns-in_default g c =
    let k = c.args.self.now in
    let lt : k.turn < length k.replies.items = omega (arith, k.replies.ok.0) in
    let t = taken_at _ _ _ _ k.turn _ _ c.ends.inside.replies (ap taken_of (c.in-Some-Done.is
    ∙ ap Some c.in-Some-Done.field-0-is)) lt c.index_mut-ends.ensures.value
    (rw c.ends.view_is c.next_reply.ensures.takes) refl in
    record {
      collects = λ tallied before h. collects_written tallied _ before _ _ k _ c.in-Some-Done.done h
          c.requires.writing c.requires.writing t c.in_default.ensures
          c.add.ensures (cc (c.next_turn-self.ensures.value, c.len-lanes.ensures));
      names = takes_names _ _ _ _ t;
      hears = hears_take _ _ _ _ _ k.turn lt t refl;
      next = grind (arith, common_steps);
    }

-- a lane that has closed in its turn ends the writing
pub returns-in-None : goal.returns-in-None
returns-in-None g c =
    let k = c.args.self.now in
    let lt : k.turn < length k.replies.items = omega (arith, k.replies.ok.0) in
    let t = taken_at _ _ _ _ k.turn _ _ _ (ap taken_of c.in-None.is) lt
    c.index_mut-ends.ensures.value c.next_reply.ensures.takes refl in
    record {
      collects = λ tallied before h. collects_at_mark tallied _ before _ k _ h c.requires.writing
          refl t refl refl;
      names = takes_names _ _ _ _ t;
      hears = hears_take _ _ _ _ _ k.turn lt t refl;
      next = grind (arith, common_steps);
    }

-- a stop in its turn is noted, and ends the writing
pub returns-in-Some-Stop : goal.returns-in-Some-Stop
returns-in-Some-Stop g c =
    let k = c.args.self.now in
    let lt : k.turn < length k.replies.items = omega (arith, k.replies.ok.0) in
    let t = taken_at _ _ _ _ k.turn _ _ _ (ap taken_of (c.in-Some-Stop.is
    ∙ ap Some c.in-Some-Stop.field-0-is)) lt c.index_mut-ends.ensures.value
    c.next_reply.ensures.takes refl in
    record {
      collects = λ tallied before h. collects_stopped tallied _ before _ k _ c.in-Some-Stop.cause h
          c.requires.writing refl t c.add_stop-self.ensures refl refl;
      names = takes_names _ _ _ _ t;
      hears = hears_take _ _ _ _ _ k.turn lt t c.add_stop-self.ensures;
      next = grind (arith, common_steps);
    }
