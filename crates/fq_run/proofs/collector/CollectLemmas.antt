-- How a collector changes when it takes a reply.
use Rattle.std.proofs.Common.{◌≡◌, ℕ, zero, suc, ◌<◌, Bool, false, ◌||◌, None, List, [], ◌∷◌, ◌++◌, length, get_or, refl, sym, ap, ◌∙◌, arith, ◌%◌, is_some, map, subst}
use Rattle.std.proofs.Math.Bool.{or-false, or-true}
use Rattle.std.proofs.Math.ListN.{set}
use Rattle.std.specs.List.{list_any}
use Rattle.std.proofs.lemmas.Grind.{common_steps}
use Rattle.fq_lane.specs.History.{History}
use Rattle.fq_lane.specs.declared.taken.Taken.{Taken}
use Rattle.fq_lane.specs.declared.taken.Taken.TheVariants.{Item, Empty, Closed}
use Rattle.fq_work.specs.declared.reply.Cause.{Cause}
use Rattle.fq_work.specs.declared.reply.Cause.TheVariants.{Gate, Memory}
use Rattle.fq_work.specs.declared.reply.Cause.TheVariants as cause
use Rattle.fq_work.specs.declared.reply.Reply.{Reply}
use Rattle.fq_work.specs.declared.reply.Reply.TheVariants.{Done as done, Stop}
use Rattle.fq_run.specs.lanes.Items.{IsDealt}
use Rattle.fq_run.specs.collector.Stops.{witness, heard_at, is_stop, has_come, refused_if, stops_of, Drains}
use Rattle.fq_run_core.specs.declared.halt.Halt.{Halt}
use Rattle.fq_run.proofs.lanes.LaneLemmas.{TakesAt, at_mark_takes, begun_takes, takes_length, takes_names}
use Rattle.fq_report_pairs.specs.declared.done.Done.{Done}
use Rattle.fq_run_core.specs.Devices.{OutletStates, AreHealthy}
use Rattle.fq_run.specs.collector.Collecting.{TookAll, IsHeard, Writes, Collects}
use Rattle.fq_run.specs.declared.collector.Collector.{Collector}
use Rattle.fq_run.specs.declared.collector.phase.Phase.{Phase}
use Rattle.fq_run.specs.declared.collector.phase.Phase.TheVariants.{Writing, AtMark, Stopped, WriteFailed}
use Rattle.fq_run_core.proofs.OutletLemmas.{still_healthy}
use Rattle.fq_work.specs.declared.reply.Cause.TheVariants.{Gate, Memory}
use Rattle.fq_work.specs.declared.reply.Cause.TheVariants as cause

-- How the stops that came change when a lane changes.

-- one more reply in one lane
come_more : (why : Cause) (ls : List (History Reply)) (j : ℕ) (l : History Reply) (x : Reply) →
    j < length ls → l.items ≡ (get_or ls j l).items ++ x ∷ [] →
    has_come why (set ls j l) ≡ (has_come why ls || is_stop why x)
come_more why [] j l x lt e = absurd (omega arith)
come_more why (k ∷ ls) zero l x lt e = grind (arith, common_steps)
come_more why (k ∷ ls) (suc j) l x lt e = grind (arith, common_steps, come_more why ls j l x)

-- nothing more in one lane
come_same : (why : Cause) (ls : List (History Reply)) (j : ℕ) (l : History Reply) →
    l.items ≡ (get_or ls j l).items → has_come why (set ls j l) ≡ has_come why ls
come_same why [] j l e = refl
come_same why (k ∷ ls) zero l e = ap (λ is. list_any (is_stop why) is || has_come why ls) e
come_same why (k ∷ ls) (suc j) l e = grind (arith, common_steps, come_same why ls j l e)

same_halt : (a b c d : Bool) → a ≡ c → b ≡ d →
    (let x : Halt = record { gate = a; memory = refused_if b } in let y : Halt =
    record { gate = c; memory = refused_if d } in x ≡ y)
same_halt a b c d p q = ap (λ g. let x : Halt = record { gate = g; memory = refused_if b } in x) p
    ∙ ap (λ m. let x : Halt = record { gate = c; memory = refused_if m } in x) q

-- what has come, with a reply that was taken
come_taken : (x : Reply) (old new : List (History Reply)) (j : ℕ) → j < length old →
    TakesAt (Item x) old new j → (why : Cause) →
    has_come why new ≡ (has_come why old || is_stop why x)
come_taken x old new j lt t why = ap (has_come why) t.becomes
    ∙ come_more why old j t.history x lt (ap (λ (l : History Reply). l.items) t.takes.1)

-- a take adds its stop, if it got one, to those that came
pub stops_taken : (r : Taken Reply) (old new : List (History Reply)) (j : ℕ) → j < length old →
    TakesAt r old new j → stops_of new ≡ heard_at r (stops_of old)
stops_taken (Item (Stop Gate)) old new j lt t =
    let more = come_taken _ old new j lt t in
    same_halt _ _ _ _ (more Gate ∙ or-true (has_come Gate old)) (more (Memory witness)
    ∙ or-false (has_come (Memory witness) old))
stops_taken (Item (Stop (Memory refused))) old new j lt t =
    let more = come_taken _ old new j lt t in
    same_halt _ _ _ _ (more Gate ∙ or-false (has_come Gate old)) (more (Memory witness)
    ∙ or-true (has_come (Memory witness) old))
stops_taken (Item (done d)) old new j lt t =
    let more = come_taken _ old new j lt t in
    same_halt _ _ _ _ (more Gate ∙ or-false (has_come Gate old)) (more (Memory witness)
    ∙ or-false (has_come (Memory witness) old))
stops_taken Empty old new j lt t = grind (arith, common_steps)
stops_taken Closed old new j lt t =
    let same = λ (why : Cause). ap (has_come why) t.becomes
    ∙ come_same why old j t.history (ap (λ (l : History Reply). l.items) t.takes) in
    same_halt _ _ _ _ (same Gate) (same (Memory witness))

-- nothing came yet
none_come : (why : Cause) (ls : List (History Reply)) →
    ((j : ℕ) (d : History Reply) → j < length ls → (get_or ls j d).items ≡ []) →
    has_come why ls ≡ false
none_come why [] h = refl
none_come why (l ∷ ls) h = ap (λ is. list_any (is_stop why) is || has_come why ls)
    (h 0 l (omega arith)) ∙ none_come why ls (λ j d lt. h (suc j) d (omega arith))

-- no stop came through lanes that have carried nothing
pub no_stops : (ls : List (History Reply)) → IsDealt (length ls) [] ls →
    stops_of ls ≡ record { gate = false; memory = None }
no_stops ls h = same_halt _ _ _ _ (none_come Gate ls (λ j d lt. h.items j d lt))
    (none_come (Memory witness) ls (λ j d lt. h.items j d lt))

-- One more reply.

still_heard : (why : Cause) (r : Taken Reply) (k l : Collector) → l.halt ≡ heard_at r k.halt →
    IsHeard why k → IsHeard why l
still_heard cause.Gate (Item (Stop cause.Gate)) k l e h = ap (λ (h : Halt). h.gate) e
still_heard (cause.Memory refused) (Item (Stop (cause.Memory other))) k l e h =
    ap (λ (h : Halt). is_some h.memory) e
still_heard cause.Gate _ k l e h = ap (λ (h : Halt). h.gate) e ∙ h
still_heard (cause.Memory refused) _ k l e h = ap (λ (h : Halt). is_some h.memory) e ∙ h

-- a take that notes its stop, if it got one, keeps noted exactly the stops that came
pub hears_take : (r : Taken Reply) (old new : List (History Reply)) (before after : Halt) (j : ℕ) →
    j < length old → TakesAt r old new j → after ≡ heard_at r before → before ≡ stops_of old →
    after ≡ stops_of new
hears_take r old new before after j lt t e h = e ∙ ap (heard_at r) h
    ∙ sym (stops_taken r old new j lt t)

-- While the collector writes.

-- whose turn it is, what came and what was written
pub at_turn : (tallied : Bool) (w : ℕ) (before now : OutletStates) (k : Collector)
    (h : Collects tallied w before now k) → k.phase ≡ Writing →
    (k.turn ≡ length (map done h.written) % w) × IsDealt w (map done h.written) k.replies.items
    × TookAll before now h.written
at_turn tallied w before now k h at_k = grind (arith, common_steps)

-- outlets that took whole texts have not failed
pub still_writes : (tallied : Bool) (w : ℕ) (before now : OutletStates) (k : Collector) →
    AreHealthy before → Collects tallied w before now k → k.phase ≡ Writing → AreHealthy now
still_writes tallied w before now k sound h at_k =
    still_healthy before now _ sound (at_turn tallied w before now k h at_k).2

-- Once nothing more is written.

passes : (w : ℕ) (p : Phase) (r : Taken Reply) (before now : OutletStates) (ds : List Done)
    (k l : Collector) (j : ℕ) → (p ≡ Writing → ⊥) → j < w → Writes p w before now ds k →
    TakesAt r k.replies.items l.replies.items j → l.halt ≡ heard_at r k.halt →
    Writes p w before now ds l
passes w Writing r before now ds k l j over lt h t halt = absurd (over refl)
passes w AtMark r before now ds k l j over lt h t halt =
    (at_mark_takes w r (map done ds) k.replies.items l.replies.items j h.0 t lt, h.1)
passes w Stopped r before now ds k l j over lt h t halt = record {
  why = h.why;
  begun = begun_takes w r _ k.replies.items l.replies.items j h.begun t lt;
  heard = still_heard h.why r k l halt h.heard;
  took = h.took;
}
passes w (WriteFailed failed) r before now ds k l j over lt h t halt = record {
  next = h.next;
  sent = h.sent;
  short = h.short;
  begun = begun_takes w r _ k.replies.items l.replies.items j h.begun t lt;
  took = h.took;
}

collects_takes : (tallied : Bool) (w : ℕ) (r : Taken Reply) (before now : OutletStates)
    (k l : Collector) (j : ℕ) → Collects tallied w before now k → (k.phase ≡ Writing → ⊥) →
    l.phase ≡ k.phase → j < length k.replies.items →
    TakesAt r k.replies.items l.replies.items j → l.halt ≡ heard_at r k.halt → l.total ≡ k.total →
    l.turn ≡ k.turn → Collects tallied w before now l
collects_takes tallied w r before now k l j h over at_l lt t halt total turn = record {
  lanes = takes_length r _ _ _ t ∙ h.lanes;
  turn = rw turn h.turn;
  written = h.written;
  total = total ∙ h.total;
  writes = subst (λ p. Writes p w before now h.written l) (sym at_l)
      (passes w k.phase r before now h.written k l j over (omega (arith, h.lanes)) h.writes t halt);
}

-- a take after the last write changes nothing of what was written
pub drains_take : (r : Taken Reply) (k l : Collector) (j : ℕ) → (k.phase ≡ Writing → ⊥) →
    l.phase ≡ k.phase → j < length k.replies.items → TakesAt r k.replies.items l.replies.items j →
    l.halt ≡ heard_at r k.halt → l.total ≡ k.total → l.turn ≡ k.turn → Drains k l
drains_take r k l j over at_l lt t halt total turn = record {
  phase = at_l;
  names = takes_names r _ _ _ t;
  collects = λ tallied w before now h. collects_takes tallied w r before now k l j h over at_l lt t
      halt total turn;
  hears = hears_take r _ _ _ _ j lt t halt;
}
