-- What a run promises about failures.
use Rattle.std.proofs.Common.{◌≡◌, ◌≢◌, ◌++◌, ℕ, zero, suc, ◌+◌, ◌-◌, ◌*◌, ◌<◌, ◌≤◌, Bool, true, IsTrue, Option, Some, None, is_some, IfSome, Ok, List, [], ◌∷◌, length, option_map, refl, sym, subst, ◌∙◌, arith}
use Rattle.std.specs.Prelude.{take_while}
use Rattle.std.proofs.lemmas.List.{length-take}
use Rattle.fq_files.specs.States.{FilesState, KeepsFailed}
use Rattle.fq_text.specs.declared.encoding.Encoding.{Encoding}
use Rattle.fq_text.specs.Devices.{FeedState, OutletState}
use Rattle.fq_text.specs.Grammar as grammar
use Rattle.fq_text.specs.Records.{Records, records}
use Rattle.fq_text.specs.Sources.{numbered}
use Rattle.fq_pair.specs.declared.out.Out.{Out}
use Rattle.fq_pair.specs.declared.out.Out.TheVariants.{ForwardPaired, ForwardUnpaired, ReversePaired, ReverseUnpaired, Log}
use Rattle.fq_pair.specs.declared.side.Side.{Side}
use Rattle.fq_pair.specs.declared.side.Side.TheVariants.{Forward, Reverse}
use Rattle.fq_pair.specs.declared.fault.InputFault.{InputFault}
use Rattle.fq_pair.specs.Pairing.{mates_of, belong, fault_following, text_fault, mate_fault, first_fault, behind, fault_at}
use Rattle.fq_pair.specs.Interleaved.{interleaved_mates, interleaved_fault_at}
use Rattle.fq_pair.specs.Forms.{Form, TwoTexts, InterleavedText, pairs_in}
use Rattle.fq_run_core.specs.Choices.{Choices}
use Rattle.fq_run_core.specs.declared.outcome.Outcome.{Outcome}
use Rattle.fq_run_core.specs.declared.outcome.Outcome.TheVariants.{Spawn, Lane, Gate, Memory, Write, Read, Endless, Input, Finished}
use Rattle.fq_run_core.specs.Outcomes.{rank, end_of}
use Rattle.fq_run_core.specs.Devices.{OutletStates, OutletsTook, Took, AreHealthy, AreFlushed, outlet_at, place, failures_at}
use Rattle.fq_run_core.specs.Endings.{Run, EveryEnding, IsTrimmed, all_pairs, ends_whole, trimmed_outcome, feed_of, feed_left, gave_to, failures_in}
use Rattle.fq_run_core.specs.Fates.{failed_outlet, part_begun}
use Rattle.fq_pair.specs.Outputs.{texts_of, text_of}
use Rattle.fq_app_words.specs.Requests.{Asking, input_name, output_name}
use Rattle.fq_app_files.specs.Faults.{settled}
use Rattle.fq_app_files.specs.Judging.{settings_of}
use Rattle.fq_app_files.specs.Trimming.{Opened, AreFed}
use Rattle.fq_app_files.specs.Completing.{HasFailed, AreFeedsCounted}
use Rattle.fq_app_files.specs.Making.{AreCounted}

-- ---- outlets that failed

self_fails : (out : Out) → 0 < failures_at (Some out) out
self_fails ForwardPaired = omega arith
self_fails ForwardUnpaired = omega arith
self_fails ReversePaired = omega arith
self_fails ReverseUnpaired = omega arith
self_fails Log = omega arith

-- an outlet that failed exists now and existed before the run
pub record HadFailed (old new : Option OutletState) : Type 0 where
  pub outlet : OutletState
  -- an outlet was there before
  pub was : is_some old ≡ true
  -- this outlet is there now
  pub is : new ≡ Some outlet
  -- it has failed
  pub some : 0 < outlet.failures

took_failed : (old new : Option OutletState) (text : List ℕ) (failed : ℕ) →
    Took old new text failed → 0 < failed → HadFailed old new
took_failed (Some old) (Some new) text failed took some =
    record {
      outlet = new;
      was = refl;
      is = refl;
      some =
          let f : new.failures ≡ old.failures + failed = took.failures in omega (arith, f, some);
    }
took_failed None None text failed took some = let f : failed ≡ 0 = took in
    absurd (omega (arith, f, some))
took_failed None (Some new) text failed took some = absurd took
took_failed (Some old) None text failed took some = absurd took

-- if a run reports a failed write of an output, the outlet of that output has failed
pub write_failed : (c : Choices) (run : Run) → EveryEnding c run → (out : Out) →
    run.outcome ≡ Write out → HadFailed (outlet_at out run.outlets) (outlet_at out run.outlets_left)
write_failed c run every out is =
    let P : Option Out → Type 0 = λ failed. 0 < failures_at failed out in
    took_failed (outlet_at out run.outlets) (outlet_at out run.outlets_left) _ _ (every.took out)
    (subst P (sym (every.outcome.write out is)) (self_fails out))

some_in : (o : Option (List ℕ)) → is_some o ≡ true → (name : List ℕ) × (o ≡ Some name)
some_in (Some name) is = (name, refl)
some_in None is = absurd (cc is)

-- an outlet that exists belongs to an output that was asked for
pub wanted_output : (a : Asking) (outlets : OutletStates) → is_some outlets.log ≡ is_some a.log →
    (out : Out) → is_some (outlet_at out outlets) ≡ true →
    (name : List ℕ) × (output_name a out ≡ Some name)
wanted_output a outlets log ForwardPaired there = (a.forward_paired, refl)
wanted_output a outlets log ForwardUnpaired there = (a.forward_unpaired, refl)
wanted_output a outlets log ReversePaired there = (a.reverse_paired, refl)
wanted_output a outlets log ReverseUnpaired there = (a.reverse_unpaired, refl)
wanted_output a outlets log Log there = some_in a.log (sym log ∙ there)

-- ---- devices that did not fail

-- a run that ended whole has one of the last two outcomes in the order of precedence
pub whole_rank : (o : Outcome) → IsTrue (ends_whole o) → 8 ≤ rank o
whole_rank Spawn e = absurd (cc e)
whole_rank Lane e = absurd (cc e)
whole_rank Gate e = absurd (cc e)
whole_rank Memory e = absurd (cc e)
whole_rank (Write out) e = absurd (cc e)
whole_rank (Read side) e = absurd (cc e)
whole_rank (Endless side) e = absurd (cc e)
whole_rank (Input fault) e = omega arith
whole_rank Finished e = omega arith

-- a run that ended whole did not end with an unconfirmed lane
pub not_lane : (o : Outcome) → IsTrue (ends_whole o) → o ≢ Lane
not_lane o whole lane = let P : Outcome → Type 0 = λ x. IsTrue (ends_whole x) in
    absurd (cc (subst P lane whole))

none_of : (o : Option Out) → ((out : Out) → o ≡ Some out → ⊥) → o ≡ None
none_of None none = refl
none_of (Some out) none = absurd (none out refl)

none_failed : (c : Choices) (run : Run) (every : EveryEnding c run) →
    IsTrue (ends_whole run.outcome) → failed_outlet every.fate ≡ None
none_failed c run every whole = none_of (failed_outlet every.fate) (λ out is.
    let low = every.outcome.outlet_failed out is in
    let high = whole_rank run.outcome whole in
    omega (arith, low, high))

took_none : (old new : Option OutletState) (text : List ℕ) → Took old new text 0 →
    IfSome old (λ o. o.failures ≡ 0) → IfSome new (λ o. o.failures ≡ 0)
took_none (Some old) (Some new) text took none = let f : new.failures ≡ old.failures + 0 =
    took.failures in let n : old.failures ≡ 0 = none in let is : new.failures ≡ 0 =
    omega (arith, f, n) in is
took_none None None text took none = none
took_none None (Some new) text took none = absurd took
took_none (Some old) None text took none = absurd took

healthy_after : (old new : OutletStates) (texts : Out → List ℕ) → OutletsTook old new texts None →
    AreHealthy old → AreHealthy new
healthy_after old new texts took healthy = record {
  forward_paired = took_none (Some old.forward_paired) (Some new.forward_paired)
      (texts ForwardPaired) (took ForwardPaired) healthy.forward_paired;
  forward_unpaired = took_none (Some old.forward_unpaired) (Some new.forward_unpaired)
      (texts ForwardUnpaired) (took ForwardUnpaired) healthy.forward_unpaired;
  reverse_paired = took_none (Some old.reverse_paired) (Some new.reverse_paired)
      (texts ReversePaired) (took ReversePaired) healthy.reverse_paired;
  reverse_unpaired = took_none (Some old.reverse_unpaired) (Some new.reverse_unpaired)
      (texts ReverseUnpaired) (took ReverseUnpaired) healthy.reverse_unpaired;
  log = took_none old.log new.log (texts Log) (took Log) healthy.log;
}

sound_after : (old new : OutletStates) (texts : Out → List ℕ) (failed : Option Out) →
    failed ≡ None → OutletsTook old new texts failed → AreHealthy old → AreHealthy new
sound_after old new texts failed none took = let P : Option Out → Type 0 =
    λ f. OutletsTook old new texts f in healthy_after old new texts (subst P none took)

-- if a run ended whole, no outlet has failed
pub outlets_sound : (c : Choices) (run : Run) → EveryEnding c run →
    IsTrue (ends_whole run.outcome) → AreHealthy run.outlets → AreHealthy run.outlets_left
outlets_sound c run every whole healthy =
    sound_after run.outlets run.outlets_left
    (λ out. text_of out (texts_of c.steps every.whole) ++ part_begun c.steps every.fate out)
    (failed_outlet every.fate)
    (none_failed c run every whole) every.took healthy

not_spawn : (o : Outcome) → IsTrue (ends_whole o) → o ≢ Spawn
not_spawn o whole spawned = let P : Outcome → Type 0 = λ x. IsTrue (ends_whole x) in
    absurd (cc (subst P spawned whole))

-- and each was flushed
pub outlets_flushed : (c : Choices) (run : Run) → EveryEnding c run →
    IsTrue (ends_whole run.outcome) → AreFlushed run.outlets_left
outlets_flushed c run every whole = every.flushed (none_failed c run every whole)
    (not_spawn run.outcome whole)

zero_if : (n : ℕ) → (0 < n → ⊥) → n ≡ 0
zero_if zero none = refl
zero_if (suc n) none = absurd (none (omega arith))

-- if a run ended whole, no feed has failed
pub feed_sound : (c : Choices) (run : Run) → EveryEnding c run → IsTrue (ends_whole run.outcome) →
    (side : Side) → failures_in (feed_left side run) ≡ 0
feed_sound c run every whole side = zero_if (failures_in (feed_left side run)) (λ some.
    let low = every.outcome.feed_failed side some in
    let high = whole_rank run.outcome whole in
    omega (arith, low, high))

-- ---- endless inputs

gave_within : (old : FeedState) (new : Option FeedState) →
    length (gave_to old new) ≤ length old.to_come
gave_within old (Some new) = let e = length-take (length old.to_come - length new.to_come)
    old.to_come in omega (arith, e)
gave_within old None = omega arith

within : (m n k : ℕ) → m ≤ n → n ≤ k → m ≤ k
within m n k low high = omega (arith, low, high)

-- an input that is reported as endless has at least as many bytes as read calls are allowed
pub endless_input : (c : Choices) (run : Run) → EveryEnding c run → (side : Side) →
    run.outcome ≡ Endless side → IsTrue (feed_of side run).tells →
    c.max_reads ≤ length (feed_of side run).to_come
endless_input c run every side is told = within _ _ _ (every.outcome.endless side is told)
    (gave_within (feed_of side run) (feed_left side run))

-- ---- faults of texts

-- the fault is one of a text, and not of its device
IsKnown : Option InputFault → Type 0
IsKnown fault = end_of fault ≡ trimmed_outcome fault

front_known : (side : Side) (reads : List grammar.Read) (n : ℕ) (text : Records) →
    IsKnown (text_fault side reads (fault_following n text))
unfolding IsKnown
front_known side [] n text =
    elim text.fault as (λ found. end_of (text_fault side [] (option_map (λ f. numbered f n) found))
    ≡ trimmed_outcome (text_fault side [] (option_map (λ f. numbered f n) found))) [
      | None ↦ refl
      | Some found ↦ grind arith
    ]
front_known side (r ∷ rs) n text = refl

mate_known : (n : ℕ) (fs rs : List grammar.Read) → IsKnown (mate_fault n fs rs)
unfolding IsKnown
mate_known n [] [] = refl
mate_known n (f ∷ fs) [] = refl
mate_known n [] (r ∷ rs) = refl
mate_known n (f ∷ fs) (r ∷ rs) = refl

first_known : (one other : Option InputFault) → IsKnown one → IsKnown other →
    IsKnown (first_fault one other)
first_known (Some fault) other first second = first
first_known None other first second = second

known_at : (n : ℕ) (forward reverse : Records) → IsKnown (fault_at n forward reverse)
known_at n forward reverse = first_known _ _ (front_known Forward forward.reads n forward)
    (first_known _ _ (front_known Reverse reverse.reads n reverse)
    (mate_known n forward.reads reverse.reads))

interleaved_known : (n : ℕ) (text : Records) → IsKnown (interleaved_fault_at n text)
interleaved_known n text = first_known _ _ (front_known Forward text.reads _ text)
    (first_known _ _ (front_known Reverse _ _ text) (mate_known n text.reads _))

pairs_known : (form : Form) (check : Bool) (encoding : Encoding) (forward reverse : List ℕ) →
    IsKnown (pairs_in form check encoding 0 forward reverse).fault
pairs_known TwoTexts check encoding forward reverse =
    let n = length (take_while (belong check) (mates_of (records encoding forward).reads
    (records encoding reverse).reads)) in
    known_at (suc (0 + n)) (behind n (records encoding forward))
    (behind n (records encoding reverse))
pairs_known InterleavedText check encoding forward reverse =
    let n = length (take_while (belong check) (interleaved_mates
    (records encoding forward).reads)) in
    interleaved_known (suc (0 + n)) (behind (2 * n) (records encoding forward))

settled_trimmed : (found : Option InputFault) → IsKnown found →
    settled (trimmed_outcome found) ≡ trimmed_outcome found
unfolding IsKnown
settled_trimmed None known = refl
settled_trimmed (Some found) known = known

settled_if : (o : Outcome) → (IsTrue (ends_whole o) → settled o ≡ o) → settled o ≡ o
settled_if Spawn whole = refl
settled_if Lane whole = refl
settled_if Gate whole = refl
settled_if Memory whole = refl
settled_if (Write out) whole = refl
settled_if (Read side) whole = refl
settled_if (Endless side) whole = refl
settled_if (Input found) whole = whole refl
settled_if Finished whole = refl

-- the outcome of a run over feeds with known bytes is reported unchanged
pub as_it_is : (c : Choices) (run : Run) → (IsTrue (ends_whole run.outcome) → IsTrimmed c run) →
    settled run.outcome ≡ run.outcome
as_it_is c run trims = settled_if run.outcome (λ whole.
    let is = (trims whole).outcome in
    let P : Outcome → Type 0 = λ o. settled o ≡ o in
    subst P (sym is) (settled_trimmed (all_pairs c run).fault (pairs_known run.form c.check_names
    c.encoding run.forward.to_come run.reverse.to_come)))

-- ---- the failure that is reported

has_failed : (a : Asking) (old new : FilesState) (o : Outcome)
    → ((out : Out) → o ≡ Write out → (name : List ℕ) × (output_name a out ≡ Some name) × IsTrue
    (new.has_failed name))
    → ((side : Side) → o ≡ Read side → IsTrue (new.has_failed (input_name a.inputs side)))
    → ((side : Side) → o ≡ Endless side → IsTrue (old.tells (input_name a.inputs side)) →
    (c : Choices) × (bytes : List ℕ) × (settings_of a ≡ Ok c)
    × (old.bytes (input_name a.inputs side) ≡ Some bytes) × (c.max_reads ≤ length bytes))
    → HasFailed a old new o
has_failed a old new Spawn write read endless = tt
has_failed a old new Lane write read endless = tt
has_failed a old new Gate write read endless = tt
has_failed a old new Memory write read endless = tt
has_failed a old new (Write out) write read endless = write out refl
has_failed a old new (Read side) write read endless = read side refl
has_failed a old new (Endless side) write read endless = endless side refl
has_failed a old new (Input found) write read endless = tt
has_failed a old new Finished write read endless = tt

-- the bytes of the input of a side, in a run of these inputs
bytes_in : (a : Asking) (old : FilesState) (inputs : Opened) (run : Run) →
    run.forward ≡ inputs.forward → run.reverse ≡ inputs.reverse → AreFed inputs a.inputs old →
    (side : Side) → IsTrue (old.tells (input_name a.inputs side))
    → IsTrue (feed_of side run).tells × (old.bytes (input_name a.inputs side) ≡ Some
    (feed_of side run).to_come)
bytes_in a old inputs run forward reverse fed Forward told =
    let P : FeedState → Type 0 =
    λ f. IsTrue f.tells × (old.bytes a.inputs.forward ≡ Some f.to_come) in
    subst P (sym forward) ((fed.forward told).told, (fed.forward told).bytes_are)
bytes_in a old inputs run forward reverse fed Reverse told =
    let P : FeedState → Type 0 =
    λ f. IsTrue f.tells × (old.bytes a.inputs.reverse ≡ Some f.to_come) in
    subst P (sym reverse) ((fed.reverse told).told, (fed.reverse told).bytes_are)

one_or_more : (n : ℕ) → n ≡ 1 → 0 < n
one_or_more n is = omega (arith, is)

-- The failure that a run reports is one of the device that it names, among the feeds and outlets
-- that were handed back.
pub fails_as_told : (a : Asking) (old : FilesState) (c : Choices) (inputs : Opened)
    (run : Run) (left : Side → Option FeedState) (x y z w : FilesState)
    → settings_of a ≡ Ok c → run.forward ≡ inputs.forward → run.reverse ≡ inputs.reverse →
    is_some run.outlets.log ≡ is_some a.log
    → ((side : Side) → feed_left side run ≡ left side) →
    AreFed inputs a.inputs old → EveryEnding c run
    → AreFeedsCounted a.inputs left x y → AreCounted a run.outlets_left 5 y z →
    KeepsFailed z w → HasFailed a old w run.outcome
fails_as_told a old c inputs run left x y z w settings forward reverse log sides fed every
    feeds outlets still = has_failed a old w run.outcome
    (λ out is.
    let had = write_failed c run every out is in
    let name = wanted_output a run.outlets log out had.was in (
      name.0,
      name.1,
      still name.0 (outlets.failed out name.0 had.outlet (below_five out) name.1
          had.is had.some),
    ))
    (λ side is.
    let P : Option FeedState → Type 0 = λ feed. failures_in feed ≡ 1 in
    let some = one_or_more _ (subst P (sides side) (every.outcome.read side is)) in
    still _ (outlets.still _ (feeds.failed side some)))
    (λ side is told.
    let there = bytes_in a old inputs run forward reverse fed side told in
    (c, (feed_of side run).to_come, settings, there.1, endless_input c run every side is there.0))
  where
    below_five : (out : Out) → place out < 5
    below_five ForwardPaired = omega arith
    below_five ForwardUnpaired = omega arith
    below_five ReversePaired = omega arith
    below_five ReverseUnpaired = omega arith
    below_five Log = omega arith
