-- A run whose threads could not all be started.
use Rattle.std.proofs.Common.{◌≡◌, ◌↔◌, Option, Some, None, IfSome, IsSome, true, false, Result, ℕ, List, [], length, refl, sym, ap, ◌∙◌, arith, ◌≤◌, ◌^◌, vec_len, Bool}
use Rattle.fq_lane.specs.History.{History}
use Rattle.fq_lane.specs.declared.tx.NotEnded.{NotEnded}
use Rattle.fq_text.specs.declared.memory.MemoryRefused.{MemoryRefused}
use Rattle.fq_block.specs.Blocks.{Numbered}
use Rattle.fq_text.specs.declared.encoding.Encoding.{Encoding}
use Rattle.fq_pair.specs.declared.out.Out.{Out}
use Rattle.fq_pair.specs.declared.fault.InputFault.TheVariants.{NamesDiffer}
use Rattle.fq_pair.specs.Mates.{MateNames}
use Rattle.fq_run_core.specs.declared.outcome.Outcome.{Outcome}
use Rattle.fq_run_core.specs.declared.outcome.Outcome.TheVariants as outcome
use Rattle.fq_run_core.specs.declared.reading_end.ReadingEnd.{ReadingEnd}
use Rattle.fq_run_core.specs.Choices.{Choices}
use Rattle.fq_run.specs.dealer.Dealt.{CanDeal, HasDealt}
use Rattle.fq_run.specs.declared.dealer.Dealer.{Dealer}
use Rattle.fq_run.specs.declared.lanes.Lanes.{Lanes}
use Rattle.fq_run.proofs.MatchLemmas.{to_dealt}
use Rattle.fq_text.specs.Devices.{FeedState}
use Rattle.fq_run_core.specs.Devices.{OutletStates}
use Rattle.fq_run_core.specs.Endings.{Run, all_pairs, IsHandedBack, EveryEnding, AreItsNames, TellsNames}
use Rattle.fq_run_core.specs.Fates.{Unbroken}
use Rattle.fq_run_core.specs.Outcomes.{is_unmatched}
use Rattle.std.specs.Option.{option_map}
use Rattle.std.proofs.lemmas.Grind.{common_steps}
use Rattle.fq_run.specs.Threads.{AreLaidOut, IsFresh, IsThreaded, run_from, names_left}
use Rattle.fq_run.specs.declared.conclusion.Conclusion.{Conclusion}
use Rattle.fq_pair.specs.Forms.{Form}
use Rattle.fq_pair.specs.Walks.{SourceState}
use Rattle.fq_run_core.specs.PairsRead.{fresh_source, feed_in}
use Rattle.fq_run_core.proofs.OutletLemmas.{flush_keeps}
use Rattle.fq_run_core.proofs.PassLemmas.{runs_refused}
use Rattle.fq_run_core.proofs.RunLemmas.{run_with, run_keeps}
use Rattle.fq_run_core.specs.declared.reading_end.ReadingEnd.TheVariants as reading
use Rattle.fq_run_core.specs.Writing.{FlushesAfter, no_halt}
use Rattle.fq_run_core.specs.declared.total.Total.{Total}
use Rattle.std.proofs.Math.Bool.{and-false}
use Rattle.fq_run_core.specs.Totals.{no_total, ended}

-- two things of one source are there, or neither is
pub of_one : {S A B : Type 0} (f : S → A) (h : S → B) (o : Option S) →
    (option_map f o ≡ None) ↔ (option_map h o ≡ None)
of_one f h None = (λ gone. refl, λ gone. refl)
of_one f h (Some x) = (λ gone. absurd cc, λ gone. absurd cc)

-- an unchanged source has unchanged feeds
pub unread : {S : Type 0} (state : S → SourceState) (s : SourceState) (o : Option S) →
    IfSome o (λ x. state x ≡ s) →
    IfSome (option_map (λ x. feed_in (state x).forward) o) (λ left. left ≡ feed_in s.forward)
    × IfSome (option_map (λ x. feed_in (state x).reverse) o) (λ left. left ≡ feed_in s.reverse)
unread state s None same = (tt, tt)
unread state s (Some x) same = (ap (λ z. feed_in z.forward) same, ap (λ z. feed_in z.reverse) same)

-- a dealer whose reading has not stopped got no start item, and has not read
pub idle : {S : Type 0} (state : S → SourceState) (c : Choices) (s old new : SourceState)
    (start start_left : History (Unit {0})) (to : List (History Numbered))
    (closings : List (Result (History Numbered) NotEnded)) (why : Option ReadingEnd) (x : S)
    (o : Option S) → old ≡ s → state x ≡ new → HasDealt c old new start start_left to closings why →
    IfSome o (λ y. (y ≡ x) × (why ≡ None)) → IfSome o (λ y. state y ≡ s)
idle state c s old new start start_left to closings why x None same is h unread = tt
idle state c s old new start start_left to closings why x (Some y) same is h unread =
    grind (arith, common_steps)

-- if the state of a feed is missing, so is the feed
pub none_of : {A B : Type 0} (f : A → B) (a : Option A) → option_map f a ≡ None → a ≡ None
none_of f None is = refl
none_of f (Some x) is = absurd cc

back_as_it_was : (old : FeedState) (left : Option FeedState) → IfSome left (λ x. x ≡ old) →
    IsHandedBack old left
back_as_it_was old None same = tt
back_as_it_was old (Some new) same = grind (arith, common_steps)

module _ (c : Choices) (form : Form) (f r : FeedState) (f' r' : Option FeedState)
    (o : OutletStates) (forward : IfSome f' (λ left. left ≡ f))
    (reverse : IfSome r' (λ left. left ≡ r)) (both : (f' ≡ None) ↔ (r' ≡ None)) (holds : Bool)
    (lacked : MemoryRefused) where
  -- the run
  abbrev unstarted_run : Run
  unstarted_run = run_with form f r o f' r' o outcome.Spawn (no_total false)

  every : EveryEnding c unstarted_run
  every = record {
    whole = [];
    fate = Unbroken;
    counts = refl;
    tally = rw and-false refl;
    took = grind (arith, common_steps);
    flushed = λ none started. absurd (started refl);
    cut_short = tt;
    first = λ told. ((all_pairs c unstarted_run).mates, refl);
    forward = back_as_it_was f f' forward;
    reverse = back_as_it_was r r' reverse;
    outcome = grind (arith, common_steps);
  }

  -- what is promised of a run on several threads holds if a thread was refused
  pub unstarted : {told : Option MateNames} →
      IsThreaded c holds unstarted_run None (Some lacked) told
  unstarted = grind (arith, common_steps, every)

-- if memory was refused before the threads started, the outlets were only flushed
pub refused : (form : Form) (c : Choices) (f r f' r' : FeedState) (before after : OutletStates)
    (counted : Total) (failed : Option Out) (lacked : MemoryRefused) → f' ≡ f → r' ≡ r →
    counted ≡ no_total false → FlushesAfter None before after failed →
    f.failures ≡ 0 → r.failures ≡ 0 → {holds : Bool} → {told : Option MateNames} →
    IsThreaded c holds (run_with form f r before (Some f') (Some r') after outcome.Memory counted)
    None (Some lacked) told
refused form c f r f' r' before after counted failed lacked same also none flushed sound sound' =
    let p = runs_refused {E = Unit {0}} lacked form c f r f' r' before counted same also none in
    record {
      files = flush_keeps None before after failed flushed;
      lane = λ at. absurd cc;
      no_other = λ there. absurd cc;
      memory = λ at. refl;
      spawn = λ at. absurd cc;
      gate = λ at. absurd cc;
      forward = λ gone. absurd cc;
      reverse = λ gone. absurd cc;
      together = (λ gone. absurd cc, λ gone. absurd cc);
      untouched = λ at. absurd cc;
      names = tt;
      whole = λ ends told. absurd cc;
      every = λ lane. (run_keeps form c f r f' r' before before counted no_halt
          (Some (reading.Memory lacked)) None p after failed outcome.Memory flushed refl sound
          sound' counted (none ∙ sym (ap (ended outcome.Memory) none))).every;
    }

-- what holds of the names that a source has holds of those that were returned
names_told : (form : Form) (e : Encoding) (f r : FeedState) (o : Outcome)
    (held told : Option MateNames) (lacked lacked' : Option MemoryRefused) →
    (IsSome lacked → IsSome lacked') → (is_unmatched o ≡ true → TellsNames held told lacked') →
    AreItsNames form e f r o held lacked → AreItsNames form e f r o told lacked'
names_told form e f r (outcome.Input (NamesDiffer k)) held told lacked lacked' witness tells is =
    grind (arith, common_steps)
names_told form e f r o held told lacked lacked' witness tells is = tt

-- what holds of a run over a source holds of the run over the feeds of that source
pub closed : {S F G : Type 0} (state : S → SourceState) (fs : F → FeedState) (gs : G →
    FeedState) (forward_of : S → F) (reverse_of : S → G) →
    ((x : S) → fs (forward_of x) ≡ feed_in (state x).forward) →
    ((x : S) → gs (reverse_of x) ≡ feed_in (state x).reverse) →
    (form : Form) (c : Choices) (s : SourceState) (f : F) (r : G) →
    s ≡ fresh_source form c (fs f) (gs r) → (before after : OutletStates) (e : Conclusion S) →
    (o : Outcome) (counted : Total) (f' : Option F) (r' : Option G) (u : Option NotEnded)
    (lacked : Option MemoryRefused) (told : Option MateNames) → o ≡ e.outcome → counted ≡ e.total →
    u ≡ e.unended → (IsSome e.refused → IsSome lacked) →
    (is_unmatched o ≡ true → TellsNames (names_left state e) told lacked) →
    f' ≡ option_map forward_of e.source →
    r' ≡ option_map reverse_of e.source →
    {holds : Bool} →
    IsThreaded c holds (run_from state s before after e) e.unended e.refused (names_left state e) →
    IsThreaded c holds (run_with form (fs f) (gs r) before (option_map fs f') (option_map gs r')
    after o counted) u lacked told
closed state fs gs forward_of reverse_of first second form c s f r is before after e o counted f' r'
    u lacked told outcome_is counts_are ended witness names left right {holds} t =
    grind (arith, common_steps, names_told)

-- a dealer whose lanes are new, over a source that nothing was read from
pub can_deal : {S : Type 0} (tallied : Bool) (workers : ℕ) (c : Choices) (s : SourceState)
    (dealer : Dealer S) (lanes : Lanes) → AreLaidOut tallied workers lanes →
    dealer.to ≡ lanes.seats.to → dealer.closings ≡ lanes.closings →
    length dealer.to.items ≡ vec_len dealer.to → IsFresh c s → s.most_bytes ≤ 2 ^ 60 →
    CanDeal c s dealer
can_deal tallied workers c s dealer lanes r same also len is few =
    grind (arith, common_steps, to_dealt)
