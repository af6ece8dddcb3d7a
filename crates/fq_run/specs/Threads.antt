-- A run on several threads: what is laid out before its threads start, how it is concluded, and
-- what it guarantees.
use Rattle.std.specs.Prelude.{◌≡◌, ◌≢◌, ◌≤◌, ◌<◌, ℕ, Bool, IsTrue, ◌↔◌, List, [], ◌∷◌, length, vec_len, vec_capacity}
use Rattle.std.specs.Prelude.{Option, Some, None, IfSome, IsSome, Result, IsOkAnd}
use Rattle.std.specs.List.{AllZip}
use Rattle.std.specs.Option.{option_map, option_and_then}
use Rattle.fq_lane.specs.declared.tx.NotEnded.{NotEnded}
use Rattle.fq_lane.specs.History.{History}
use Rattle.fq_text.specs.declared.memory.MemoryRefused.{MemoryRefused}
use Rattle.fq_pair.specs.declared.out.Out.{Out}
use Rattle.fq_pair.specs.Mates.{MateNames}
use Rattle.fq_work.specs.declared.ends.WorkEnds.{WorkEnds}
use Rattle.fq_work.specs.declared.ends.Worked.{Worked}
use Rattle.fq_work.specs.declared.reply.Reply.{Reply}
use Rattle.fq_report_pairs.specs.declared.tally.Tally.{Tally}
use Rattle.fq_run_core.specs.Totals.{tally_plus, ended}
use Rattle.fq_run_core.specs.Choices.{Choices}
use Rattle.fq_run.specs.lanes.Laying.{fresh, Laid, IsLaid, AreFor}
use Rattle.fq_run.specs.crew.Workers.{Seated}
use Rattle.fq_run.specs.Confirming.{Confirmed}
use Rattle.fq_run_core.specs.Devices.{KeepFiles, OutletStates}
use Rattle.fq_run.specs.Each.{Each3}
use Rattle.fq_run_core.specs.Endings.{Run, AreTold, ends_whole, IsTrimmed, IsUntouched, AreItsNames, EveryEnding}
use Rattle.fq_run_core.specs.Outcomes.{outcome_of}
use Rattle.fq_pair.specs.Walks.{SourceState}
use Rattle.fq_run_core.specs.PairsRead.{fresh_source, feed_in}
use Rattle.fq_run_core.specs.Writing.{occurred}
use Rattle.fq_run.specs.declared.collector.Collector.{Collector}
use Rattle.fq_run.specs.declared.dealer.dealt.Dealt.{Dealt}
use Rattle.fq_run.specs.declared.conclusion.Conclusion.{Conclusion}
use Rattle.fq_run_core.specs.declared.outcome.Outcome.TheVariants as outcome
use Rattle.fq_run.specs.declared.lanes.Lanes.{Lanes}
use Rattle.fq_run.specs.declared.crew.Crew.{Crew}

-- the lanes and tallies of the workers and the start lane are new, and there is room for what is
-- handed back
pub record AreLaidOut (tallied : Bool) (workers : ℕ) (lanes : Lanes) : Type 0 where
  pub some : 0 < workers
  pub all : AreFor workers lanes.seats
  pub laid : IsLaid tallied lanes.seats
  pub start : lanes.start ≡ fresh lanes.starter.name
  pub starter : lanes.starter ≡ fresh lanes.starter.name
  pub closings : (lanes.closings.items ≡ []) × (workers ≤ vec_capacity lanes.closings)
  pub hands : (lanes.hands.items ≡ []) × (workers ≤ vec_capacity lanes.hands)
  pub worked : (lanes.worked.items ≡ []) × (workers ≤ vec_capacity lanes.worked)

-- a source that nothing was read from, over feeds that have not failed
pub record IsFresh (c : Choices) (s : SourceState) : Type 0 where
  pub fresh : s ≡ fresh_source s.form c (feed_in s.forward) (feed_in s.reverse)
  pub forward : s.forward.failures ≡ 0
  pub reverse : s.reverse.failures ≡ 0

-- threads that hold the other ends of these lanes, which are new
pub record IsManned {S : Type 0} (crew : Crew S) (replies : List (History Reply)) : Type 0 where
  pub ends : List WorkEnds
  pub some : 0 < length replies
  pub laid : Each3 (Laid crew.dealer.promise.settings.tallied)
      crew.dealer.promise.to.value.items ends replies
  pub seated : AllZip
      (Seated crew.dealer.promise.settings.steps crew.holds) ends crew.hands.items
  pub start : crew.dealer.promise.start.value ≡ fresh crew.starter.name
  pub starter : crew.starter ≡ fresh crew.starter.name
  pub worked : (crew.worked.items ≡ []) × (vec_len crew.hands ≤ vec_capacity crew.worked)

-- the tallies of workers, added to another in turn
abbrev pub tallies_from : Option Tally → List Worked → Option Tally
tallies_from tally [] = tally
tallies_from tally (worked ∷ others) = tallies_from (tally_plus tally worked.tally) others

-- After the joins the workers' tallies are added up. All lanes are confirmed, or one is not. Of the
-- outcomes that occurred, the first is returned.
pub record Concludes {S : Type 0} (started : Result (History (Unit {0})) NotEnded)
    (dealt : Dealt S) (worked : List Worked)
    (k : Collector) (failed : Option Out) (ending : Conclusion S) : Type 0 where
  pub total : ending.total ≡ ended ending.outcome
      (record { counts = k.total.counts; tally = tallies_from k.total.tally worked })
  pub source : ending.source ≡ Some dealt.source
  pub lane : IfSome ending.unended (λ unended. ending.outcome ≡ outcome.Lane)
  pub outcome_is : ending.unended ≡ None →
      ending.outcome ≡ outcome_of (occurred k.halt dealt.why failed)
  pub memory : ending.outcome ≡ outcome.Memory → IsSome ending.refused
  pub start : ending.unended ≡ None → IsOkAnd started (λ e. dealt.start ≡ e)
  pub workers : ending.unended ≡ None →
      Each3 Confirmed dealt.closings.items worked k.replies.items

-- a run over a source
abbrev pub run_from : {S : Type 0} → (S → SourceState) → SourceState →
    OutletStates → OutletStates → Conclusion S → Run
run_from state s before after ending = record {
  form = s.form;
  forward = feed_in s.forward;
  reverse = feed_in s.reverse;
  outlets = before;
  forward_left = option_map (λ x. feed_in (state x).forward) ending.source;
  reverse_left = option_map (λ x. feed_in (state x).reverse) ending.source;
  outlets_left = after;
  outcome = ending.outcome;
  counts = ending.total.counts;
  tally = ending.total.tally;
}

-- the names that the source of a run has at its end
abbrev pub names_left : {S : Type 0} → (S → SourceState) → Conclusion S → Option MateNames
names_left state ending = option_and_then (λ s. (state s).names) ending.source

-- What a run on several threads guarantees. Outlets keep the files that they write. The outcome is
-- `Lane` exactly if a lane could not be
-- confirmed. If it is `Memory` or `Spawn`, there is a witness; if it is `Gate`, the gate may hold
-- back a block. Names that differ are told, or there is a witness. Feeds are lost only if a thread
-- was refused, and only both together. If a thread was refused, nothing was read or written. If the
-- run ended at the end of the input, or at a fault in it, all pairs before that were trimmed.
-- `EveryEnding` holds unless the outcome is `Lane`.
pub record IsThreaded (c : Choices) (holds : Bool) (run : Run)
    (unended : Option NotEnded) (refused : Option MemoryRefused) (told : Option MateNames) :
    Type 0 where
  pub files : KeepFiles run.outlets run.outlets_left
  pub lane : run.outcome ≡ outcome.Lane → IsSome unended
  pub no_other : IsSome unended → run.outcome ≡ outcome.Lane
  pub memory : run.outcome ≡ outcome.Memory → IsSome refused
  pub spawn : run.outcome ≡ outcome.Spawn → IsSome refused
  pub gate : run.outcome ≡ outcome.Gate → IsTrue holds
  pub forward : run.forward_left ≡ None → run.outcome ≡ outcome.Spawn
  pub reverse : run.reverse_left ≡ None → run.outcome ≡ outcome.Spawn
  pub together : (run.forward_left ≡ None) ↔ (run.reverse_left ≡ None)
  pub untouched : run.outcome ≡ outcome.Spawn → IsUntouched run
  pub names : AreItsNames run.form c.encoding run.forward run.reverse run.outcome told refused
  pub whole : IsTrue (ends_whole run.outcome) → AreTold run → IsTrimmed c run
  pub every : run.outcome ≢ outcome.Lane → EveryEnding c run
