-- What a run guarantees, however it ends.
use Rattle.std.specs.Prelude.{◌≡◌, ◌≢◌, ℕ, ◌<◌, ◌≤◌, ◌⊎◌, Bool, true, false, ◌&&◌, IsTrue, Option, Some, None, IfSome, IsSome, MatchOption, List, [], ◌++◌, length}
use Rattle.std.specs.Option.{option_map}
use Rattle.fq_text.specs.declared.encoding.Encoding.{Encoding}
use Rattle.fq_text.specs.declared.memory.MemoryRefused.{MemoryRefused}
use Rattle.fq_text.specs.Lines.{whole_part}
use Rattle.fq_text.specs.Records.{records}
use Rattle.fq_pair.specs.declared.out.Out.{Out}
use Rattle.fq_pair.specs.declared.side.Side.{Side}
use Rattle.fq_pair.specs.declared.side.Side.TheVariants.{Forward, Reverse}
use Rattle.fq_pair.specs.declared.counts.Counts.{Counts}
use Rattle.fq_pair.specs.declared.fault.InputFault.{InputFault}
use Rattle.fq_pair.specs.declared.fault.InputFault.TheVariants.{NamesDiffer}
use Rattle.fq_pair.specs.Mates.{Mates, MateNames}
use Rattle.fq_pair.specs.Pairing.{Pairs}
use Rattle.fq_pair.specs.Interleaved.{side_after}
use Rattle.fq_pair.specs.Forms.{Form, TwoTexts, InterleavedText, pairs_in, names_of_pair}
use Rattle.fq_pair.specs.Outputs.{texts_of, text_of, counts_of}
use Rattle.fq_report_pairs.specs.declared.tally.Tally.{Tally}
use Rattle.fq_report_pairs.specs.Results.{tally_if}
use Rattle.fq_run_core.specs.declared.outcome.Outcome.{Outcome}
use Rattle.fq_run_core.specs.declared.outcome.Outcome.TheVariants as outcome
use Rattle.fq_run_core.specs.declared.ending.Ending.{Ending}
use Rattle.fq_run_core.specs.declared.ending.MixedEnding.{MixedEnding}
use Rattle.fq_run_core.specs.declared.outlets.Outlets.{Outlets}
use Rattle.fq_run_core.specs.Choices.{Choices}
use Rattle.fq_run_core.specs.Outcomes.{rank}
use Rattle.fq_text.specs.Devices.{FeedState}
use Rattle.fq_run_core.specs.Devices.{gave, Fed, OutletStates, AreFlushed, OutletsTook}
use Rattle.fq_run_core.specs.Fates.{Fate, FlushFailed, failed_outlet, block_begun, part_begun, IsCutShort}

-- A run: the form of its input, its feeds and outlets before and after it, its outcome, its counts
-- and its tally. The feed of an interleaved input is given for both sides.
pub record Run : Type 0 where
  pub form : Form
  pub forward : FeedState
  pub reverse : FeedState
  pub outlets : OutletStates
  pub forward_left : Option FeedState
  pub reverse_left : Option FeedState
  pub outlets_left : OutletStates
  pub outcome : Outcome
  pub counts : Counts
  pub tally : Option Tally

abbrev pub run_of : {F G O : Type 0} →
    (F → FeedState) → (G → FeedState) → (Outlets O → OutletStates) →
    F → G → Outlets O → Outlets O → Ending F G → Run
run_of forward_state reverse_state states forward reverse outlets outlets_left ending = record {
  form = TwoTexts;
  forward = forward_state forward;
  reverse = reverse_state reverse;
  outlets = states outlets;
  forward_left = option_map forward_state ending.forward;
  reverse_left = option_map reverse_state ending.reverse;
  outlets_left = states outlets_left;
  outcome = ending.outcome;
  counts = ending.counts;
  tally = ending.tally;
}

abbrev pub interleaved_run_of : {F O : Type 0} → (F → FeedState) → (Outlets O → OutletStates) →
    F → Outlets O → Outlets O → MixedEnding F → Run
interleaved_run_of feed_state states feed outlets outlets_left ending = record {
  form = InterleavedText;
  forward = feed_state feed;
  reverse = feed_state feed;
  outlets = states outlets;
  forward_left = option_map feed_state ending.feed;
  reverse_left = option_map feed_state ending.feed;
  outlets_left = states outlets_left;
  outcome = ending.outcome;
  counts = ending.counts;
  tally = ending.tally;
}

-- the bytes of the feeds are known to the proof
pub record AreTold (run : Run) : Type 0 where
  pub forward : IsTrue run.forward.tells
  pub reverse : IsTrue run.reverse.tells

-- the pairs in the bytes that were to come before the run
abbrev pub all_pairs : Choices → Run → Pairs
all_pairs c run =
    pairs_in run.form c.check_names c.encoding 0 run.forward.to_come run.reverse.to_come

-- Plain trimming.

-- how the plain trimming of a list of pairs ends
abbrev pub trimmed_outcome : Option InputFault → Outcome
trimmed_outcome None = outcome.Finished
trimmed_outcome (Some fault) = outcome.Input fault

-- all pairs before the end of the input, or before its fault, were trimmed in order, and then each
-- outlet was flushed
pub record IsTrimmed (c : Choices) (run : Run) : Type 0 where
  pub took : OutletsTook run.outlets run.outlets_left
      (λ out. text_of out (texts_of c.steps (all_pairs c run).mates)) None
  pub flushed : AreFlushed run.outlets_left
  pub counts : run.counts ≡ counts_of c.steps (all_pairs c run).mates
  pub tally : run.tally ≡ tally_if c.tallied c.steps (all_pairs c run).mates
  pub outcome : run.outcome ≡ trimmed_outcome (all_pairs c run).fault

-- if a run over these inputs ended because names differ, it returned those of the pair with the
-- number in the outcome, or the witness that memory was refused
abbrev pub AreItsNames : Form → Encoding → FeedState → FeedState → Outcome → Option MateNames →
    Option MemoryRefused → Type 0
AreItsNames form encoding forward reverse (outcome.Input (NamesDiffer k)) names refused =
    MatchOption names (IsSome refused) (λ these. IsTrue forward.tells → IsTrue reverse.tells →
    names_of_pair k form encoding forward.to_come reverse.to_come ≡ Some these)
AreItsNames form encoding forward reverse _ names refused = Unit {0}

-- names that a source has were returned, or the witness that memory was refused
abbrev pub TellsNames : Option MateNames → Option MateNames → Option MemoryRefused → Type 0
TellsNames held names refused = (names ≡ held) ⊎ ((names ≡ None) × IsSome refused)

-- the run ended at the end of the input, or at a fault in it
abbrev pub ends_whole : Outcome → Bool
ends_whole (outcome.Input fault) = true
ends_whole outcome.Finished = true
ends_whole _ = false

-- nothing was read or written: the outlets and each feed that was handed back are unchanged
pub record IsUntouched (run : Run) : Type 0 where
  pub outlets : run.outlets_left ≡ run.outlets
  pub forward : IfSome run.forward_left (λ left. left ≡ run.forward)
  pub reverse : IfSome run.reverse_left (λ left. left ≡ run.reverse)

-- Every ending.

-- the feed of a side, before a run and after it
abbrev pub feed_of : Side → Run → FeedState
feed_of Forward run = run.forward
feed_of Reverse run = run.reverse

abbrev pub feed_left : Side → Run → Option FeedState
feed_left Forward run = run.forward_left
feed_left Reverse run = run.reverse_left

-- the bytes that a feed gave, if it was handed back, and how often it failed
abbrev pub gave_to : FeedState → Option FeedState → List ℕ
gave_to old (Some new) = gave old new
gave_to old None = []

abbrev pub failures_in : Option FeedState → ℕ
failures_in (Some feed) = feed.failures
failures_in None = 0

-- a feed that was handed back gave the bytes that are no longer to come, and failed at most once
abbrev pub IsHandedBack : FeedState → Option FeedState → Type 0
IsHandedBack old (Some new) = (failed : ℕ) × (failed ≤ 1) × Fed old new failed
IsHandedBack old None = Unit {0}

-- a feed failed, or gave at least as many bytes as read calls are allowed
abbrev pub IsCutOff : Choices → FeedState → Option FeedState → Type 0
IsCutOff c old new = (0 < failures_in new) ⊎ (c.max_reads ≤ length (gave_to old new))

-- the pairs in the complete lines that the feeds gave
abbrev pub pairs_given : Choices → Run → List Mates
pairs_given c run =
    (pairs_in run.form c.check_names c.encoding 0
    (whole_part (gave_to run.forward run.forward_left))
    (whole_part (gave_to run.reverse run.reverse_left))).mates

-- this is the side of the next record of an interleaved input, after the records in the complete
-- lines that the feed gave
abbrev pub IsNext : Choices → Run → Side → Type 0
IsNext c run side =
    side_after
    (length (records c.encoding (whole_part (gave_to run.forward run.forward_left))).reads)
    ≡ side

-- these are all pairs; or a feed was cut off, and they are at least as many as the pairs in the
-- complete lines that the feeds gave
abbrev pub IsAllThatCame : Choices → Run → List Mates → Type 0
IsAllThatCame c run whole =
    (whole ≡ (all_pairs c run).mates)
    ⊎ ((IsCutOff c run.forward run.forward_left ⊎ IsCutOff c run.reverse run.reverse_left)
    × (length (pairs_given c run) ≤ length whole))

-- the tally is that of these pairs, if one is asked for and the run ended whole; else there is none
abbrev pub IsTallied : Choices → List Mates → Run → Type 0
IsTallied c whole run =
    run.tally ≡ tally_if (c.tallied && ends_whole run.outcome) c.steps whole

-- the first list is the beginning of the second
abbrev pub AreFirst : List Mates → List Mates → Type 0
AreFirst ms all = (others : List Mates) × (all ≡ ms ++ others)

-- what an outcome implies, and which outcome follows from a failure
pub record IsJustified (c : Choices) (run : Run) (whole : List Mates) (fate : Fate) : Type 0 where
  pub spawn : run.outcome ≡ outcome.Spawn → whole ≡ []
  pub write : (out : Out) → run.outcome ≡ outcome.Write out → failed_outlet fate ≡ Some out
  pub read : (side : Side) → run.outcome ≡ outcome.Read side → failures_in (feed_left side run) ≡ 1
  pub endless : (side : Side) → run.outcome ≡ outcome.Endless side →
      IsTrue (feed_of side run).tells →
      c.max_reads ≤ length (gave_to (feed_of side run) (feed_left side run))
  pub outlet_failed : (out : Out) → failed_outlet fate ≡ Some out → rank run.outcome ≤ 5
  pub feed_failed : (side : Side) → 0 < failures_in (feed_left side run) → rank run.outcome ≤ 6
  pub cut_at_read : AreTold run → (side : Side) → run.outcome ≡ outcome.Read side →
      length (pairs_given c run) ≤ length whole
  pub cut_at_endless : AreTold run → (side : Side) → run.outcome ≡ outcome.Endless side →
      length (pairs_given c run) ≤ length whole
  pub next_at_read : run.form ≡ InterleavedText → AreTold run → (side : Side) →
      run.outcome ≡ outcome.Read side → IsNext c run side
  pub next_at_endless : run.form ≡ InterleavedText → AreTold run → (side : Side) →
      run.outcome ≡ outcome.Endless side → IsNext c run side
  pub flushed : AreTold run → (out : Out) → fate ≡ FlushFailed out →
      run.outcome ≡ outcome.Write out → IsAllThatCame c run whole

-- What holds at every ending but that of an unconfirmed lane. `whole` are the pairs whose block was
-- written completely; they come first among all pairs, and the counts and the tally are theirs.
-- Each outlet has taken their texts. If a write failed in a block, the outlets before the failed
-- one have also taken their texts of that block, the failed one the beginning of its text, and
-- those after it nothing. At most one outlet fails, and it fails once. If none failed and all
-- threads were started, each outlet was flushed after its last write.
pub record EveryEnding (c : Choices) (run : Run) : Type 0 where
  pub whole : List Mates
  pub fate : Fate
  pub counts : run.counts ≡ counts_of c.steps whole
  pub tally : IsTallied c whole run
  pub took : OutletsTook run.outlets run.outlets_left
      (λ out. text_of out (texts_of c.steps whole) ++ part_begun c.steps fate out)
      (failed_outlet fate)
  pub flushed : failed_outlet fate ≡ None → run.outcome ≢ outcome.Spawn →
      AreFlushed run.outlets_left
  pub cut_short : IsCutShort c.block_pairs c.steps fate
  pub first : AreTold run → AreFirst (whole ++ block_begun fate) (all_pairs c run).mates
  pub forward : IsHandedBack run.forward run.forward_left
  pub reverse : IsHandedBack run.reverse run.reverse_left
  pub outcome : IsJustified c run whole fate
