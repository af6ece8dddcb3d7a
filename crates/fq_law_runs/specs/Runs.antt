-- What a run leaves in its outlets, read again as FASTQ, and what a run that is killed has left.
use Rattle.std.specs.Prelude.{◌≡◌, ◌<◌, ◌⊎◌, Ok, Some, List, ◌++◌, ℕ}
use mathlib.Core.List.{IsPrefix}
use Rattle.fq_text.specs.Devices.{OutletState}
use Rattle.fq_files.specs.Holding.{Holding}
use Rattle.fq_files.specs.States.{Keys}
use Rattle.fq_pair.specs.declared.out.Out.{Out}
use Rattle.fq_pair.specs.Mates.{Mates}
use Rattle.fq_pair.specs.Outputs.{texts_of, text_of}
use Rattle.fq_pair.specs.Pairing.{Pairs}
use Rattle.fq_run_core.specs.Choices.{Choices}
use Rattle.fq_run_core.specs.Devices.{OutletStates, outlet_at}
use Rattle.fq_run_core.specs.Endings.{Run, IsTrimmed, EveryEnding, AreTold, AreFirst, all_pairs}
use Rattle.fq_run_core.specs.Fates.{Fate, Unbroken, part_begun}
use Rattle.fq_run_core.specs.Outcomes.{rank}
use Rattle.fq_app_files.specs.Judging.{settings_of}
use Rattle.fq_app_files.specs.Leaving.{AreLeft, AreUntrimmed}
use Rattle.fq_app_files.specs.Trimming.{HasOwnName, IsEmptyOutlet, pairs_of}
use Rattle.fq_app_words.specs.Requests.{Asking}
use Rattle.fq_law_in_step.specs.InStep.{AreInStep}

-- each outlet that tells its bytes and began empty has taken its text
abbrev pub HaveTaken : OutletStates → OutletStates → (Out → List ℕ) → Type 0
HaveTaken old new texts = (out : Out) (before after : OutletState) →
    outlet_at out old ≡ Some before → IsEmptyOutlet before →
    outlet_at out new ≡ Some after → after.taken ≡ texts out

-- A run that ended whole.

-- The outlets have taken the outputs of all pairs, in step with the counts of the run.
pub record RunIsInStep (c : Choices) (run : Run) : Type 0 where
  pub texts : Out → List ℕ
  pub taken : HaveTaken run.outlets run.outlets_left texts
  pub in_step : AreInStep c.check_names c.steps c.encoding (all_pairs c run).mates run.counts texts

-- so it is after each run that trimmed all pairs
abbrev pub WholeRunsAreInStep : Type 0
WholeRunsAreInStep = (c : Choices) (run : Run) → IsTrimmed c run → RunIsInStep c run

-- A run with any other ending except an unconfirmed lane.

-- The outlets have taken the outputs of the first pairs, those whose block was written whole, in
-- step with the counts of the run. After these there is at most the part that was written of the
-- one block in which a write failed, and nothing if no write can have failed.
pub record RunIsInStepUpTo (c : Choices) (run : Run) : Type 0 where
  pub whole : List Mates
  pub fate : Fate
  pub texts : Out → List ℕ
  pub first : AreFirst whole (all_pairs c run).mates
  pub taken : HaveTaken run.outlets run.outlets_left
      (λ out. texts out ++ part_begun c.steps fate out)
  pub unbroken : 5 < rank run.outcome → fate ≡ Unbroken
  pub in_step : AreInStep c.check_names c.steps c.encoding whole run.counts texts

-- the outputs are in step for the first pairs, if the bytes of the feeds are known
abbrev pub EndingsAreInStep : Type 0
EndingsAreInStep = (c : Choices) (run : Run) →
    EveryEnding c run → AreTold run → RunIsInStepUpTo c run

-- A run that is killed. No function returns then, so no clause speaks of that moment. But outlets
-- only append, so each has taken a first part of what it would have taken at the end.

-- each first part of these bytes is a first part of the text of all pairs
abbrev pub BeginsText : Choices → Pairs → Out → List ℕ → Type 0
BeginsText c all out bytes = (part : List ℕ) →
    IsPrefix part bytes → IsPrefix part (text_of out (texts_of c.steps all.mates))

-- so it is with what an outlet has taken that tells its bytes and began empty, under the same
-- conditions
abbrev pub OutletsBeginTexts : Type 0
OutletsBeginTexts = (c : Choices) (run : Run) → EveryEnding c run → AreTold run →
    (out : Out) (before after : OutletState) →
    outlet_at out run.outlets ≡ Some before → IsEmptyOutlet before →
    outlet_at out run.outlets_left ≡ Some after → BeginsText c (all_pairs c run) out after.taken

-- and with the file of each output that has a name of its own, if trimming had begun; otherwise
-- each file holds what it held before, or nothing
abbrev pub FilesBeginTexts : Type 0
FilesBeginTexts = (a : Asking) (tells : Keys) (c : Choices) (old new : Holding)
    (forward reverse : List ℕ) →
    settings_of a ≡ Ok c → old a.inputs.forward ≡ Some forward →
    old a.inputs.reverse ≡ Some reverse → AreLeft a tells old new →
    AreUntrimmed a tells old new ⊎ ((out : Out) (name : List ℕ) → HasOwnName a tells out name →
    (bytes : List ℕ) × (new name ≡ Some bytes)
    × BeginsText c (pairs_of c a.inputs.form forward reverse) out bytes)
