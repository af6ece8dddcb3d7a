-- Sums in a report.
use Rattle.std.specs.Prelude.{◌≡◌, ◌≢◌, ◌≤◌, ℕ, ◌+◌, Bool, List, [], length, map, sum, get_or, if◌then◌else◌}
use Rattle.std.specs.List.{All}
use Rattle.fq_text.specs.declared.encoding.Encoding.{Encoding}
use Rattle.fq_text.specs.Grammar.{Read}
use Rattle.fq_trim.specs.declared.step.Step.{Step}
use Rattle.fq_trim.specs.Keeping.{places}
use Rattle.fq_trim.specs.KeptPlaces.{survives}
use Rattle.fq_pair.specs.Mates.{Mates}
use Rattle.fq_pair.specs.Outputs.{counts_of}
use Rattle.fq_report_reads.specs.declared.side.SideTally.{SideTally}
use Rattle.fq_report_reads.specs.declared.steps.StepsTally.{StepsTally}
use Rattle.fq_report_reads.specs.Courses.{alone, course}
use Rattle.fq_report_pairs.specs.Tallies.{tally_of}
use Rattle.fq_law_in_step.specs.InStep.{IsPairIn}

-- the reads of a side that these steps dropped: one number for each step
abbrev pub dropped_by : List Step → StepsTally → List ℕ
dropped_by steps t = map (λ number. get_or t.dropped number 0) (places 0 (length steps))

-- The numbers of a side: reads before trimming, reads that survive with their mate, reads that
-- survive alone. The dropped reads and the survivors add up to the reads before.
pub record AddsUp (steps : List Step) (t : SideTally) (pairs both only : ℕ) : Type 0 where
  pub before : t.before.reads ≡ pairs
  pub paired : t.paired.reads ≡ both
  pub unpaired : t.unpaired.reads ≡ only
  pub all : sum (dropped_by steps t.steps) + t.paired.reads + t.unpaired.reads ≡ t.before.reads

-- a read that survives is dropped by no step, and any other read by exactly one step
abbrev pub ReadsAreDroppedOnce : Type 0
ReadsAreDroppedOnce = (steps : List Step) (read : Read) →
    steps ≢ [] → length read.qual ≡ length read.seq →
    length (course (alone steps) read).dropped ≡ (if survives steps read then 0 else 1)

-- Both sides of the tally that a report shows add up, for pairs that come from inputs, under one
-- step or more, if a number of 64 bits can count the pairs.
abbrev pub ReportsAddUp : Type 0
ReportsAddUp = (check : Bool) (encoding : Encoding) (steps : List Step) (ms : List Mates) →
    All (IsPairIn check encoding) ms → steps ≢ [] → length ms ≤ 18446744073709551615 →
    let t = tally_of (alone steps) ms in
    let counts = counts_of steps ms in
    AddsUp steps t.forward counts.pairs counts.both counts.forward_only
    × AddsUp steps t.reverse counts.pairs counts.both counts.reverse_only
