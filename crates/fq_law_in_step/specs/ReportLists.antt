-- What the lists of a report add up to, how long they are, and what they count of the log.
use Rattle.std.specs.Prelude.{◌≡◌, ◌<◌, ℕ, ◌+◌, Bool, List, [], length, map, filter, sum, min, get_or}
use Rattle.std.specs.List.{All}
use Rattle.fq_text.specs.declared.encoding.Encoding.{Encoding}
use Rattle.fq_text.specs.Grammar.{Read}
use Rattle.fq_trim.specs.declared.step.Step.{Step}
use Rattle.fq_trim.specs.KeptPlaces.{kept_places, survives}
use Rattle.fq_pair.specs.Mates.{Mates}
use Rattle.fq_pair.specs.Outputs.{log_numbers}
use Rattle.fq_report_reads.specs.declared.columns.Columns.{Columns}
use Rattle.fq_report_reads.specs.declared.reads.ReadsTally.{ReadsTally}
use Rattle.fq_report_reads.specs.declared.side.SideTally.{SideTally}
use Rattle.fq_report_reads.specs.Rows.{counted_all}
use Rattle.fq_report_reads.specs.Columns.{columns_tables}
use Rattle.fq_report_reads.specs.Courses.{alone}
use Rattle.fq_report_pairs.specs.Tallies.{tally_of}
use Rattle.fq_law_in_step.specs.InStep.{IsPairIn, forward_reads, reverse_reads}

-- the largest number of 64 bits, at which the sums of a report stop
abbrev pub most : ℕ
most = 18446744073709551615

-- the numbers add up to this total, if it is below the largest number
abbrev pub AddUpTo : ℕ → ℕ → Type 0
AddUpTo total all = total < most → all ≡ total

-- Sums of reads and of their bases by position: each list adds up to its total.
pub record ListsAddUp (t : ReadsTally) (columns : Columns) : Type 0 where
  pub lengths : AddUpTo t.reads (sum t.lengths)
  pub bases : AddUpTo t.bases.bases (sum columns.bases)
  pub score_sum : AddUpTo t.bases.score_sum (sum columns.score_sum)
  pub q30_bases : AddUpTo t.bases.at_least_30 (sum columns.q30_bases)
  pub gc_bases : AddUpTo t.bases.gc (sum columns.c + sum columns.g)
  pub n_bases : AddUpTo t.bases.n (sum columns.n)

-- each list by position has as many items as the longest read has bases, but at most 10,001
abbrev pub AreAsLong : ReadsTally → Columns → Type 0
AreAsLong t columns = All (λ list. length list ≡ min t.longest 10001) (columns_tables columns)

-- Reads before trimming, those that survive with their mate, and those that survive alone.
pub record SideListsAddUp (t : SideTally) : Type 0 where
  pub before : ListsAddUp t.before t.positions.before
  pub paired : ListsAddUp t.paired t.positions.paired
  pub unpaired : ListsAddUp t.unpaired t.positions.unpaired

pub record SideListsAreAsLong (t : SideTally) : Type 0 where
  pub before : AreAsLong t.before t.positions.before
  pub paired : AreAsLong t.paired t.positions.paired
  pub unpaired : AreAsLong t.unpaired t.positions.unpaired

-- the number at this place of the log line of each read that survives (from 0, after the name)
abbrev pub logged : ℕ → List Step → List Read → List ℕ
logged place steps reads =
    map (λ read. get_or (log_numbers (length read.seq) (kept_places steps read)) place 0)
    (filter (survives steps) reads)

-- `removed_front` counts the second numbers of these lines, and `removed_behind` the fourth ones
pub record RemovedAsLogged (steps : List Step) (reads : List Read) (t : SideTally) : Type 0 where
  pub front : t.removed_front ≡ counted_all (logged 1 steps reads) []
  pub behind : t.removed_behind ≡ counted_all (logged 3 steps reads) []

-- Both sides of the tally that a report shows, for pairs that come from inputs.

abbrev pub ReportListsAddUp : Type 0
ReportListsAddUp = (check : Bool) (encoding : Encoding) (steps : List Step) (ms : List Mates) →
    All (IsPairIn check encoding) ms →
    let t = tally_of (alone steps) ms in
    SideListsAddUp t.forward × SideListsAddUp t.reverse

abbrev pub ReportListsAreAsLong : Type 0
ReportListsAreAsLong = (check : Bool) (encoding : Encoding) (steps : List Step) (ms : List Mates) →
    All (IsPairIn check encoding) ms →
    let t = tally_of (alone steps) ms in
    SideListsAreAsLong t.forward × SideListsAreAsLong t.reverse

abbrev pub BasesAreRemovedAsLogged : Type 0
BasesAreRemovedAsLogged = (check : Bool) (encoding : Encoding) (steps : List Step)
    (ms : List Mates) → All (IsPairIn check encoding) ms →
    let t = tally_of (alone steps) ms in
    RemovedAsLogged steps (forward_reads ms) t.forward
    × RemovedAsLogged steps (reverse_reads ms) t.reverse
