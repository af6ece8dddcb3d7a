-- What is counted of reads and of what steps leave of them. Sums saturate at the largest u64.
use Rattle.std.specs.Prelude.{ℕ, ◌+◌, ◌-◌, ◌*◌, ◌/◌, min, max, nat_le, nat_lt}
use Rattle.std.specs.Prelude.{Bool, not, ◌&&◌, if◌then◌else◌}
use Rattle.std.specs.Prelude.{[], length, sum, count_by}
use Rattle.fq_text.specs.Grammar.{Read}
use Rattle.fq_trim.specs.Keeping.{scores}
use Rattle.fq_trim.specs.Sums.{capped_sum}
use Rattle.fq_report_reads.specs.declared.bases.BaseTally.{BaseTally}
use Rattle.fq_report_reads.specs.declared.reads.ReadsTally.{ReadsTally}
use Rattle.fq_report_reads.specs.declared.steps.StepsTally.{StepsTally}
use Rattle.fq_report_reads.specs.declared.side.SideTally.{SideTally}
use Rattle.fq_report_reads.specs.Rows.{counted, counted_if, counted_all, rows_plus}
use Rattle.fq_report_reads.specs.Courses.{Part, whole, Course, course, survives}
use Rattle.fq_report_reads.specs.Letters.{is_gc, is_n}
use Rattle.fq_report_reads.specs.SideColumns.{no_side_columns, with_columns, side_columns_plus}

-- Of bases.

abbrev pub no_bases : BaseTally
no_bases = record { bases = 0; at_least_20 = 0; at_least_30 = 0; score_sum = 0; gc = 0; n = 0 }

abbrev pub bases_of : Part → BaseTally
bases_of part = record {
  bases = length part.seq;
  at_least_20 = count_by (nat_le 20) (scores part.encoding part.qual);
  at_least_30 = count_by (nat_le 30) (scores part.encoding part.qual);
  score_sum = sum (scores part.encoding part.qual);
  gc = count_by is_gc part.seq;
  n = count_by is_n part.seq;
}

abbrev pub bases_plus : BaseTally → BaseTally → BaseTally
bases_plus a b = record {
  bases = capped_sum a.bases b.bases;
  at_least_20 = capped_sum a.at_least_20 b.at_least_20;
  at_least_30 = capped_sum a.at_least_30 b.at_least_30;
  score_sum = capped_sum a.score_sum b.score_sum;
  gc = capped_sum a.gc b.gc;
  n = capped_sum a.n b.n;
}

-- Of reads.

-- the whole part of the mean score of a read
abbrev pub mean_score : BaseTally → ℕ
mean_score read = read.score_sum / read.bases

-- the percentage of the bases of a read that are G or C, to the nearest whole number, halves up
abbrev pub gc_percent : BaseTally → ℕ
gc_percent read = (200 * read.gc + read.bases) / (2 * read.bases)

abbrev pub no_reads : ReadsTally
no_reads = record {
  reads = 0;
  bases = no_bases;
  shortest = 18446744073709551615;
  longest = 0;
  lengths = [];
  mean_scores = [];
  gc_percents = [];
}

-- One more read with these counts. A read without bases has no mean score and no percentage.
abbrev pub with_bases : BaseTally → ReadsTally → ReadsTally
with_bases read t = record {
  reads = capped_sum t.reads 1;
  bases = bases_plus t.bases read;
  shortest = min t.shortest read.bases;
  longest = max t.longest read.bases;
  lengths = counted read.bases t.lengths;
  mean_scores = counted_if (nat_lt 0 read.bases) (mean_score read) t.mean_scores;
  gc_percents = counted_if (nat_lt 0 read.bases) (gc_percent read) t.gc_percents;
}

-- one more read, which has these bases
abbrev pub with_part : Part → ReadsTally → ReadsTally
with_part part t = with_bases (bases_of part) t

abbrev pub reads_plus : ReadsTally → ReadsTally → ReadsTally
reads_plus a b = record {
  reads = capped_sum a.reads b.reads;
  bases = bases_plus a.bases b.bases;
  shortest = min a.shortest b.shortest;
  longest = max a.longest b.longest;
  lengths = rows_plus a.lengths b.lengths;
  mean_scores = rows_plus a.mean_scores b.mean_scores;
  gc_percents = rows_plus a.gc_percents b.gc_percents;
}

-- Of steps: how many reads each list of steps shortened, and how many it dropped.

abbrev pub no_steps : StepsTally
no_steps = record { shortened = []; dropped = [] }

abbrev pub with_course : Course → StepsTally → StepsTally
with_course course t = record {
  shortened = counted_all course.shortened t.shortened;
  dropped = counted_all course.dropped t.dropped;
}

abbrev pub steps_plus : StepsTally → StepsTally → StepsTally
steps_plus a b = record {
  shortened = rows_plus a.shortened b.shortened;
  dropped = rows_plus a.dropped b.dropped;
}

-- Of a side.

abbrev pub no_side : SideTally
no_side = record {
  before = no_reads;
  paired = no_reads;
  unpaired = no_reads;
  front = 0;
  behind = 0;
  removed_front = [];
  removed_behind = [];
  positions = no_side_columns;
  steps = no_steps;
}

-- how many bases of a read were removed at its end, if this many were removed at its start
abbrev pub behind_of : Read → Part → ℕ → ℕ
behind_of read left front = length read.seq - front - length left.seq

-- One more read, what is left of it, how many bases were removed before that, and whether its mate
-- survives. Removed bases are counted of the reads that survive.
abbrev pub with_left : Read → Part → ℕ → Bool → SideTally → SideTally
with_left read left front mate_survives t = record {
  before = with_part (whole read) t.before;
  paired = if survives left && mate_survives then with_part left t.paired else t.paired;
  unpaired = if survives left && not mate_survives then with_part left t.unpaired else t.unpaired;
  front = if survives left then capped_sum t.front front else t.front;
  behind = if survives left then capped_sum t.behind (behind_of read left front) else t.behind;
  removed_front = counted_if (survives left) front t.removed_front;
  removed_behind = counted_if (survives left) (behind_of read left front) t.removed_behind;
  positions = with_columns read left mate_survives t.positions;
  steps = t.steps;
}

-- other counts of steps
abbrev pub with_step_counts : StepsTally → SideTally → SideTally
with_step_counts steps t = record {
  before = t.before;
  paired = t.paired;
  unpaired = t.unpaired;
  front = t.front;
  behind = t.behind;
  removed_front = t.removed_front;
  removed_behind = t.removed_behind;
  positions = t.positions;
  steps = steps;
}

-- the steps that did something to a read
abbrev pub with_steps : Course → SideTally → SideTally
with_steps course t = with_step_counts (with_course course t.steps) t

-- a read, its course, and whether its mate survives
abbrev pub with_read : Read → Course → Bool → SideTally → SideTally
with_read read course mate_survives t =
    with_left read course.left course.front mate_survives (with_steps course t)

abbrev pub side_plus : SideTally → SideTally → SideTally
side_plus a b = record {
  before = reads_plus a.before b.before;
  paired = reads_plus a.paired b.paired;
  unpaired = reads_plus a.unpaired b.unpaired;
  front = capped_sum a.front b.front;
  behind = capped_sum a.behind b.behind;
  removed_front = rows_plus a.removed_front b.removed_front;
  removed_behind = rows_plus a.removed_behind b.removed_behind;
  positions = side_columns_plus a.positions b.positions;
  steps = steps_plus a.steps b.steps;
}
