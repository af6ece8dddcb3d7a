use Rattle.std.proofs.Common.{◌≡◌, ◌-◌, ◌≤◌, length, take, drop}
use Rattle.fq_trim.specs.Keeping.{scores, places, kept_of}
use Rattle.fq_trim.specs.KeptPlaces.{kept_places}
use Rattle.fq_report_reads.specs.Courses.{alone, whole, course, course_of}
use Rattle.fq_report_reads.proofs.CourseLemmas.{cut, goes_on}
use Rattle.fq_report_reads.proofs.trimmed.Trimmed.new.Given as goal

-- the steps to come, on what is left, complete what all do to the whole
abbrev pub invariant-loop-number : goal.invariant-loop-number
invariant-loop-number l = record {
  order : l.start ≤ l.stop;
  within : l.stop ≤ length l.read.qual;
  few : l.count ≤ l.number;
  room : length l.shortened ≡ 64;
  kept : kept_of (drop l.number l.steps) (scores l.read.encoding l.read.qual)
      (places l.start (l.stop - l.start)) ≡ kept_places l.steps l.read;
  course : goes_on l.start (take l.count l.shortened)
      (course_of l.number (drop l.number (alone l.steps))
      (cut l.start (l.stop - l.start) (whole l.read)))
      ≡ course (alone l.steps) l.read;
}
