-- What is counted of pairs and of what steps leave of them. Sums saturate at the largest u64.
use Rattle.std.specs.Prelude.{List, fold}
use Rattle.fq_trim.specs.declared.step.Step.{Step}
use Rattle.fq_pair.specs.Mates.{Mates}
use Rattle.fq_report_reads.specs.Courses.{course, survives}
use Rattle.fq_report_reads.specs.SideTallies.{no_side, with_read, side_plus}
use Rattle.fq_report_pairs.specs.declared.tally.Tally.{Tally}

abbrev pub no_tally : Tally
no_tally = record { forward = no_side; reverse = no_side }

abbrev pub with_pair : List (List Step) → Tally → Mates → Tally
with_pair lists t m = record {
  forward = with_read m.forward (course lists m.forward)
      (survives (course lists m.reverse).left) t.forward;
  reverse = with_read m.reverse (course lists m.reverse)
      (survives (course lists m.forward).left) t.reverse;
}

abbrev pub tally_of : List (List Step) → List Mates → Tally
tally_of lists pairs = fold (with_pair lists) no_tally pairs

abbrev pub plus : Tally → Tally → Tally
plus a b = record {
  forward = side_plus a.forward b.forward;
  reverse = side_plus a.reverse b.reverse;
}
