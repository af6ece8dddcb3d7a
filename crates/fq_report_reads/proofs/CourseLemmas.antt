-- One list of steps of several, on what is left of a read.
use Rattle.std.proofs.Common.{◌≡◌, ℕ, suc, ◌+◌, List, [], ◌∷◌, ◌++◌, length, take, drop, refl, ap}
use Rattle.fq_text.specs.declared.encoding.Encoding.{Encoding}
use Rattle.fq_trim.specs.declared.step.Step.{Step}
use Rattle.fq_report_reads.specs.Courses.{Part, Course, alone}

-- bases and their quality bytes as a part of a read
abbrev pub part : Encoding → List ℕ → List ℕ → Part
part encoding seq qual = record { encoding = encoding; seq = seq; qual = qual }

-- the part from a place on
abbrev pub cut : ℕ → ℕ → Part → Part
cut start n p = record {
  encoding = p.encoding;
  seq = take n (drop start p.seq);
  qual =
      take n (drop start p.qual);
}

-- a course that goes on after so many bases were removed and these lists shortened the read
abbrev pub goes_on : ℕ → List ℕ → Course → Course
goes_on front shortened course = record {
  left = course.left;
  front = front + course.front;
  shortened = shortened ++ course.shortened;
  dropped = course.dropped;
}

-- steps, each in a list of its own
pub alone_length : (steps : List Step) → length (alone steps) ≡ length steps
alone_length [] = refl
alone_length (step ∷ steps) = ap suc (alone_length steps)
