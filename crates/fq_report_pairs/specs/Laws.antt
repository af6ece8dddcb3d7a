-- What ties a tally to what is written of the same pairs.
use Rattle.std.specs.Prelude.{◌≡◌, List, length}
use Rattle.fq_text.specs.Grammar.{Read}
use Rattle.fq_trim.specs.declared.step.Step.{Step}
use Rattle.fq_trim.specs.KeptPlaces as of_steps
use Rattle.fq_trim.specs.KeptPlaces.{kept_places}
use Rattle.fq_report_reads.specs.Courses.{one_list, alone, part_at, whole, course, survives}

-- steps, each in a list of its own, are these steps
abbrev pub AloneAreAll : Type 0
AloneAreAll = (steps : List Step) → one_list (alone steps) ≡ steps

-- what lists of steps leave in turn is what they leave as one list
abbrev pub LeavesTheSame : Type 0
LeavesTheSame = (lists : List (List Step)) (read : Read) → length read.qual ≡ length read.seq →
    (course lists read).left ≡ part_at (kept_places (one_list lists) read) (whole read)

-- and a read survives them in turn if and only if it survives them as one list
abbrev pub SurvivesTheSame : Type 0
SurvivesTheSame = (lists : List (List Step)) (read : Read) → length read.qual ≡ length read.seq →
    survives (course lists read).left ≡ of_steps.survives (one_list lists) read
