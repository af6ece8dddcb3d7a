-- The exit status and the line on standard error for each outcome of a run.
use Rattle.std.specs.Prelude.{ℕ, Some, unwrap_or, List, [], ◌++◌, codes, decimal}
use Rattle.fq_text.specs.Written.{line}
use Rattle.fq_text.specs.Sources.{fault_name, faulty_record}
use Rattle.fq_pair.specs.declared.side.Side.{Side}
use Rattle.fq_pair.specs.declared.fault.InputFault.{InputFault}
use Rattle.fq_pair.specs.declared.fault.InputFault.TheVariants.{Text, MateMissing, NamesDiffer}
use Rattle.fq_pair.specs.Summaries.{side_name, out_name}
use Rattle.fq_run_core.specs.declared.outcome.Outcome.{Outcome}
use Rattle.fq_run_core.specs.declared.outcome.Outcome.TheVariants.{Spawn, Lane, Gate, Memory, Write, Read, Endless, Input, Finished}
use Rattle.fq_run_core.specs.Outcomes.{end_of}

-- The outcome to report: a text that could not be read to its end has no fault of its own.
abbrev pub settled : Outcome → Outcome
settled (Input fault) = end_of (Some fault)
settled Spawn = Spawn
settled Lane = Lane
settled Gate = Gate
settled Memory = Memory
settled (Write out) = Write out
settled (Read side) = Read side
settled (Endless side) = Endless side
settled Finished = Finished

-- Exit statuses: 0 finished, 3 a fault in the input, 4 a device, 5 memory, 6 threads.
abbrev pub status_when : Outcome → ℕ
status_when Finished = 0
status_when (Input fault) = 3
status_when (Write out) = 4
status_when (Read side) = 4
status_when (Endless side) = 4
status_when Memory = 5
status_when Spawn = 6
status_when Lane = 6
status_when Gate = 6

abbrev pub outcome_status : Outcome → ℕ
outcome_status outcome = status_when (settled outcome)

-- a fault in one side's record
abbrev pub at_record : Side → ℕ → List ℕ → List ℕ
at_record side k kind =
    codes "input: " ++ side_name side ++ codes " record " ++ decimal k ++ codes ": " ++ kind

abbrev pub input_words : InputFault → List ℕ
input_words (Text side fault) =
    at_record side (unwrap_or (faulty_record fault) 0) (fault_name fault)
input_words (MateMissing side k) = at_record side k (codes "MateMissing")
input_words (NamesDiffer k) = codes "input: record " ++ decimal k ++ codes ": NamesDiffer"

-- the line for refused memory, anywhere in the program
abbrev pub memory_words : List ℕ
memory_words = codes "out of memory"

-- the words of the line of an outcome; none if the run finished
abbrev pub outcome_words : Outcome → List ℕ
outcome_words Spawn = codes "cannot start a thread"
outcome_words Lane = codes "lane not confirmed"
outcome_words Gate = codes "gate closed"
outcome_words Memory = memory_words
outcome_words (Write out) = codes "write failed: " ++ out_name out
outcome_words (Read side) = codes "read failed: " ++ side_name side
outcome_words (Endless side) = codes "endless input: " ++ side_name side
outcome_words (Input fault) = input_words fault
outcome_words Finished = []

-- The line of an outcome with its line end; empty if the run finished.
abbrev pub line_when : Outcome → List ℕ
line_when Finished = []
line_when outcome = line (outcome_words outcome)

abbrev pub outcome_line : Outcome → List ℕ
outcome_line outcome = line_when (settled outcome)
