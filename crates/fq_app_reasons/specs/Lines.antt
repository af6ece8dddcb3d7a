-- The lines on standard error, with a reason if one is asked for and known.
use Rattle.std.specs.Prelude.{ℕ, Bool, true, false, Option, Some, None, List, [], ◌++◌, codes, unwrap_or}
use Rattle.std.specs.Option.{option_map}
use Rattle.fq_text.specs.Written.{line}
use Rattle.fq_text.specs.declared.seen.SystemError.{SystemError}
use Rattle.fq_run_core.specs.declared.outcome.Outcome.{Outcome}
use Rattle.fq_run_core.specs.declared.outcome.Outcome.TheVariants.{Finished}
use Rattle.fq_app_words.specs.Requests.{Asking}
use Rattle.fq_app_files.specs.Faults.{settled, memory_words, outcome_words, outcome_line}
use Rattle.fq_app_files.specs.Refusals.{words_of}
use Rattle.fq_app_files.specs.declared.refusal.Refusal.{Refusal}
use Rattle.fq_app_files.specs.declared.seeing.EndingSeen.{EndingSeen}
use Rattle.fq_app_reasons.specs.Refused.{refusal_reason}
use Rattle.fq_app_reasons.specs.Ended.{written_reason, ending_reason}

-- the words of a line, and the reason after them if lines are to say why
abbrev pub explained : Bool → List ℕ → Option (List ℕ) → List ℕ
explained true words (Some reason) = words ++ codes ": " ++ reason
explained true words None = words
explained false words reason = words

-- the line of a refusal of this request
abbrev pub line_of : Asking → Refusal → List ℕ
line_of a why = line (explained a.explain (words_of a why) (refusal_reason a why))

abbrev pub ending_line_when : Asking → EndingSeen → Outcome → List ℕ
ending_line_when a seen Finished = []
ending_line_when a seen outcome =
    line (explained a.explain (outcome_words outcome) (ending_reason a seen outcome))

-- the line of an outcome of this request, for what can be said of it; empty
-- if the run finished
abbrev pub ending_line : Asking → EndingSeen → Outcome → List ℕ
ending_line a seen outcome = ending_line_when a seen (settled outcome)

-- the same, also of a run that nobody asked for, as that of the example
abbrev pub line_for : Option Asking → EndingSeen → Outcome → List ℕ
line_for (Some a) seen outcome = ending_line a seen outcome
line_for None seen outcome = outcome_line outcome

-- why the report could not be written, for what its device can say
abbrev pub report_reason : Asking → Option SystemError → List ℕ
report_reason a error = written_reason (unwrap_or a.report []) error

-- the line of a report that could not be written; it has no reason if memory for that was refused
abbrev pub report_line : Asking → Option (Option SystemError) → List ℕ
report_line a said =
    line (explained a.explain (codes "write failed: report") (option_map (report_reason a) said))

-- what was known when memory for the report was refused
abbrev pub report_memory_reason : List ℕ
report_memory_reason = codes "it was refused for the report; the outputs are written"

-- the line of a report for which memory was refused
abbrev pub report_memory_line : Asking → List ℕ
report_memory_line a = line (explained a.explain memory_words (Some report_memory_reason))
