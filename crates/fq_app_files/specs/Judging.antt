-- What is wrong with a request, before a file is opened.
use Rattle.std.specs.Prelude.{◌^◌, ℕ, Bool, true, false, Option, Some, None, Result, Ok, Err, List}
use Rattle.fq_text.specs.declared.encoding.Encoding.{Encoding}
use Rattle.fq_text.specs.Scores.{encoding_of}
use Rattle.fq_trim.specs.declared.step.Step.{Step}
use Rattle.fq_trim.specs.declared.fault.StepFault.{StepFault}
use Rattle.fq_trim.specs.Words.{steps_of}
use Rattle.fq_pair.specs.declared.out.Out.{Out}
use Rattle.fq_run_core.specs.Choices.{Choices, checked, tallying}
use Rattle.fq_run_core.specs.declared.settings.BadSetting.{BadSetting}
use Rattle.fq_app_words.specs.Requests.{Asking, same_name, report_is_input}
use Rattle.fq_app_files.specs.declared.refusal.Refusal.{Refusal}
use Rattle.fq_app_files.specs.declared.refusal.Refusal.TheVariants as why

-- the choices of the request, with these steps in this encoding
abbrev pub choices_of : Asking → Encoding → List Step → Choices
choices_of a encoding steps = record {
  encoding = encoding;
  steps = steps;
  check_names = a.check_names;
  workers = a.threads;
  block_pairs = a.block;
  depth = a.depth;
  chunk = a.chunk;
  max_reads = 2 ^ 40;
  gate_turns = 2 ^ 40;
  tallied = false;
}

-- the choices, with a tally if a report is asked for, or the setting that is out of its range
abbrev pub judged : Result Choices BadSetting → Option (List ℕ) → Result Choices Refusal
judged (Ok choices) None = Ok choices
judged (Ok choices) (Some report) = Ok (tallying choices)
judged (Err bad) report = Err (why.Setting bad)

-- the choices with these steps, or what is wrong
abbrev pub with_steps : Asking → Encoding → Result (List Step) StepFault → Result Choices Refusal
with_steps a encoding (Ok steps) = judged (checked (choices_of a encoding steps)) a.report
with_steps a encoding (Err fault) = Err (why.Step fault)

abbrev pub with_encoding : Asking → Option Encoding → Result Choices Refusal
with_encoding a (Some encoding) = with_steps a encoding (steps_of a.steps)
with_encoding a None = Err why.Encoding

-- the settings of a run, or the first fault in the order encoding, steps, numbers
abbrev pub settings_of : Asking → Result Choices Refusal
settings_of a = with_encoding a (encoding_of a.encoding)

abbrev pub wrong_among : Result Choices Refusal → Option Out → Bool → Option Refusal
wrong_among (Err why) same same_report = Some why
wrong_among (Ok choices) (Some out) same_report = Some (why.SameName out)
wrong_among (Ok choices) None true = Some why.SameReport
wrong_among (Ok choices) None false = None

-- the first fault of a request, in the order encoding, steps, numbers, names
abbrev pub wrong_with : Asking → Option Refusal
wrong_with a = wrong_among (settings_of a) (same_name a) (report_is_input a)
