-- The exit status and the line on standard error for each refusal.
use Rattle.std.specs.Prelude.{◌≡◌, ℕ, Some, List, [], ◌++◌, codes, decimal, unwrap_or}
use Rattle.fq_text.specs.declared.memory.MemoryRefused.{MemoryRefused}
use Rattle.fq_files.specs.declared.files.Cause.{Cause}
use Rattle.fq_pair.specs.declared.out.Out.{Out}
use Rattle.fq_trim.specs.declared.fault.StepFaultKind.{StepFaultKind}
use Rattle.fq_trim.specs.declared.fault.StepFaultKind.TheVariants as step
use Rattle.fq_run_core.specs.declared.settings.BadSetting.{BadSetting}
use Rattle.fq_run_core.specs.declared.settings.BadSetting.TheVariants as setting
use Rattle.fq_app_files.specs.Faults.{memory_words}
use Rattle.fq_app_files.specs.declared.refusal.Refusal.{Refusal}
use Rattle.fq_app_files.specs.declared.refusal.Refusal.TheVariants.{Encoding, Step, Setting, SameName, Source, Target, SameReport, Report, Memory}
use Rattle.fq_app_words.specs.Requests.{Asking, input_name, output_name}

-- the exit status
abbrev pub status_of : Refusal → ℕ
status_of Encoding = 2
status_of (Step fault) = 2
status_of (Setting bad) = 2
status_of (SameName out) = 2
status_of (Source side cause) = 4
status_of (Target out cause) = 4
status_of SameReport = 2
status_of (Report cause) = 4
status_of (Memory refused) = 5

-- memory was refused
abbrev pub IsMemory : Refusal → Type 0
IsMemory refusal = (refused : MemoryRefused) × (refusal ≡ Memory refused)

-- this output was refused, or the report
abbrev pub IsTarget : Out → Refusal → Type 0
IsTarget out refusal = (cause : Cause) × (refusal ≡ Target out cause)

abbrev pub IsReport : Refusal → Type 0
IsReport refusal = (cause : Cause) × (refusal ≡ Report cause)

-- an output or the report is refused only under a name and for a cause of which this holds
abbrev pub IsRefusable : Asking → (List ℕ → Cause → Type 0) → Refusal → Type 0
IsRefusable a P (Target out cause) =
    (name : List ℕ) × (output_name a out ≡ Some name) × P name cause
IsRefusable a P (Report cause) = (name : List ℕ) × (a.report ≡ Some name) × P name cause
IsRefusable a P _ = Unit {0}

abbrev pub step_fault_name : StepFaultKind → List ℕ
step_fault_name step.NoSteps = codes "NoSteps"
step_fault_name step.TooMany = codes "TooMany"
step_fault_name step.Unknown = codes "Unknown"
step_fault_name step.WrongCount = codes "WrongCount"
step_fault_name step.BadNumber = codes "BadNumber"
step_fault_name step.OutOfRange = codes "OutOfRange"

abbrev pub setting_name : BadSetting → List ℕ
setting_name setting.Workers = codes "workers"
setting_name setting.BlockPairs = codes "block"
setting_name setting.Depth = codes "depth"
setting_name setting.Chunk = codes "chunk"
setting_name setting.MaxReads = codes "reads"
setting_name setting.GateTurns = codes "gate"

-- the words of the line on standard error, for this request
abbrev pub words_of : Asking → Refusal → List ℕ
words_of a Encoding = codes "bad encoding: " ++ a.encoding
words_of a (Step fault) =
    codes "bad step " ++ decimal fault.place ++ codes ": " ++ step_fault_name fault.kind
words_of a (Setting bad) = codes "bad setting: " ++ setting_name bad
words_of a (SameName out) = codes "same name: " ++ unwrap_or (output_name a out) []
words_of a (Source side cause) = codes "cannot read " ++ input_name a.inputs side
words_of a (Target out cause) = codes "cannot write " ++ unwrap_or (output_name a out) []
words_of a SameReport = codes "same name: " ++ unwrap_or a.report []
words_of a (Report cause) = codes "cannot write " ++ unwrap_or a.report []
words_of a (Memory refused) = memory_words
