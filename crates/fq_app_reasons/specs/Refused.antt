-- Why a request was refused, in words that say what to change.
use Rattle.std.specs.Prelude.{ℕ, ◌-◌, ◌==◌, ◌||◌, Bool, true, false, nat_eq, Option, Some, None, List, [], ◌++◌, codes, decimal, length, slice_index_or, if◌then◌else◌}
use Rattle.std.specs.List.{before_first, ends_with, list_any}
use Rattle.std.specs.Str.{bytes_eq}
use Rattle.fq_trim.specs.declared.fault.StepFaultKind.{StepFaultKind}
use Rattle.fq_trim.specs.declared.fault.StepFaultKind.TheVariants as step
use Rattle.fq_trim.specs.declared.steps.TheConstants.{MAX_STEPS}
use Rattle.fq_pair.specs.declared.out.Out.{Out}
use Rattle.fq_pair.specs.declared.out.Out.TheVariants.{ForwardPaired, ForwardUnpaired, ReversePaired, ReverseUnpaired, Log}
use Rattle.fq_run_core.specs.declared.settings.BadSetting.{BadSetting}
use Rattle.fq_run_core.specs.declared.settings.BadSetting.TheVariants as setting
use Rattle.fq_run_core.specs.declared.settings.TheConstants.{MOST_WORKERS, MOST_PAIRS, MOST_DEPTH, MOST_BYTES}
use Rattle.fq_app_words.specs.Requests.{Asking}
use Rattle.fq_app_files.specs.declared.refusal.Refusal.{Refusal}
use Rattle.fq_app_files.specs.declared.refusal.Refusal.TheVariants.{Encoding, Step, Setting, SameName, Source, Target, SameReport, Report, Memory}
use Rattle.fq_app_reasons.specs.declared.refused.TheConstants.{STEP_NAMES}
use Rattle.fq_app_reasons.specs.Causes.{source_reason, target_reason}

-- Steps.

-- the argument for a step with this number, counted from 1
abbrev pub step_word : Asking → ℕ → List ℕ
step_word a place = slice_index_or a.steps (place - 1) []

-- the name of the step: the argument up to its first colon
abbrev pub step_name : List ℕ → List ℕ
step_name word = before_first (λ b. b == 58) word

-- the names of steps
abbrev pub step_names : List ℕ
step_names = STEP_NAMES.now

-- how many numbers the step with this name takes
abbrev pub numbers_of : List ℕ → List ℕ
numbers_of name =
    if bytes_eq name (codes "SLIDINGWINDOW") then codes "two numbers"
    else (if bytes_eq name (codes "TOPHRED33") then codes "no number"
    else codes "one number")

-- an example of the step with this name
abbrev pub example_of : List ℕ → List ℕ
example_of name =
    if bytes_eq name (codes "LEADING") then codes "LEADING:3"
    else (if bytes_eq name (codes "TRAILING") then codes "TRAILING:3"
    else (if bytes_eq name (codes "CROP") then codes "CROP:100"
    else (if bytes_eq name (codes "HEADCROP") then codes "HEADCROP:10"
    else (if bytes_eq name (codes "SLIDINGWINDOW") then codes "SLIDINGWINDOW:4:15"
    else (if bytes_eq name (codes "AVGQUAL") then codes "AVGQUAL:20"
    else (if bytes_eq name (codes "MINLEN") then codes "MINLEN:36"
    else codes "TOPHRED33"))))))

-- the argument has a slash, or ends as the names of FASTQ files do
abbrev pub is_like_file : List ℕ → Bool
is_like_file word = list_any (λ b. b == 47) word
    || (ends_with nat_eq word (codes ".fq")
    || (ends_with nat_eq word (codes ".fastq")
    || ends_with nat_eq word (codes ".gz")))

abbrev pub too_many_files : Bool → List ℕ
too_many_files true = codes ". Is there one file name too many?"
too_many_files false = []

-- what the argument must have, with an example of its step
abbrev pub must_have : List ℕ → List ℕ → List ℕ
must_have word what = codes "'" ++ word ++ codes "' must have " ++ what ++ codes ", as "
    ++ example_of (step_name word)

-- what is wrong with this argument, or with the number of arguments
abbrev pub step_reason : Asking → StepFaultKind → List ℕ → List ℕ
step_reason a step.NoSteps word =
    codes "the files must be followed by one step or more, as MINLEN:36"
step_reason a step.TooMany word =
    codes "there are " ++ decimal (length a.steps) ++ codes " steps, and there can be 1 to "
    ++ decimal MAX_STEPS
step_reason a step.Unknown word = codes "'" ++ word ++ codes "' is no step (" ++ step_names
    ++ codes ")" ++ too_many_files (is_like_file word)
step_reason a step.WrongCount word = must_have word (numbers_of (step_name word))
step_reason a step.BadNumber word = must_have word (codes "numbers of 1 to 9 digits")
step_reason a step.OutOfRange word = must_have word (codes "a window of 1 base or more")

-- Settings.

-- the value of an option, and its range
abbrev pub range_words : List ℕ → ℕ → ℕ → List ℕ
range_words option value most = codes "--" ++ option ++ codes " is " ++ decimal value
    ++ codes ", and can be 1 to " ++ decimal most

-- the option that is out of its range; no option changes the last two
abbrev pub setting_reason : Asking → BadSetting → Option (List ℕ)
setting_reason a setting.Workers = Some (range_words (codes "threads") a.threads MOST_WORKERS)
setting_reason a setting.BlockPairs = Some (range_words (codes "block") a.block MOST_PAIRS)
setting_reason a setting.Depth = Some (range_words (codes "depth") a.depth MOST_DEPTH)
setting_reason a setting.Chunk = Some (range_words (codes "chunk") a.chunk MOST_BYTES)
setting_reason a setting.MaxReads = None
setting_reason a setting.GateTurns = None

-- Names.

-- what an output is for
abbrev pub role_of : Out → List ℕ
role_of ForwardPaired = codes "the output of forward paired reads"
role_of ForwardUnpaired = codes "the output of forward unpaired reads"
role_of ReversePaired = codes "the output of reverse paired reads"
role_of ReverseUnpaired = codes "the output of reverse unpaired reads"
role_of Log = codes "the trim log"

-- why the request was refused
abbrev pub refusal_reason : Asking → Refusal → Option (List ℕ)
refusal_reason a Encoding =
    Some (codes "it can be sanger (Phred+33), illumina13 (Phred+64) or solexa")
refusal_reason a (Step fault) = Some (step_reason a fault.kind (step_word a fault.place))
refusal_reason a (Setting bad) = setting_reason a bad
refusal_reason a (SameName out) = Some (codes "it is an input and " ++ role_of out)
refusal_reason a (Source side cause) = Some (source_reason cause)
refusal_reason a (Target out cause) = Some (target_reason a.inputs cause)
refusal_reason a SameReport = Some (codes "it is an input and the report")
refusal_reason a (Report cause) = Some (target_reason a.inputs cause)
refusal_reason a (Memory refused) = Some (codes "it was refused before a pair was trimmed")
