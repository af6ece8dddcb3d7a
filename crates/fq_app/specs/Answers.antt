-- How a call of the program ends.
use Rattle.std.specs.Prelude.{◌≡◌, ◌≢◌, ◌⊎◌, ℕ, ◌<◌, Bool, IsTrue, IsSome, is_some, Option, Some, None, List, [], ◌++◌, codes, length, take}
use Rattle.std.specs.List.{All}
use Rattle.fq_text.specs.Devices.{OutletState}
use Rattle.fq_text.specs.Written.{line}
use Rattle.fq_text.specs.declared.memory.MemoryRefused.{MemoryRefused}
use Rattle.fq_text.specs.declared.seen.SystemError.{SystemError}
use Rattle.fq_files.specs.Holding.{Holding, IsUnchanged}
use Rattle.fq_files.specs.States.{FilesState, MaySay}
use Rattle.fq_app_files.specs.Opening.{MayRefuseName}
use Rattle.fq_pair.specs.declared.counts.Counts.{Counts}
use Rattle.fq_pair.specs.declared.side.Side.{Side}
use Rattle.fq_pair.specs.Summaries.{summary_of}
use Rattle.fq_run.specs.Outcome.{Outcome}
use Rattle.fq_run.specs.Outcome.TheVariants.{Lane, Gate}
use Rattle.clap.specs.Kinds.{Kinds}
use Rattle.clap.specs.declared.error.kind.ErrorKind.{ErrorKind}
use Rattle.clap.specs.declared.error.kind.ErrorKind.TheVariants.{DisplayHelp, DisplayVersion}
use Rattle.fq_app_files.specs.declared.refusal.Refusal.{Refusal}
use Rattle.fq_app_words.specs.Requests.{Asking, input_name}
use Rattle.fq_app_files.specs.Judging.{wrong_with}
use Rattle.fq_app_files.specs.Refusals.{status_of, IsRefusable}
use Rattle.fq_app_files.specs.Faults.{memory_words, settled, outcome_status, outcome_line}
use Rattle.fq_app_reasons.specs.Lines.{line_of, ending_line, report_line, report_memory_line}
use Rattle.fq_app_files.specs.Trimming.{filed, AreInputsTold, IsNoOutput, TrimsFiles}
use Rattle.fq_app_files.specs.Leaving.{RefusalLeaves, ReportLeft, HoldFirstPairs, AreLeft, TellsInputs}
use Rattle.fq_app_files.specs.Completing.{HasFailed, ReportFailed}
use Rattle.fq_app_files.specs.Reporting.{HoldsReport, BeginsReport}
use Rattle.fq_app_files.specs.Seeing.{IsItsError, IsSaid}
use Rattle.fq_app_files.specs.declared.seeing.EndingSeen.{EndingSeen}
use Rattle.fq_app_files.specs.declared.reporting.Reported.{Reported}
use Rattle.fq_app_files.specs.declared.reporting.Reported.TheVariants as report

-- A device in a call: whether its bytes are known to the proof, those that it had taken before the
-- call and has taken after it, and how often it has failed.
pub record Device : Type 0 where
  pub tells : Bool
  pub before : List ℕ
  pub after : List ℕ
  pub failures : ℕ

abbrev pub device_of : {D : Type 0} → (D → OutletState) → D → D → Device
device_of state old new = record {
  tells = is_some (state old).file;
  before = (state old).taken;
  after = (state new).taken;
  failures = (state new).failures;
}

-- if it has not failed, it took this text and nothing else
abbrev pub TookText : Device → List ℕ → Type 0
TookText d text = IsTrue d.tells → d.failures ≡ 0 → d.after ≡ d.before ++ text

-- if it has not failed, it took a line or more, and nothing else
abbrev pub TookLines : Device → Type 0
TookLines d = (words : List ℕ) × TookText d (line words)

-- it took this text, or, if it has failed, a first part of it that is not the whole
pub record TookPart (d : Device) (text : List ℕ) : Type 0 where
  pub whole : TookText d text
  pub part : IsTrue d.tells → d.failures ≢ 0 →
      (count : ℕ) × (count < length text) × (d.after ≡ d.before ++ take count text)

-- The pairs of the inputs were trimmed into the files of the outputs, up to the end of the inputs
-- or a fault in them. The summary of their counts went to standard output. The line of the outcome,
-- which has this status, went to standard error. Its reason is what the input that it names looks
-- like.
pub record EndsWhole (a : Asking) (old new : FilesState) (out err : Device) (status : ℕ) :
    Type 0 where
  pub outcome : Outcome
  pub counts : Counts
  pub seen : EndingSeen
  pub trims : TrimsFiles (filed old a) old.tells old.bytes new.bytes outcome counts
  pub said : IsSaid old.looks (filed old a) old.bytes (settled outcome) seen
  pub status_is : outcome_status outcome ≡ status
  pub printed : TookPart out (summary_of counts)
  pub told : TookText err (ending_line a seen outcome)

abbrev pub memory_line : List ℕ
memory_line = line memory_words

abbrev pub print_line : List ℕ
print_line = line (codes "cannot print")

-- standard error took the line of a report that could not be written, for what its device said; or,
-- if memory for that was refused, without a reason
abbrev pub TookReportLine : Asking → Option SystemError → Device → Type 0
TookReportLine a said err = TookText err (report_line a (Some said))
    ⊎ TookText err (report_line a None)

-- memory was refused, and standard error took the line for it
pub record LacksMemory (err : Device) (status : ℕ) : Type 0 where
  pub status_is : status ≡ 5
  pub told : TookText err memory_line

-- standard error took the line for refused memory, without a reason or with one
abbrev pub TookMemoryLine : Device → Type 0
TookMemoryLine err = TookText err memory_line
    ⊎ ((reason : List ℕ) × TookText err (line (memory_words ++ codes ": " ++ reason)))

-- What standard error takes, and what the files of the outputs hold then.

-- a refusal of the request has this status and this line
pub record IsRefusal (a : Asking)
    (old new : FilesState) (status : ℕ) (text : List ℕ) : Type 0 where
  pub why : Refusal
  pub status_is : status_of why ≡ status
  pub text_is : line_of a why ≡ text
  pub left : RefusalLeaves (filed old a) old.tells why old.bytes new.bytes
  pub report_left : (file : List ℕ) → (filed old a).report ≡ Some file →
      IsTrue (old.tells file) → IsNoOutput (filed old a) file →
      ReportLeft why (old.bytes file) (new.bytes file)

-- an outcome of the run, which no gate ended, has this status and this line, whose reason is what
-- the device can say that the outcome names
pub record IsEnding (a : Asking)
    (old new : FilesState) (status : ℕ) (text : List ℕ) : Type 0 where
  pub outcome : Outcome
  pub seen : EndingSeen
  pub status_is : outcome_status outcome ≡ status
  pub text_is : ending_line a seen outcome ≡ text
  pub no_gate : outcome ≢ Gate
  pub said : AreInputsTold (filed old a).inputs old.tells →
      IsSaid old.looks (filed old a) old.bytes (settled outcome) seen
  pub its_error : IsItsError (filed old a) old.may_say outcome seen
  pub left : AreInputsTold (filed old a).inputs old.tells → outcome ≢ Lane →
      HoldFirstPairs (filed old a) old.tells old.bytes new.bytes outcome
  pub unreported : outcome_status outcome ≢ 0 → outcome_status outcome ≢ 3 → (file : List ℕ) →
      (filed old a).report ≡ Some file → IsTrue (old.tells file) → new.bytes file ≡ Some []

-- all pairs were trimmed, and standard output failed, so the summary was not printed
pub record IsUnprinted (a : Asking)
    (old new : FilesState) (out : Device) (status : ℕ) (text : List ℕ) : Type 0 where
  pub status_is : status ≡ 4
  pub failed : out.failures ≢ 0
  pub text_is : text ≡ print_line
  pub left : AreInputsTold (filed old a).inputs old.tells →
      (outcome : Outcome) × (counts : Counts) × (outcome_status outcome ≡ 0)
      × TrimsFiles (filed old a) old.tells old.bytes new.bytes outcome counts
  pub reported : AreInputsTold (filed old a).inputs old.tells → (file : List ℕ) →
      (filed old a).report ≡ Some file → IsTrue (old.tells file) →
      HoldsReport a (filed old a) old.bytes new.bytes file

-- all pairs were trimmed, up to the end of the inputs or a fault in them, and the report could not
-- be written, for what its device said
pub record IsUnreported (a : Asking)
    (old new : FilesState) (status : ℕ) (text : List ℕ) : Type 0 where
  pub said : SystemError
  pub its_error : MaySay old.may_say (filed old a).report (Some said)
  pub status_is : status ≡ 4
  pub text_is : (text ≡ report_line a (Some (Some said))) ⊎ (text ≡ report_line a None)
  pub left : AreInputsTold (filed old a).inputs old.tells →
      (outcome : Outcome) × (counts : Counts)
      × TrimsFiles (filed old a) old.tells old.bytes new.bytes outcome counts
  pub begun : AreInputsTold (filed old a).inputs old.tells → (file : List ℕ) →
      (filed old a).report ≡ Some file → IsTrue (old.tells file) →
      BeginsReport a (filed old a) old.bytes new.bytes file

-- the file of the report holds what it held before, or nothing, or the whole report
abbrev pub IsReportUncut : Asking → Asking → Holding → Holding → List ℕ → Type 0
IsReportUncut a f old new file = ((new file ≡ old file) ⊎ (new file ≡ Some []))
    ⊎ HoldsReport a f old new file

-- memory for the line, the summary or the report was refused
pub record IsUntold (a : Asking)
    (old new : FilesState) (status : ℕ) (text : List ℕ) : Type 0 where
  pub status_is : status ≡ 5
  pub text_is : (text ≡ memory_line) ⊎ (text ≡ report_memory_line a)
  pub left : AreInputsTold (filed old a).inputs old.tells →
      AreLeft (filed old a) old.tells old.bytes new.bytes
  pub report_left : AreInputsTold (filed old a).inputs old.tells → (file : List ℕ) →
      (filed old a).report ≡ Some file → IsTrue (old.tells file) →
      IsReportUncut a (filed old a) old.bytes new.bytes file

-- standard error took the line of one of these, which has this status, and nothing else
pub record TookLine (a : Asking)
    (old new : FilesState) (out err : Device) (status : ℕ) : Type 0 where
  pub text : List ℕ
  pub fits : (IsRefusal a old new status text ⊎ IsEnding a old new status text)
      ⊎ (IsUnprinted a old new out status text
      ⊎ (IsUntold a old new status text ⊎ IsUnreported a old new status text))
  pub took : TookText err text

-- standard output failed, and standard error took the line for that
abbrev pub LacksPrint : Device → Device → ℕ → Type 0
LacksPrint out err status = (out.failures ≢ 0) × (status ≡ 4) × TookText err print_line

-- standard error took the line of the outcome, which is given; or all pairs were trimmed, and it
-- took the line for a summary that was not printed; or memory was refused for either
abbrev pub Reports : List ℕ → Outcome → Device → Device → ℕ → Type 0
Reports text outcome out err status =
    ((status ≡ outcome_status outcome) × TookText err text)
    ⊎ (((outcome_status outcome ≡ 0) × LacksPrint out err status)
    ⊎ ((outcome ≢ Lane) × LacksMemory err status))

-- `Reports` holds if the report was written or none was due; otherwise standard error took the line
-- for a report that was not written, for what its device said, or for which memory was refused
abbrev pub Tells : Asking → EndingSeen → Outcome → Reported → Option SystemError → Device →
    Device → ℕ → Type 0
Tells a seen outcome reported said out err status =
    (((reported ≡ report.NotDue) ⊎ (reported ≡ report.Written))
    × Reports (ending_line a seen outcome) outcome out err status)
    ⊎ (((reported ≡ report.Failed) × (status ≡ 4) × TookReportLine a said err)
    ⊎ (((refused : MemoryRefused) × (reported ≡ report.OutOfMemory refused))
    × (status ≡ 5) × TookText err (report_memory_line a)))

-- standard error took the line of the refusal, or memory was refused for that line
abbrev pub Refuses : Asking → Refusal → Device → ℕ → Type 0
Refuses a why err status = ((status ≡ status_of why) × TookText err (line_of a why))
    ⊎ LacksMemory err status

-- At status 4 standard error names what was refused or has failed.

-- a file was refused: an input that does not exist or is an input already, or an output or a report
-- that may be refused, was an input before the call, or is one of the call under another name
pub record NamesRefused (a : Asking) (old : FilesState) (err : Device) : Type 0 where
  pub why : Refusal
  pub status_is : status_of why ≡ 4
  pub told : TookText err (line_of a why)
  pub inputs : AreInputsTold (filed old a).inputs old.tells →
      TellsInputs (filed old a).inputs why old
  pub refused : IsRefusable a (MayRefuseName a.inputs (filed old a).inputs old) why

-- a device of that name has failed, and may say the error that is told, or the input of that side
-- is endless
pub record NamesFailed (a : Asking) (old new : FilesState) (err : Device) : Type 0 where
  pub outcome : Outcome
  pub seen : EndingSeen
  pub status_is : outcome_status outcome ≡ 4
  pub told : TookText err (ending_line a seen outcome)
  pub has_failed : HasFailed (filed old a) old new outcome
  pub its_error : IsItsError (filed old a) old.may_say outcome seen
  pub as_it_is : AreInputsTold (filed old a).inputs old.tells → settled outcome ≡ outcome

-- the report's device has failed, and may say the error that is told
pub record NamesReport (a : Asking) (old new : FilesState) (err : Device) : Type 0 where
  pub said : SystemError
  pub told : TookReportLine a (Some said) err
  pub has_failed : ReportFailed (filed old a) new
  pub its_error : MaySay old.may_say (filed old a).report (Some said)

-- the line names a refused file, a failed device or an endless input; or standard output or the
-- report's device has failed
abbrev pub NamesDevice : Asking → FilesState → FilesState → Device → Device → Type 0
NamesDevice a old new out err =
    NamesRefused a old err
    ⊎ (NamesFailed a old new err
    ⊎ (((out.failures ≢ 0) × TookText err print_line)
    ⊎ NamesReport a old new err))

-- the file of the report holds what it held before, or nothing, or a first part of the defined
-- report
abbrev pub IsReportLeft : Asking → Asking → Holding → Holding → List ℕ → Type 0
IsReportLeft a f old new file = ((new file ≡ old file) ⊎ (new file ≡ Some []))
    ⊎ BeginsReport a f old new file

-- How a call with a request ends: the pairs are trimmed, or the request is refused.
pub record PairsAnswered (a : Asking)
    (old new : FilesState) (out err : Device) (status : ℕ) : Type 0 where
  pub whole : (status ≡ 0) ⊎ (status ≡ 3) → AreInputsTold (filed old a).inputs old.tells →
      EndsWhole a old new out err status
  pub wrong : (why : Refusal) → wrong_with a ≡ Some why → Refuses a why err status
  pub right : status ≡ 2 → IsSome (wrong_with a)
  pub line : status ≢ 0 → TookLine a old new out err status
  pub known : status ≢ 1
  pub left : status ≢ 6 → AreInputsTold (filed old a).inputs old.tells →
      AreLeft (filed old a) old.tells old.bytes new.bytes
  pub reported : (status ≡ 0) ⊎ (status ≡ 3) → AreInputsTold (filed old a).inputs old.tells →
      (file : List ℕ) → (filed old a).report ≡ Some file → IsTrue (old.tells file) →
      HoldsReport a (filed old a) old.bytes new.bytes file
  pub report_left : AreInputsTold (filed old a).inputs old.tells → (file : List ℕ) →
      (filed old a).report ≡ Some file → IsTrue (old.tells file) →
      IsReportLeft a (filed old a) old.bytes new.bytes file
  pub unopened : (side : Side) → IsTrue (old.tells (input_name (filed old a).inputs side)) →
      old.bytes (input_name (filed old a).inputs side) ≡ None →
      IsUnchanged old.bytes new.bytes

-- Why the example was not printed: standard output failed, memory was refused, a thread was
-- refused, or a lane was not confirmed.
abbrev pub IsUnshown : Device → Device → ℕ → Type 0
IsUnshown out err status =
    LacksPrint out err status
    ⊎ (LacksMemory err status
    ⊎ ((outcome : Outcome) × (outcome_status outcome ≡ 6)
    × (status ≡ 6) × TookText err (outcome_line outcome)))

-- a call for help or for the version
abbrev pub IsCall : ErrorKind → Type 0
IsCall kind = (kind ≡ DisplayHelp) ⊎ (kind ≡ DisplayVersion)

-- arguments that are such a call, and nothing else
pub record AreCalls (kinds : Kinds) : Type 0 where
  pub some : kinds ≢ []
  pub all : All IsCall kinds

-- arguments that are refused, and are not such a call
pub record AreRefused (kinds : Kinds) : Type 0 where
  pub some : kinds ≢ []
  pub no_help : All (λ kind. (kind ≢ DisplayHelp) × (kind ≢ DisplayVersion)) kinds
