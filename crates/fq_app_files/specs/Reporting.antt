-- The report of a run: what it says, and what its file holds.
use Rattle.std.specs.Prelude.{◌≡◌, ◌≢◌, ◌⊎◌, ℕ, IsTrue, IsSome, IfSome, is_some, Option, Some, None, Ok, List, [], ◌++◌, codes, take}
use Rattle.fq_text.specs.declared.encoding.Encoding.{Encoding}
use Rattle.fq_text.specs.Devices.{OutletState}
use Rattle.fq_pair.specs.declared.counts.Counts.{Counts}
use Rattle.fq_pair.specs.Pairing.{Pairs}
use Rattle.fq_pair.specs.Outputs.{counts_of}
use Rattle.fq_report_reads.specs.Courses.{alone}
use Rattle.fq_report_pairs.specs.declared.tally.Tally.{Tally}
use Rattle.fq_report_pairs.specs.Tallies.{tally_of}
use Rattle.fq_run_core.specs.Choices.{Choices}
use Rattle.fq_run_core.specs.declared.outcome.Outcome.{Outcome}
use Rattle.fq_run_core.specs.declared.outcome.Outcome.TheVariants.{Input}
use Rattle.fq_run_core.specs.Endings.{trimmed_outcome}
use Rattle.fq_files.specs.Holding.{Holding}
use Rattle.fq_files.specs.States.{FilesState}
use Rattle.fq_report.specs.Facts as facts
use Rattle.fq_report.specs.Reports.{text_of}
use Rattle.fq_app_words.specs.Requests.{Asking}
use Rattle.fq_app_files.specs.Faults.{settled, outcome_status, input_words}
use Rattle.fq_app_files.specs.Judging.{settings_of}
use Rattle.fq_app_files.specs.Trimming.{pairs_of}
use Rattle.fq_app_files.specs.declared.account.Account.{Account}
use Rattle.fq_app_files.specs.declared.reporting.Reported.{Reported}
use Rattle.fq_app_files.specs.declared.reporting.Reported.TheVariants.{NotDue, Written, Failed}

-- What the report says.

-- the words of a fault in the inputs, without a line end
abbrev pub words_when : Outcome → Option (List ℕ)
words_when (Input fault) = Some (input_words fault)
words_when _ = None

abbrev pub fault_words : Outcome → Option (List ℕ)
fault_words outcome = words_when (settled outcome)

-- what was asked for and counted, with the words of the steps and of the fault
abbrev pub asked_facts : Asking → Encoding → List (List ℕ) → Option (List ℕ) → Counts → Tally →
    facts.Facts
asked_facts a encoding steps fault counts tally = record {
  program = codes "fq_prog";
  version = codes "2.0.0";
  inputs = a.inputs;
  forward_paired = a.forward_paired;
  forward_unpaired = a.forward_unpaired;
  reverse_paired = a.reverse_paired;
  reverse_unpaired = a.reverse_unpaired;
  log = a.log;
  encoding = encoding;
  check_names = a.check_names;
  steps = steps;
  fault = fault;
  counts = counts;
  tally = tally;
}

-- what was asked for and counted, and how the run ended
abbrev pub run_facts : Asking → Encoding → Outcome → Counts → Tally → facts.Facts
run_facts a encoding outcome counts tally =
    asked_facts a encoding a.steps (fault_words outcome) counts tally

-- the report of these pairs: their counts, their tally, and the fault after them
abbrev pub report_of : Asking → Choices → Pairs → List ℕ
report_of a c all = text_of (run_facts a c.encoding
    (trimmed_outcome all.fault) (counts_of c.steps all.mates) (tally_of (alone c.steps) all.mates))

-- the report that is defined for the bytes of the inputs and for the request; given are the names,
-- and the files that they lead to
pub record IsReport (a f : Asking) (old : Holding) (text : List ℕ) : Type 0 where
  pub choices : Choices
  pub forward : List ℕ
  pub reverse : List ℕ
  pub settings : settings_of a ≡ Ok choices
  pub forward_is : old f.inputs.forward ≡ Some forward
  pub reverse_is : old f.inputs.reverse ≡ Some reverse
  pub text_is : text ≡ report_of a choices (pairs_of choices a.inputs.form forward reverse)

-- What the file of the report holds.

-- the file holds the whole report
pub record HoldsReport (a f : Asking) (old new : Holding) (file : List ℕ) : Type 0 where
  pub text : List ℕ
  pub is : IsReport a f old text
  pub held : new file ≡ Some text

-- the file holds a first part of the report
pub record BeginsReport (a f : Asking) (old new : Holding) (file : List ℕ) : Type 0 where
  pub text : List ℕ
  pub count : ℕ
  pub is : IsReport a f old text
  pub held : new file ≡ Some (take count text)

-- what the file holds; it is empty if no report was due or memory was refused
abbrev pub ReportHeld : Reported → Asking → Asking → Holding → Holding → List ℕ → Type 0
ReportHeld Written a f old new file = HoldsReport a f old new file
ReportHeld Failed a f old new file = BeginsReport a f old new file
ReportHeld _ a f old new file = new file ≡ Some []

-- How the report is written.

-- The report's outlet, if a report was asked for: its file exists, and it has not failed.
pub record IsReportOpen (a : Asking)
    (files : FilesState) (report : Option OutletState) : Type 0 where
  pub there : is_some report ≡ is_some a.report
  pub fresh : IfSome report (λ outlet. outlet.failures ≡ 0)
  pub held : (name : List ℕ) → a.report ≡ Some name → IsTrue (files.tells name) →
      IsSome (files.bytes name)

-- each name that is not the report's holds what it held before
abbrev pub KeepsOutputs : Asking → FilesState → FilesState → Type 0
KeepsOutputs a old new = (name : List ℕ) → a.report ≢ Some name → new.bytes name ≡ old.bytes name

-- the text of the report of a run that has a tally
pub record IsTextOf (a : Asking) (encoding : Encoding)
    (account : Account) (text : List ℕ) : Type 0 where
  pub tally : Tally
  pub tallied : account.tally ≡ Some tally
  pub text_is : text ≡ text_of (run_facts a encoding account.outcome account.counts tally)

pub record TookWhole (a : Asking) (encoding : Encoding)
    (account : Account) (old new : List ℕ) : Type 0 where
  pub text : List ℕ
  pub is : IsTextOf a encoding account text
  pub took : new ≡ old ++ text

pub record TookStart (a : Asking) (encoding : Encoding)
    (account : Account) (old new : List ℕ) : Type 0 where
  pub text : List ℕ
  pub count : ℕ
  pub is : IsTextOf a encoding account text
  pub took : new ≡ old ++ take count text

-- what an outlet has taken of the report, after what it had taken before
abbrev pub TookReport : Reported → Asking → Encoding → Account → List ℕ → List ℕ → Type 0
TookReport Written a encoding account old new = TookWhole a encoding account old new
TookReport Failed a encoding account old new = TookStart a encoding account old new
TookReport _ a encoding account old new = new ≡ old

-- the run reached the end of its inputs or a fault in them, so a report is due
abbrev pub IsDue : Outcome → Type 0
IsDue outcome = (outcome_status outcome ≡ 0) ⊎ (outcome_status outcome ≡ 3)

-- it did not
abbrev pub IsNotDue : Outcome → Type 0
IsNotDue outcome = (outcome_status outcome ≢ 0) × (outcome_status outcome ≢ 3)

-- What became of the report, and what its outlet has taken, given before and after.
pub record IsReportWritten (a : Asking) (encoding : Encoding) (account : Account)
    (reported : Reported) (old new : OutletState) : Type 0 where
  pub due : reported ≢ NotDue → IsDue account.outcome
  pub not_due : reported ≡ NotDue → IsNotDue account.outcome
  pub took : IsSome old.file → TookReport reported a encoding account old.taken new.taken
  pub sound : reported ≢ Failed → new.failures ≡ 0
  pub failed : reported ≡ Failed → new.failures ≢ 0
  pub flushed : reported ≡ Written → IsTrue new.is_flushed
  pub told : new.file ≡ old.file

-- an outlet has taken this text, and was flushed
pub record IsSent (text : List ℕ) (old new : OutletState) : Type 0 where
  pub taken : IsSome old.file → new.taken ≡ old.taken ++ text
  pub sound : new.failures ≡ 0
  pub flushed : IsTrue new.is_flushed
  pub told : new.file ≡ old.file

-- an outlet has failed, and has taken a first part of this text
pub record IsSentInPart (text : List ℕ) (old new : OutletState) : Type 0 where
  pub taken : IsSome old.file → (count : ℕ) × (new.taken ≡ old.taken ++ take count text)
  pub failed : new.failures ≢ 0
  pub told : new.file ≡ old.file
