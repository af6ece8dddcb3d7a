-- What is reported for a refusal, and for a run that was made.
use Rattle.std.proofs.Common.{◌≡◌, ◌⊎◌, ◌∙◌, ℕ, suc, Bool, true, false, IsTrue, Option, Some, None, [], ◌∷◌, List, codes, length, inl, inr, ⊎_elim, refl, sym, ap, subst, arith}
use Rattle.std.proofs.lemmas.List.{take_all}
use Rattle.std.specs.List.{All}
use Rattle.fq_files.specs.Holding.{Holding, IsUnchanged}
use Rattle.fq_files.specs.States.{FilesState}
use Rattle.fq_pair.specs.declared.side.Side.{Side}
use Rattle.clap.specs.Kinds.{IsAmong, Kinds}
use Rattle.clap.specs.Words.{Text}
use Rattle.clap.specs.declared.error.kind.ErrorKind.{ErrorKind}
use Rattle.fq_run.specs.Outcome.{Outcome}
use Rattle.fq_run.specs.Outcome.TheVariants.{Memory}
use Rattle.fq_app_files.specs.Faults.{settled, status_when, outcome_status, line_when, memory_words}
use Rattle.fq_text.specs.Written.{line}
use Rattle.fq_app_reasons.specs.Lines.{explained, ending_line_when, line_for, report_line, report_memory_line}
use Rattle.fq_app_words.specs.Requests.{Asking, input_name}
use Rattle.fq_app_words.specs.Words.{AskedFor, asked_pairs, pairs_asked}
use Rattle.fq_app_words.specs.declared.words.Asked.{Asked}
use Rattle.fq_app_files.specs.Trimming.{filed, AreInputsTold}
use Rattle.fq_app_files.specs.Leaving.{AreLeft}
use Rattle.fq_app.specs.Answers.{Device, IsReportLeft, IsReportUncut, LacksMemory, TookMemoryLine, TookText, PairsAnswered, TookLine, memory_line}
use Rattle.fq_app_files.specs.declared.seeing.EndingSeen.{EndingSeen}
use Rattle.fq_app_files.specs.Reporting.{HoldsReport}

-- what was read of the arguments is what they ask for
pub asks_this : (words : List Text) (read : Asked) (own a : Asking) →
    pairs_asked words ≡ asked_pairs read → asked_pairs read ≡ Some own → AskedFor words (Some a) →
    own ≡ a
asks_this words read own a is pairs asked = let some : Some own ≡ Some a = sym pairs ∙ sym is
    ∙ asked.ask in cc

-- refused memory has its line, or that of a report
pub untold_line : (a : Asking) (old new : FilesState) (out err : Device) (status : ℕ)
    (text : List ℕ) →
    status ≡ 5 → (text ≡ memory_line) ⊎ (text ≡ report_memory_line a) → TookText err text
    → (AreInputsTold (filed old a).inputs old.tells →
    AreLeft (filed old a) old.tells old.bytes new.bytes)
    → (AreInputsTold (filed old a).inputs old.tells → (name : List ℕ) →
    (filed old a).report ≡ Some name → IsTrue (old.tells name) →
    IsReportUncut a (filed old a) old.bytes new.bytes name) →
    TookLine a old new out err status
untold_line a old new out err status text five is took left report_left = record {
  text = text;
  fits = inr (inr (inl (record {
    status_is = five;
    text_is = is;
    left = left;
    report_left = report_left;
  })));
  took = took;
}

-- refused memory has its line
pub lacks_line : (a : Asking) (old new : FilesState) (out err : Device) (status : ℕ) →
    LacksMemory err status
    → (AreInputsTold (filed old a).inputs old.tells →
    AreLeft (filed old a) old.tells old.bytes new.bytes)
    → (AreInputsTold (filed old a).inputs old.tells → (name : List ℕ) →
    (filed old a).report ≡ Some name → IsTrue (old.tells name) →
    IsReportUncut a (filed old a) old.bytes new.bytes name) →
    TookLine a old new out err status
lacks_line a old new out err status lacks left report_left =
    untold_line a old new out err status memory_line lacks.status_is (inl refl) lacks.told left
    report_left

-- a whole report is a first part of itself
pub whole_begins : (a f : Asking) (old new : Holding) (name : List ℕ) →
    HoldsReport a f old new name → IsReportLeft a f old new name
whole_begins a f old new name holds = inr (record {
  text = holds.text;
  count = length holds.text;
  is =
      holds.is;
  held = holds.held
      ∙ ap Some (sym (take_all (length holds.text) holds.text (omega arith)));
})

uncut_left : (a f : Asking) (old new : Holding) (name : List ℕ) →
    IsReportUncut a f old new name → IsReportLeft a f old new name
uncut_left a f old new name uncut = ⊎_elim (λ kept. inl kept)
    (λ holds. whole_begins a f old new name holds) uncut

-- a request that ends because memory was refused
pub lacks_answer : (a : Asking) (old new : FilesState) (out err : Device) (status : ℕ) →
    LacksMemory err status
    → (AreInputsTold (filed old a).inputs old.tells →
    AreLeft (filed old a) old.tells old.bytes new.bytes)
    → (AreInputsTold (filed old a).inputs old.tells → (name : List ℕ) →
    (filed old a).report ≡ Some name → IsTrue (old.tells name) →
    IsReportUncut a (filed old a) old.bytes new.bytes name)
    → ((side : Side) → IsTrue (old.tells (input_name (filed old a).inputs side)) →
    old.bytes (input_name (filed old a).inputs side) ≡ None → IsUnchanged old.bytes new.bytes) →
    PairsAnswered a old new out err status
lacks_answer a old new out err status lacks left report_left unopened =
    let five = lacks.status_is in
    record {
      whole = λ ends. absurd (⊎_elim (λ zero. omega (arith, zero, five)) (λ three. omega
          (arith, three, five)) ends);
      wrong = λ refusal is. inr lacks;
      right = λ two. absurd (omega (arith, two, five));
      line = λ other. lacks_line a old new out err status lacks left report_left;
      known = λ one. absurd (omega (arith, one, five));
      left = λ other. left;
      reported =
          λ ends. absurd (⊎_elim (λ zero. omega (arith, zero, five)) (λ three. omega
          (arith, three, five)) ends);
      report_left = λ tells name named own. uncut_left a (filed old a) old.bytes new.bytes name
          (report_left tells name named own);
      unopened = unopened;
    }

-- a property of all kinds in a list holds for each of them
pub among_all : (P : ErrorKind → Type 0) (kind : ErrorKind) (kinds : Kinds) → IsAmong kind kinds →
    All P kinds → P kind
among_all P kind [] among all = absurd among
among_all P kind (k ∷ ks) (inl same) all = subst P (sym same) (all 0 k (omega arith))
among_all P kind (k ∷ ks) (inr more) all = among_all P kind ks more
    (λ i d below. all (suc i) d (omega (arith, below)))

-- the line of a report that could not be written, without a reason
pub plain_report : (a : Asking) → line (codes "write failed: report") ≡ report_line a None
plain_report a = ap line (sym (unexplained a.explain))
  where
    unexplained : (b : Bool) → explained b (codes "write failed: report") None
        ≡ codes "write failed: report"
    unexplained true = refl
    unexplained false = refl

-- ---- the line for refused memory

-- it has a reason if one was asked for
pub memory_took : (b : Bool) (err : Device) (reason : List ℕ) →
    TookText err (line (explained b memory_words (Some reason))) → TookMemoryLine err
memory_took true err reason took = inr (reason, took)
memory_took false err reason took = inl took

-- so has an outcome with status 5
is_memory : (o : Outcome) → status_when o ≡ 5 → o ≡ Memory
is_memory o five = grind arith

ending_memory : (a : Asking) (seen : EndingSeen) (o : Outcome) (err : Device) →
    status_when o ≡ 5 → TookText err (ending_line_when a seen o) → TookMemoryLine err
ending_memory a seen o err five took = memory_took a.explain err _
    (subst (λ (o : Outcome). TookText err (ending_line_when a seen o)) (is_memory o five) took)

plain_memory : (o : Outcome) (err : Device) → status_when o ≡ 5 → TookText err (line_when o) →
    TookMemoryLine err
plain_memory o err five took =
    inl (subst (λ (o : Outcome). TookText err (line_when o)) (is_memory o five) took)

-- also in a run that nobody asked for
pub told_memory : (asked : Option Asking) (seen : EndingSeen) (outcome : Outcome) (err : Device) →
    outcome_status outcome ≡ 5 → TookText err (line_for asked seen outcome) → TookMemoryLine err
told_memory (Some a) seen outcome err five took =
    ending_memory a seen (settled outcome) err five took
told_memory None seen outcome err five took = plain_memory (settled outcome) err five took
