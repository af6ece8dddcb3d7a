-- The report of a run is the one that is defined for the bytes of the inputs.
use Rattle.std.proofs.Common.{◌≡◌, ◌≢◌, ◌⊎◌, ◌++◌, ◌∙◌, ℕ, Bool, true, false, Option, Some, None, option_map, List, [], ◌∷◌, refl, sym, ap, arith, ⊎_elim}
use Rattle.std.proofs.lemmas.List.{append_cancel_right}
use Rattle.std.specs.Option.{MatchOption}
use Rattle.std.specs.Borrow.{Bor}
use Rattle.fq_text.specs.Written.{line}
use Rattle.fq_files.specs.Holding.{Holding}
use Rattle.fq_pair.specs.Pairing.{Pairs}
use Rattle.fq_pair.specs.Outputs.{counts_of}
use Rattle.fq_report_reads.specs.Courses.{alone}
use Rattle.fq_report_pairs.specs.declared.tally.Tally.{Tally}
use Rattle.fq_report_pairs.specs.Tallies.{tally_of}
use Rattle.fq_report_pairs.specs.Results.{tally_if}
use Rattle.fq_run_core.specs.Choices.{Choices}
use Rattle.fq_run_core.specs.declared.outcome.Outcome.{Outcome}
use Rattle.fq_run_core.specs.declared.outcome.Outcome.TheVariants.{Spawn, Lane, Gate, Memory, Write, Read, Endless, Input, Finished}
use Rattle.fq_run_core.specs.Endings.{trimmed_outcome}
use Rattle.fq_report.specs.Reports.{text_of}
use Rattle.fq_app_words.specs.Requests.{Asking}
use Rattle.fq_app_files.specs.Faults.{settled, status_when, line_when, outcome_status, outcome_line, input_words}
use Rattle.fq_app_files.specs.Reporting.{words_when, fault_words, run_facts, report_of, IsReport, IsTextOf, TookReport, ReportHeld}
use Rattle.fq_app_files.specs.declared.account.Account.{Account}
use Rattle.fq_app_files.specs.declared.reporting.Reported.{Reported}
use Rattle.fq_app_files.specs.declared.reporting.Reported.TheVariants.{NotDue, Written, Failed, OutOfMemory}

-- The words of a fault.

not_nil : (xs : List ℕ) → [] ≡ xs ++ (10 ∷ []) → ⊥
not_nil [] e = cc
not_nil (x ∷ xs) e = cc

-- a line whose line end is removed is the words of that line
pub stripped : (bs words : List ℕ) (r : Option (Bor (List ℕ))) →
    MatchOption r ((front : List ℕ) → bs ≢ front ++ (10 ∷ [])) (λ x. bs ≡ x.now ++ (10 ∷ [])) →
    bs ≡ line words
    → option_map (λ x. x.now) r ≡ Some words
stripped bs words None h e = absurd (h words e)
stripped bs words (Some x) h e = ap Some (append_cancel_right x.now words (10 ∷ []) (sym h ∙ e))

-- an empty text has no line end to remove
pub not_stripped : (bs : List ℕ) (r : Option (Bor (List ℕ))) →
    MatchOption r ((front : List ℕ) → bs ≢ front ++ (10 ∷ [])) (λ x. bs ≡ x.now ++ (10 ∷ [])) →
    bs ≡ [] → r ≡ None
not_stripped bs None h e = refl
not_stripped bs (Some x) h e = absurd (not_nil x.now (sym e ∙ h))

-- if a run ended whole, its line without the line end has the words of its fault
words_are : (o : Outcome) (bs : List ℕ) (r : Option (Bor (List ℕ))) → bs ≡ line_when o →
    (status_when o ≡ 0) ⊎ (status_when o ≡ 3)
    → ((words : List ℕ) → bs ≡ line words → option_map (λ x. x.now) r ≡ Some words) →
    (bs ≡ [] → r ≡ None) → option_map (λ x. x.now) r ≡ words_when o
words_are Spawn bs r is ends some none =
    absurd (⊎_elim (λ e. omega (arith, e)) (λ e. omega (arith, e)) ends)
words_are Lane bs r is ends some none =
    absurd (⊎_elim (λ e. omega (arith, e)) (λ e. omega (arith, e)) ends)
words_are Gate bs r is ends some none =
    absurd (⊎_elim (λ e. omega (arith, e)) (λ e. omega (arith, e)) ends)
words_are Memory bs r is ends some none =
    absurd (⊎_elim (λ e. omega (arith, e)) (λ e. omega (arith, e)) ends)
words_are (Write out) bs r is ends some none =
    absurd (⊎_elim (λ e. omega (arith, e)) (λ e. omega (arith, e)) ends)
words_are (Read side) bs r is ends some none =
    absurd (⊎_elim (λ e. omega (arith, e)) (λ e. omega (arith, e)) ends)
words_are (Endless side) bs r is ends some none =
    absurd (⊎_elim (λ e. omega (arith, e)) (λ e. omega (arith, e)) ends)
words_are (Input fault) bs r is ends some none = some (input_words fault) is
words_are Finished bs r is ends some none = ap (option_map (λ x. x.now)) (none is)

-- if the exit status is 0 or 3, the outcome's line without its line end is the fault's words
pub fault_words_are : (outcome : Outcome) (bs : List ℕ) (r : Option (Bor (List ℕ))) →
    bs ≡ outcome_line outcome → (outcome_status outcome ≡ 0) ⊎ (outcome_status outcome ≡ 3)
    → ((words : List ℕ) → bs ≡ line words → option_map (λ x. x.now) r ≡ Some words) →
    (bs ≡ [] → r ≡ None) → option_map (λ x. x.now) r ≡ fault_words outcome
fault_words_are outcome bs r is ends some none = words_are (settled outcome) bs r is ends some none

-- if a run has a tally, it is the tally of its pairs
tally_is : (tallied : Bool) (c : Choices) (all : Pairs) (tally : Tally) →
    Some tally ≡ tally_if tallied c.steps all.mates → tally ≡ tally_of (alone c.steps) all.mates
tally_is true c all tally e = cc
tally_is false c all tally e = absurd (cc e)

-- the text for a run that trimmed these pairs is their report
pub text_is : (a : Asking) (c : Choices) (all : Pairs) (account : Account) (text : List ℕ) →
    IsTextOf a c.encoding account text
    → account.counts ≡ counts_of c.steps all.mates → account.outcome ≡ trimmed_outcome all.fault →
    account.tally ≡ tally_if c.tallied c.steps all.mates → text ≡ report_of a c all
text_is a c all account text is counts outcome tally =
    let same = tally_is c.tallied c all is.tally (sym is.tallied ∙ tally) in
    is.text_is ∙ (λ i. text_of (run_facts a c.encoding (outcome i) (counts i) (same i)))

-- what the file of the report holds, by what its outlet has taken
pub report_held : (a f : Asking) (c : Choices) (old new : Holding) (account : Account)
    (reported : Reported) (file bytes : List ℕ)
    → ((text : List ℕ) → IsTextOf a c.encoding account text → reported ≢ NotDue →
    IsReport a f old text)
    → new file ≡ Some bytes → TookReport reported a c.encoding account [] bytes →
    ReportHeld reported a f old new file
report_held a f c old new account NotDue file bytes is held took = held ∙ ap Some took
report_held a f c old new account Written file bytes is held took = record {
  text = took.text;
  is = is took.text took.is (λ e. absurd (cc e));
  held = held ∙ ap Some took.took;
}
report_held a f c old new account Failed file bytes is held took = record {
  text = took.text;
  count = took.count;
  is = is took.text took.is (λ e. absurd (cc e));
  held = held ∙ ap Some took.took;
}
report_held a f c old new account (OutOfMemory refused) file bytes is held took =
    held ∙ ap Some took
