use Rattle.std.proofs.Common.{◌≡◌, ◌≢◌, ◌⊎◌, refl, inl, inr, ap, subst, sym, arith, ◌∙◌, ℕ, IsTrue, IsSome, Option, Some, None, [], List, ⊎_elim}
use Rattle.fq_files.specs.States.{FilesState, MaySay}
use Rattle.fq_app_files.specs.Faults.{outcome_status, settled}
use Rattle.fq_app_files.specs.Trimming.{filed, AreInputsTold, IsNoOutput, TrimsFiles}
use Rattle.fq_app.specs.Answers.{device_of, TookLine, EndsWhole, PairsAnswered, Device, IsRefusal, IsEnding, IsUnprinted, IsUntold, IsUnreported, IsReportLeft, IsReportUncut, TookMemoryLine, TookReportLine, TookText, NamesRefused, NamesDevice, Refuses, Tells, print_line}
use Rattle.fq_app_words.specs.Requests.{asking_of, Asking, input_name}
use Rattle.fq_app_files.specs.Judging.{wrong_with}
use Rattle.fq_app_files.proofs.EndingLemmas.{ends_so, done_is_whole}
use Rattle.fq_app.proofs.AnswerLemmas.{untold_line, lacks_line, whole_begins, lacks_answer, memory_took}
use Rattle.fq_app.proofs.CallLemmas.{request_answered}
use Rattle.fq_app.proofs.answering.trim_pairs.Goals as goal
use Rattle.std.specs.Option.{option_map}
use Rattle.fq_files.specs.Holding.{Holding, IsUnchanged}
use Rattle.fq_app_files.specs.Opening.{MayRefuseName}
use Rattle.fq_pair.specs.declared.counts.Counts.{Counts}
use Rattle.fq_pair.specs.declared.side.Side.{Side}
use Rattle.fq_run.specs.Outcome.{Outcome}
use Rattle.fq_run.specs.Outcome.TheVariants.{Lane, Gate}
use Rattle.fq_run.specs.Endings.{ends_whole}
use Rattle.fq_text.specs.Written.{line}
use Rattle.fq_text.specs.declared.seen.SystemError.{SystemError}
use Rattle.fq_app_reasons.specs.Lines.{line_of, ending_line, report_line, report_memory_line}
use Rattle.fq_app_files.specs.Leaving.{RefusalLeaves, ReportLeft, HoldFirstPairs, AreLeft, TellsInputs}
use Rattle.fq_app_files.proofs.LeavingLemmas.{refusal_untrimmed, report_untrimmed, whole_first}
use Rattle.fq_app_files.specs.Refusals.{status_of, IsRefusable}
use Rattle.fq_app_files.specs.declared.refusal.Refusal.{Refusal}
use Rattle.fq_app_files.specs.Seeing.{IsItsError, IsReportError, IsSaid}
use Rattle.fq_app_files.specs.declared.seeing.EndingSeen.{EndingSeen}
use Rattle.fq_app_files.specs.declared.reporting.Reported.{Reported}
use Rattle.fq_app_files.specs.Completing.{HasFailed, ReportFailed}
use Rattle.fq_app_files.specs.Reporting.{HoldsReport, ReportHeld}
use Rattle.fq_app_files.specs.declared.reporting.Reported.TheVariants as report
use Rattle.fq_app_files.specs.declared.refusal.Refusal.TheVariants as why

-- the status of a refusal is neither 0 nor 1
refusal_fails : (refusal : Refusal) → (status_of refusal ≢ 0) × (status_of refusal ≢ 1)
    × (status_of refusal ≢ 3)
refusal_fails refusal = grind arith

-- nor is the status at which a refusal is reported
refuses_fails : (a : Asking) (refusal : Refusal) (err : Device) (status : ℕ) →
    Refuses a refusal err status → (status ≢ 0) × (status ≢ 3)
refuses_fails a refusal err status (inl told) =
    let own = refusal_fails refusal in
    ((λ zero. own.0 (sym told.0 ∙ zero)), (λ three. own.2 (sym told.0 ∙ three)))
refuses_fails a refusal err status (inr lacks) =
    let five = lacks.status_is in (
      (λ zero. absurd (omega (arith, zero, five))),
      (λ three. absurd (omega (arith, three, five))),
    )

there_is : {X : Type 0} (o : Option X) → (o ≡ None → ⊥) → IsSome o
there_is None none = absurd (none refl)
there_is (Some x) none = refl

-- a request that is refused
refused_answer : (a : Asking) (old new : FilesState) (out err : Device) (status : ℕ)
    (refusal : Refusal) → Refuses a refusal err status
    → ((other : Refusal) → wrong_with a ≡ Some other → refusal ≡ other) →
    (wrong_with a ≡ None → status_of refusal ≢ 2)
    → RefusalLeaves (filed old a) old.tells refusal old.bytes new.bytes
    → ((name : List ℕ) → (filed old a).report ≡ Some name → IsTrue (old.tells name) →
    IsNoOutput (filed old a) name →
    ReportLeft refusal (old.bytes name) (new.bytes name))
    → ((side : Side) → IsTrue (old.tells (input_name (filed old a).inputs side)) →
    old.bytes (input_name (filed old a).inputs side) ≡ None → IsUnchanged old.bytes new.bytes) →
    PairsAnswered a old new out err status
refused_answer a old new out err status refusal (inl refuses) first late left report_left
    unopened =
    let own = refusal_fails refusal in
    let is = refuses.0 in
    record {
      whole = λ ends. absurd (⊎_elim (λ zero. own.0 (sym is ∙ zero)) (λ three. own.2 (sym is
          ∙ three)) ends);
      wrong = λ other named. let P : Refusal → Type 0 = λ r. Refuses a r err status in
          subst P (first other named) (inl refuses);
      right = λ two. there_is (wrong_with a) (λ none. late none (sym is ∙ two));
      line = λ other. record {
        text = line_of a refusal;
        fits =
            inl (inl (record {
              why = refusal;
              status_is = sym is;
              text_is = refl;
              left =
                  left;
              report_left = report_left;
            }));
        took = refuses.1;
      };
      known = λ one. own.1 (sym is ∙ one);
      left = λ other tells.
          inl (refusal_untrimmed (filed old a) old.tells refusal old.bytes new.bytes left);
      reported =
          λ ends. absurd (⊎_elim (λ zero. own.0 (sym is ∙ zero)) (λ three. own.2 (sym is ∙ three))
          ends);
      report_left =
          λ tells name named own. inl (report_untrimmed (filed old a) old.tells refusal old.bytes
          new.bytes left report_left name named own);
      unopened = unopened;
    }
refused_answer a old new out err status refusal (inr lacks) first late left report_left
    unopened =
    lacks_answer a old new out err status lacks
    (λ tells. inl (refusal_untrimmed (filed old a) old.tells refusal old.bytes new.bytes left))
    (λ tells name named own. inl (report_untrimmed (filed old a) old.tells refusal old.bytes
    new.bytes left report_left name named own)) unopened

-- What is known of a run that was made: what its outputs hold, whether its report was due, and what
-- the report holds.
record IsRun (a : Asking) (old new : FilesState) (outcome : Outcome)
    (counts : Counts) (reported : Reported) : Type 0 where
  -- no gate ended it
  no_gate : outcome ≢ Gate
  -- if it ended whole, all pairs were trimmed
  trims : AreInputsTold (filed old a).inputs old.tells → IsTrue (ends_whole outcome) →
      TrimsFiles (filed old a) old.tells old.bytes new.bytes outcome counts
  -- unless a lane was not confirmed, the outputs hold the texts of first pairs
  ended : AreInputsTold (filed old a).inputs old.tells → outcome ≢ Lane →
      HoldFirstPairs (filed old a) old.tells old.bytes new.bytes outcome
  -- a report is due only if the status is 0 or 3
  due : reported ≢ report.NotDue → (outcome_status outcome ≡ 0) ⊎ (outcome_status outcome ≡ 3)
  -- if one was asked for and not due, the status is neither 0 nor 3
  not_due : reported ≡ report.NotDue → IsSome a.report →
      (outcome_status outcome ≢ 0) × (outcome_status outcome ≢ 3)
  -- what the file of the report holds depends on what became of the report
  held : AreInputsTold (filed old a).inputs old.tells → (name : List ℕ) →
      (filed old a).report ≡ Some name → IsTrue (old.tells name) →
      ReportHeld reported a (filed old a) old.bytes new.bytes name
  unreported : reported ≡ report.NotDue → (name : List ℕ) → (filed old a).report ≡ Some name →
      IsTrue (old.tells name) → new.bytes name ≡ Some []

is_wanted : (leads : List ℕ → List ℕ) (o : Option (List ℕ)) (file : List ℕ) →
    option_map leads o ≡ Some file → IsSome o
is_wanted leads (Some n) file e = refl
is_wanted leads None file e = absurd cc

-- an option that is not `None` holds a value
some_in : {X : Type 0} (o : Option X) → IsSome o → (x : X) × (o ≡ Some x)
some_in (Some x) is = (x, refl)
some_in None is = absurd cc

not_lane : (outcome : Outcome) → (outcome_status outcome ≡ 0) ⊎ (outcome_status outcome ≡ 3) →
    outcome ≢ Lane
not_lane outcome is lane =
    let six : outcome_status outcome ≡ 6 = ap outcome_status lane in
    ⊎_elim (λ zero. omega (arith, six, zero)) (λ three. omega (arith, six, three)) is

module _ (a : Asking) (old new : FilesState) (outcome : Outcome) (counts : Counts)
    (reported : Reported) (run : IsRun a old new outcome counts reported) where
  held_as : (is : Reported) → reported ≡ is → AreInputsTold (filed old a).inputs old.tells →
      (name : List ℕ) → (filed old a).report ≡ Some name → IsTrue (old.tells name) →
      ReportHeld is a (filed old a) old.bytes new.bytes name
  held_as is same tells name named own =
      let P : Reported → Type 0 = λ r. ReportHeld r a (filed old a) old.bytes new.bytes name in
      subst P same (run.held tells name named own)

  due_as : (is : Reported) → reported ≡ is → is ≢ report.NotDue →
      (outcome_status outcome ≡ 0) ⊎ (outcome_status outcome ≡ 3)
  due_as is same other = run.due (λ none. other (sym same ∙ none))

  -- if the run ended whole, a report that was written or not due holds the defined text
  is_held : (reported ≡ report.NotDue) ⊎ (reported ≡ report.Written) →
      (outcome_status outcome ≡ 0) ⊎ (outcome_status outcome ≡ 3)
      → AreInputsTold (filed old a).inputs old.tells → (name : List ℕ) →
      (filed old a).report ≡ Some name → IsTrue (old.tells name) →
      HoldsReport a (filed old a) old.bytes new.bytes name
  is_held (inl none) ends tells name named own =
      let other = run.not_due none (is_wanted old.leads a.report name named) in
      absurd (⊎_elim other.0 other.1 ends)
  is_held (inr written) ends tells name named own =
      held_as report.Written written tells name named own

  -- if the run did not end whole, the report is empty
  is_empty : (reported ≡ report.NotDue) ⊎ (reported ≡ report.Written) →
      outcome_status outcome ≢ 0 → outcome_status outcome ≢ 3 → (name : List ℕ) →
      (filed old a).report ≡ Some name → IsTrue (old.tells name) → new.bytes name ≡ Some []
  is_empty (inl none) some other name named own = run.unreported none name named own
  is_empty (inr written) some other name named own =
      absurd (⊎_elim some other (due_as report.Written written (λ e. absurd (cc e))))

  -- a report that was written or not due is whole or empty
  is_uncut : (reported ≡ report.NotDue) ⊎ (reported ≡ report.Written) →
      AreInputsTold (filed old a).inputs old.tells → (name : List ℕ) →
      (filed old a).report ≡ Some name → IsTrue (old.tells name) →
      IsReportUncut a (filed old a) old.bytes new.bytes name
  is_uncut (inl none) tells name named own = inl (inr (run.unreported none name named own))
  is_uncut (inr written) tells name named own =
      inr (held_as report.Written written tells name named own)

  -- the line of a run that was made
  told_line : (seen : EndingSeen)
      (said : AreInputsTold (filed old a).inputs old.tells →
      IsSaid old.looks (filed old a) old.bytes (settled outcome) seen)
      (its_error : IsItsError (filed old a) old.may_say outcome seen)
      (error : Option SystemError)
      (report_error : IsReportError (filed old a) old.may_say reported error)
      (out err : Device) (status : ℕ) →
      Tells a seen outcome reported error out err status → TookLine a old new out err status
  told_line seen said its_error error report_error out err status (inl (which, inl ending)) =
      record {
        text = ending_line a seen outcome;
        fits = inl (inr (record {
          outcome = outcome;
          seen = seen;
          status_is = sym ending.0;
          text_is =
              refl;
          no_gate = run.no_gate;
          said = said;
          its_error = its_error;
          left =
              run.ended;
          unreported = is_empty which;
        }));
        took = ending.1;
      }
  told_line seen said its_error error report_error out err status
      (inl (which, inr (inl unprinted))) = record {
        text = print_line;
        fits = inr (inl (record {
          status_is = unprinted.1.1;
          failed = unprinted.1.0;
          text_is = refl;
          left = λ tells. (
            outcome,
            counts,
            unprinted.0,
            run.trims tells
                (done_is_whole outcome unprinted.0),
          );
          reported = is_held which (inl unprinted.0);
        }));
        took = unprinted.1.2;
      }
  told_line seen said its_error error report_error out err status
      (inl (which, inr (inr untold))) =
      lacks_line a old new out err status untold.1
      (λ tells. inr (outcome, run.ended tells untold.0)) (λ tells. is_uncut which tells)
  told_line seen said its_error error report_error out err status (inr (inl failed)) =
      let due = due_as report.Failed failed.0 (λ e. absurd (cc e)) in
      let why = some_in error (report_error.some failed.0) in
      let unreported : (text : List ℕ) → (text ≡ report_line a (Some (Some why.0)))
      ⊎ (text ≡ report_line a None) → IsUnreported a old new status text =
      λ text is. record {
        said = why.0;
        its_error = subst (MaySay old.may_say (filed old a).report) why.1 report_error.may;
        status_is = failed.1;
        text_is = is;
        left = λ tells. (
          outcome,
          counts,
          run.trims tells
              (ends_so outcome (outcome_status outcome) refl due),
        );
        begun = held_as report.Failed failed.0;
      } in
      ⊎_elim
      (λ took. record {
        text = report_line a (Some (Some why.0));
        fits = inr (inr (inr (unreported _ (inl refl))));
        took = subst (λ (told : Option SystemError). TookText err (report_line a (Some told)))
            why.1 took;
      })
      (λ took. record {
        text = report_line a None;
        fits = inr (inr (inr (unreported (report_line a None) (inr refl))));
        took = took;
      })
      failed.2
  told_line seen said its_error error report_error out err status (inr (inr lacks)) =
      let due = due_as (report.OutOfMemory lacks.0.0) lacks.0.1 (λ e. absurd (cc e)) in
      untold_line a old new out err status (report_memory_line a) lacks.1 (inr refl) lacks.2
      (λ tells. inr (outcome, run.ended tells (not_lane outcome due)))
      (λ tells name named own. inl (inr (held_as (report.OutOfMemory lacks.0.0) lacks.0.1 tells name
      named own)))

-- ---- the device that is named

four_not_five : (n : ℕ) → n ≡ 4 → n ≡ 5 → ⊥
four_not_five n four five = absurd (omega (arith, four, five))

-- what was refused
refused_device : (a : Asking) (old : FilesState)
    (err : Device) (status : ℕ) (refusal : Refusal) → Refuses a refusal err status
    → (AreInputsTold (filed old a).inputs old.tells →
    TellsInputs (filed old a).inputs refusal old) →
    IsRefusable a (MayRefuseName a.inputs (filed old a).inputs old) refusal → status ≡ 4 →
    NamesRefused a old err
refused_device a old err status refusal (inl refuses_so) inputs refused four =
    record {
      why = refusal;
      status_is = sym refuses_so.0 ∙ four;
      told = refuses_so.1;
      inputs =
          inputs;
      refused = refused;
    }
refused_device a old err status refusal (inr lacks) inputs refused four =
    absurd (four_not_five status four lacks.status_is)

four_not_lane : (outcome : Outcome) → outcome_status outcome ≡ 4 → outcome ≢ Lane
four_not_lane outcome four lane = let six : outcome_status outcome ≡ 6 = ap outcome_status lane in
    absurd (omega (arith, four, six))

-- what has failed
failed_device : (a : Asking) (old new : FilesState)
    (out err : Device) (status : ℕ) (seen : EndingSeen) (outcome : Outcome)
    (reported : Reported) (error : Option SystemError) →
    IsItsError (filed old a) old.may_say outcome seen →
    IsReportError (filed old a) old.may_say reported error →
    (outcome ≢ Lane → HasFailed (filed old a) old new outcome) →
    (AreInputsTold (filed old a).inputs old.tells → settled outcome ≡ outcome) →
    (reported ≡ report.Failed → ReportFailed (filed old a) new)
    → Tells a seen outcome reported error out err status → status ≡ 4 →
    NamesDevice a old new out err
failed_device a old new out err status seen outcome reported error its_error report_error fails
    as_it_is report_fails (inl (which, inl ending)) four =
    let is = sym ending.0 ∙ four in
    inr (inl (record {
      outcome = outcome;
      seen = seen;
      status_is = is;
      told = ending.1;
      has_failed =
          fails (four_not_lane outcome is);
      its_error = its_error;
      as_it_is = as_it_is;
    }))
failed_device a old new out err status seen outcome reported error its_error report_error fails
    as_it_is report_fails (inl (which, inr (inl unprinted))) four =
    inr (inr (inl (unprinted.1.0, unprinted.1.2)))
failed_device a old new out err status seen outcome reported error its_error report_error fails
    as_it_is report_fails (inl (which, inr (inr untold))) four =
    absurd (four_not_five status four untold.1.status_is)
failed_device a old new out err status seen outcome reported error its_error report_error fails
    as_it_is report_fails (inr (inl unwritten)) four =
    let why = some_in error (report_error.some unwritten.0) in
    inr (inr (inr (record {
      said = why.0;
      told = subst (λ (told : Option SystemError). TookReportLine a told err) why.1 unwritten.2;
      has_failed = report_fails unwritten.0;
      its_error = subst (MaySay old.may_say (filed old a).report) why.1 report_error.may;
    })))
failed_device a old new out err status seen outcome reported error its_error report_error fails
    as_it_is report_fails (inr (inr lacks)) four =
    absurd (four_not_five status four lacks.1)

-- a report that was written or not due has not failed
not_failed : (reported : Reported) → (reported ≡ report.NotDue) ⊎ (reported ≡ report.Written) →
    reported ≢ report.Failed
not_failed reported which = grind arith

-- what a run leaves in the file of the report
is_left : (a f : Asking) (old new : Holding) (name : List ℕ) (reported : Reported) →
    ReportHeld reported a f old new name → IsReportLeft a f old new name
is_left a f old new name report.NotDue empty = inl (inr empty)
is_left a f old new name report.Written holds = whole_begins a f old new name holds
is_left a f old new name report.Failed begins = inr begins
is_left a f old new name (report.OutOfMemory lacked) empty = inl (inr empty)

-- what the line of a run says about the files
fits_left : (a : Asking) (old new : FilesState) (out : Device) (status : ℕ)
    (text : List ℕ) → (IsRefusal a old new status text ⊎ IsEnding a old new status text)
    ⊎ (IsUnprinted a old new out status text
    ⊎ (IsUntold a old new status text ⊎ IsUnreported a old new status text)) →
    status ≢ 6 → AreInputsTold (filed old a).inputs old.tells →
    AreLeft (filed old a) old.tells old.bytes new.bytes
fits_left a old new out status text (inl (inl refusal)) other tells =
    inl (refusal_untrimmed (filed old a) old.tells refusal.why old.bytes new.bytes refusal.left)
fits_left a old new out status text (inl (inr ending)) other tells =
    inr (
      ending.outcome,
      ending.left tells (λ lane. other (sym ending.status_is
          ∙ ap outcome_status lane)),
    )
fits_left a old new out status text (inr (inl unprinted)) other tells =
    let all = unprinted.left tells in
    inr (all.0, whole_first (filed old a) old.tells old.bytes new.bytes all.0 all.1 all.3)
fits_left a old new out status text (inr (inr (inl untold))) other tells = untold.left tells
fits_left a old new out status text (inr (inr (inr unreported))) other tells =
    let all = unreported.left tells in
    inr (all.0, whole_first (filed old a) old.tells old.bytes new.bytes all.0 all.1 all.2)

zero_or : (n : ℕ) → (n ≡ 0) ⊎ (n ≢ 0)
zero_or n = grind arith

-- what a call leaves in the files, at every status except that of an unconfirmed lane
left_so : (a : Asking) (old new : FilesState) (out err : Device) (status : ℕ)
    → ((status ≡ 0) ⊎ (status ≡ 3) → AreInputsTold (filed old a).inputs old.tells →
    EndsWhole a old new out err status) →
    (status ≢ 0 → TookLine a old new out err status)
    → status ≢ 6 → AreInputsTold (filed old a).inputs old.tells →
    AreLeft (filed old a) old.tells old.bytes new.bytes
left_so a old new out err status whole line other tells = ⊎_elim
    (λ zero. let ends = whole (inl zero) tells in
    inr (
      ends.outcome,
      whole_first (filed old a) old.tells old.bytes new.bytes ends.outcome ends.counts ends.trims,
    ))
    (λ some. let took = line some in fits_left a old new out status took.text took.fits other
    tells)
    (zero_or status)

-- a refusal with status 5 has that line
refuses_memory : (a : Asking) (refusal : Refusal) (err : Device) (status : ℕ) →
    Refuses a refusal err status → status ≡ 5 → TookMemoryLine err
refuses_memory a (why.Memory lacked) err status (inl told) five =
    memory_took a.explain err _ told.1
refuses_memory a why.Encoding err status (inl told) five =
    absurd (omega (arith, told.0, five))
refuses_memory a (why.Step fault) err status (inl told) five =
    absurd (omega (arith, told.0, five))
refuses_memory a (why.Setting bad) err status (inl told) five =
    absurd (omega (arith, told.0, five))
refuses_memory a (why.SameName out) err status (inl told) five =
    absurd (omega (arith, told.0, five))
refuses_memory a (why.Source side cause) err status (inl told) five =
    absurd (omega (arith, told.0, five))
refuses_memory a (why.Target out cause) err status (inl told) five =
    absurd (omega (arith, told.0, five))
refuses_memory a why.SameReport err status (inl told) five =
    absurd (omega (arith, told.0, five))
refuses_memory a (why.Report cause) err status (inl told) five =
    absurd (omega (arith, told.0, five))
refuses_memory a refusal err status (inr lacks) five = inl lacks.told

-- a run that was made answers the request; at status 4 its line names the device that has failed,
-- or an endless input; and if an output or the report leads to an input, no run is made
pub returns-in-Ok-clause-request : goal.returns-in-Ok-clause-request
returns-in-Ok-clause-request g c =
    let a = asking_of c.args.request.now in
    let old = g.T.Files.state c.args.files.now in
    let account = c.in-Ok.completed.account in
    let reported = c.in-Ok.completed.reported in
    let run : IsRun a old (g.T.Files.state c.trim_files.new.files) account.outcome account.counts
    reported =
    record {
      no_gate = c.in-Ok.ensures.no_gate;
      trims = c.in-Ok.ensures.completed.trims;
      ended = c.in-Ok.ensures.completed.ended;
      due = c.in-Ok.ensures.completed.due;
      not_due = c.in-Ok.ensures.completed.not_due;
      held = c.in-Ok.ensures.completed.report;
      unreported = c.in-Ok.ensures.completed.unreported;
    } in
    let line : c.tell.result ≢ 0 → TookLine a _ _ _ _ c.tell.result =
    λ some. told_line a _ _ account.outcome account.counts reported run
    c.in-Ok.completed.seen c.in-Ok.ensures.completed.said c.in-Ok.ensures.completed.its_error
    _ c.in-Ok.ensures.report_says _ _ _ (c.tell.ensures.line some) in
    let whole : (c.tell.result ≡ 0) ⊎ (c.tell.result ≡ 3) →
    AreInputsTold (filed old a).inputs old.tells → EndsWhole a _ _ _ _ c.tell.result =
    λ ends told.
    let status = c.tell.ensures.whole ends in
    record {
      outcome = account.outcome;
      counts = account.counts;
      seen = c.in-Ok.completed.seen;
      trims = c.in-Ok.ensures.completed.trims told
          (ends_so account.outcome c.tell.result status ends);
      said = c.in-Ok.ensures.completed.said told;
      status_is = status;
      printed = c.tell.ensures.printed ends;
      told = c.tell.ensures.told ends;
    } in
    let pairs : PairsAnswered a _ _ _ _ c.tell.result =
    record {
      whole = whole;
      wrong = λ why is. let failed = (c.in-Ok.ensures.wrong why is).0 in absurd (cc failed);
      right = λ two. absurd (c.tell.ensures.known.1 two);
      line = line;
      known = c.tell.ensures.known.0;
      left = left_so a _ _ _ _ _ whole line;
      reported = λ ends told name named own.
          let is : (outcome_status account.outcome ≡ 0) ⊎ (outcome_status account.outcome ≡ 3) =
          subst (λ n. (n ≡ 0) ⊎ (n ≡ 3)) (sym (c.tell.ensures.whole ends)) ends in
          is_held a _ _ account.outcome account.counts reported run (c.tell.ensures.reported ends)
          is told name named own;
      report_left = λ told name named own. is_left a _ _ _ name reported
          (run.held told name named own);
      unopened = c.in-Ok.ensures.unopened;
    } in
    request_answered a _ _ _ _ _ pairs
    (λ four. failed_device a _ _ (device_of g.O.Outlet.state c.args.out.now c.tell.new.out) _ _
    c.in-Ok.completed.seen account.outcome reported c.in-Ok.completed.report_error
    c.in-Ok.ensures.completed.its_error c.in-Ok.ensures.report_says
    c.in-Ok.ensures.completed.failed c.in-Ok.ensures.completed.as_it_is
    c.in-Ok.ensures.completed.report_failed
    (c.tell.ensures.line (λ zero. absurd (omega (arith, four, zero)))) four)
    c.in-Ok.ensures.rest
    (λ name made told leads. let failed = (c.in-Ok.ensures.spared name made told leads).0 in
    absurd (cc failed))

-- in a run with status 0 or 3 no device of the files has failed, and all was flushed
pub returns-in-Ok-clause-sound : goal.returns-in-Ok-clause-sound
returns-in-Ok-clause-sound g c =
    let completed = c.in-Ok.ensures.completed in
    let outcome = c.in-Ok.completed.account.outcome in record {
      sound = λ ends. completed.sound
          (ends_so outcome c.tell.result (c.tell.ensures.whole ends) ends)
          (not_failed c.in-Ok.completed.reported (c.tell.ensures.reported ends));
      flushed = λ ends. completed.flushed
          (subst (λ n. (n ≡ 0) ⊎ (n ≡ 3)) (sym (c.tell.ensures.whole ends)) ends)
          (c.tell.ensures.reported ends);
    }

-- of a wrong request no run is made, and no file has changed
pub returns-in-Ok-clause-wrong : goal.returns-in-Ok-clause-wrong
returns-in-Ok-clause-wrong g c = λ wrong.
    let why = some_in (wrong_with (asking_of c.args.request.now)) wrong in
    (c.in-Ok.ensures.wrong why.0 why.1).1

-- a refusal answers the request; at status 4 its line names the file that was refused; and if an
-- output or the report leads to an input, it changes no file
pub returns-in-Err-clause-request : goal.returns-in-Err-clause-request
returns-in-Err-clause-request g c =
    let a = asking_of c.args.request.now in
    let refused = c.in-Err.ensures.refused in
    request_answered a _ _ _ _ _
    (refused_answer _ _ _ _ _ _ c.in-Err.refusal c.refuse.ensures
    (λ why is. let same = (c.in-Err.ensures.wrong why is).0 in
    cc same) (λ none. c.in-Err.ensures.right none)
    refused.left refused.report_left c.in-Err.ensures.unopened)
    (λ four. inl (refused_device a _ _ _ c.in-Err.refusal
    c.refuse.ensures refused.inputs refused.refused four))
    c.in-Err.ensures.rest
    (λ name made told leads. (
      refuses_fails a c.in-Err.refusal _ _ c.refuse.ensures,
      (c.in-Err.ensures.spared name made told leads).1,
    ))

-- no device of the files has failed in a call that was refused, and no further outlet is unflushed
pub returns-in-Err-clause-sound : goal.returns-in-Err-clause-sound
returns-in-Err-clause-sound g c = record {
  sound = λ ends. ap (λ (files : FilesState). files.has_failed) c.in-Err.ensures.unfailed;
  flushed = λ ends. ap (λ (files : FilesState). files.is_unflushed) c.in-Err.ensures.unfailed;
}

-- the refusal of a wrong request changes no file
pub returns-in-Err-clause-wrong : goal.returns-in-Err-clause-wrong
returns-in-Err-clause-wrong g c = λ wrong.
    let why = some_in (wrong_with (asking_of c.args.request.now)) wrong in
    (c.in-Err.ensures.wrong why.0 why.1).1

-- a refusal prints nothing, and at status 5 standard error took the line for refused memory
pub returns-in-Err-clause-prints : goal.returns-in-Err-clause-prints
returns-in-Err-clause-prints g c =
    let a = asking_of c.args.request.now in record {
      finished = λ zero. absurd ((refuses_fails a c.in-Err.refusal _ _ c.refuse.ensures).0 zero);
      quiet = λ some other healthy. refl;
      failed = λ some. absurd (some c.requires.out);
      memory = λ five. (refl, refuses_memory a c.in-Err.refusal _ _ c.refuse.ensures five);
    }
