use Rattle.std.proofs.Common.{◌∙◌, ℕ, IsTrue, List, sym, ap, subst, ◌≡◌, IsSome, Option, Some, [], refl, inl, inr, ◌⊎◌, ⊎_elim, ◌≢◌, None, arith, Bool, true, false}
use Rattle.std.proofs.lemmas.Result.{err_from_is_err_and}
use Rattle.fq_files.specs.States.{FilesState, Keys, Causes}
use Rattle.fq_files.proofs.StateLemmas.{same_as, told_as, told_before}
use Rattle.fq_app_words.specs.Requests.{asking_of, Asking, InputNames, input_name, output_name}
use Rattle.fq_run_core.specs.Devices.{outlet_states}
use Rattle.fq_app_files.specs.Trimming.{filed, opened_of, AreEmpty, AreInputsTold, WriteTheirs, AreHeld, Opened, IsMade, IsNoOutput, KeepsUnnamed, AreFed}
use Rattle.fq_app_files.proofs.FiledLemmas.{leads_as}
use Rattle.fq_app_files.proofs.MakingLemmas.{rest_made, this_or_other}
use Rattle.fq_app_files.proofs.OpeningLemmas.{late_status}
use Rattle.fq_app_files.proofs.opening.open.Goals as goal
use Rattle.fq_files.specs.Holding.{Holding, IsUnchanged}
use Rattle.fq_app_files.specs.Refusals.{IsMemory, IsReport, status_of, IsRefusable}
use Rattle.fq_app_files.specs.declared.refusal.Refusal.{Refusal}
use Rattle.fq_app_files.specs.Leaving.{RefusalLeaves, ReportLeft, TellsInputs, is_late, AreEmptied}
use Rattle.fq_pair.specs.declared.out.Out.TheVariants.{ForwardPaired, ForwardUnpaired, ReversePaired, ReverseUnpaired, Log}
use Rattle.fq_app_files.specs.Making.{AreMade, StopsMaking}
use Rattle.fq_files.specs.declared.files.Cause.{Cause}
use Rattle.fq_pair.specs.declared.out.Out.{Out}
use Rattle.fq_pair.specs.declared.side.Side.{Side}
use Rattle.fq_pair.specs.declared.side.Side.TheVariants.{Forward, Reverse}
use Rattle.fq_app_files.specs.Opening.{AreNoInputs, IsUnopened, MayLead}
use Rattle.fq_app_files.specs.declared.refusal.Refusal.TheVariants as why
use Rattle.fq_files.specs.declared.files.Cause.TheVariants as cause

-- a refusal after the inputs are opened says only that both inputs exist
tells_late : (inputs : InputNames) (refusal : Refusal) (old : FilesState)
    (forward reverse : List ℕ) → IsTrue (is_late refusal)
    → old.bytes inputs.forward ≡ Some forward → old.bytes inputs.reverse ≡ Some reverse →
    TellsInputs inputs refusal old
tells_late inputs (why.Target out cause) old forward reverse late first second =
    (subst IsSome (sym first) refl, subst IsSome (sym second) refl)
tells_late inputs (why.Report cause) old forward reverse late first second =
    (subst IsSome (sym first) refl, subst IsSome (sym second) refl)
tells_late inputs (why.Memory lacked) old forward reverse late first second = tt
tells_late inputs why.Encoding old forward reverse late first second =
    absurd (cc late)
tells_late inputs (why.Step fault) old forward reverse late first second =
    absurd (cc late)
tells_late inputs (why.Setting bad) old forward reverse late first second =
    absurd (cc late)
tells_late inputs (why.SameName out) old forward reverse late first second =
    absurd (cc late)
tells_late inputs (why.Source side cause) old forward reverse late first second =
    absurd (cc late)
tells_late inputs why.SameReport old forward reverse late first second =
    absurd (cc late)

-- what a refusal left, after calls that changed nothing
unchanged_or_nothing : (old mid new : Option (List ℕ)) → mid ≡ old →
    (new ≡ mid) ⊎ (new ≡ Some []) → (new ≡ old) ⊎ (new ≡ Some [])
unchanged_or_nothing old mid new same (inl kept) = inl (kept ∙ same)
unchanged_or_nothing old mid new same (inr nothing) = inr nothing

-- what a refusal leaves of files that had not changed yet, it leaves of those at the start
leaves_since : (a : Asking) (tells : Keys) (refusal : Refusal) (old mid new : Holding) →
    IsUnchanged old mid → RefusalLeaves a tells refusal mid new →
    RefusalLeaves a tells refusal old new
leaves_since a tells why.Encoding old mid new same left = λ name. left name ∙ same name
leaves_since a tells (why.Step fault) old mid new same left = λ name. left name ∙ same name
leaves_since a tells (why.Setting bad) old mid new same left = λ name. left name ∙ same name
leaves_since a tells (why.SameName out) old mid new same left = λ name. left name ∙ same name
leaves_since a tells (why.Source side cause) old mid new same left = λ name. left name ∙ same name
leaves_since a tells (why.Target out cause) old mid new same left = ⊎_elim
    (λ stops. inl (record {
      before = stops.before;
      there = λ name named told. unchanged_or_nothing (old name) (mid name) (new name) (same name)
          (stops.there name named told);
      after = λ name after. stops.after name after ∙ same name;
    }))
    (λ kept. inr (λ name. kept name ∙ same name)) left
leaves_since a tells why.SameReport old mid new same left = λ name. left name ∙ same name
leaves_since a tells (why.Report cause) old mid new same left =
    ⊎_elim (λ empty. inl empty) (λ kept. inr (λ name. kept name ∙ same name)) left
leaves_since a tells (why.Memory lacked) old mid new same left =
    λ out name named told. unchanged_or_nothing (old name) (mid name) (new name) (same name)
    (left out name named told)

-- ---- whole runs

-- a refusal before the report is made leaves its file unchanged
report_after : (refusal : Refusal) (old new : Option (List ℕ)) → new ≡ old →
    ReportLeft refusal old new
report_after why.Encoding old new same = same
report_after (why.Step fault) old new same = same
report_after (why.Setting bad) old new same = same
report_after (why.SameName out) old new same = same
report_after (why.Source side cause) old new same = same
report_after (why.Target out cause) old new same = same
report_after why.SameReport old new same = same
report_after (why.Report cause) old new same = inl same
report_after (why.Memory lacked) old new same = inl same

-- the report itself was refused, or memory for it
report_refused : (refusal : Refusal) (old new : Option (List ℕ)) →
    IsReport refusal ⊎ IsMemory refusal → (new ≡ old) ⊎ (new ≡ Some []) →
    ReportLeft refusal old new
report_refused refusal old new is left =
    let P : Refusal → Type 0 = λ r. ReportLeft r old new in
    ⊎_elim (λ report. subst P (sym report.1) left) (λ memory. subst P (sym memory.1) left) is

is_there : (x : Option (List ℕ)) → x ≡ Some [] → IsSome x
is_there (Some bytes) e = refl
is_there None e = absurd cc

-- what is made, or was not made, is the same for files of which the same bytes are known
made_before : (a : Asking) (start files : Holding) (n : ℕ) (old new : FilesState) →
    new ≡ old → AreMade a new.tells start n files → AreMade a old.tells start n files
made_before a start files n old new kept made =
    told_before (λ tells. AreMade a tells start n files) old new kept made

unmade_before : (a : Asking) (refusal : Refusal) (start files : Holding)
    (old new : FilesState) → new ≡ old → StopsMaking a new.tells refusal start files →
    StopsMaking a old.tells refusal start files
unmade_before a refusal start files old new kept unmade =
    told_before (λ tells. StopsMaking a tells refusal start files) old new kept unmade

held_as : (a : Asking) (files : Holding) (old new : FilesState) → new ≡ old →
    AreHeld a old.tells files → AreHeld a new.tells files
held_as a files old new kept held = told_as (λ tells. AreHeld a tells files) old new kept held

-- once all outputs are made, the file of each is empty
five_empty : (a : Asking) (tells : Keys) (start files : Holding) →
    AreMade a tells start 5 files → AreEmptied a tells files
five_empty a tells start files made ForwardPaired name named told =
    made.empty ForwardPaired name named told (omega arith)
five_empty a tells start files made ForwardUnpaired name named told =
    made.empty ForwardUnpaired name named told (omega arith)
five_empty a tells start files made ReversePaired name named told =
    made.empty ReversePaired name named told (omega arith)
five_empty a tells start files made ReverseUnpaired name named told =
    made.empty ReverseUnpaired name named told (omega arith)
five_empty a tells start files made Log name named told =
    made.empty Log name named told (omega arith)

-- once all outputs are made, the file of each exists
five_held : (a : Asking) (tells : Keys) (start files : Holding) →
    AreMade a tells start 5 files → AreHeld a tells files
five_held a tells start files made out name named told =
    is_there (files name) (five_empty a tells start files made out name named told)

-- a report that could not be made leaves the outputs empty, also one of its own name
still_empty : (a : Asking) (tells : Keys) (old new : Holding) → AreEmptied a tells old →
    ((name : List ℕ) → a.report ≡ Some name → IsTrue (tells name) →
    (new name ≡ old name) ⊎ (new name ≡ Some [])) →
    ((name : List ℕ) → a.report ≢ Some name → new name ≡ old name) → AreEmptied a tells new
still_empty a tells old new empty there others out name named told = ⊎_elim
    (λ report. ⊎_elim (λ kept. kept ∙ empty out name named told) (λ nothing. nothing)
    (there name report told))
    (λ other. others name other ∙ empty out name named told)
    (this_or_other a.report name)

-- if the report is not made after the outputs, they stay empty
report_unmade : (a : Asking) (tells : Keys) (refusal : Refusal) (old new : Holding) →
    IsReport refusal ⊎ IsMemory refusal → AreEmptied a tells new →
    RefusalLeaves a tells refusal old new
report_unmade a tells refusal old new is empty =
    let P : Refusal → Type 0 = λ r. RefusalLeaves a tells r old new in
    ⊎_elim (λ report. subst P (sym report.1) (inl empty))
    (λ memory. subst P (sym memory.1) (λ out name named told. inr (empty out name named told))) is

not_none : (o : Option (List ℕ)) (bytes : List ℕ) → o ≡ Some bytes → o ≡ None → ⊥
not_none o bytes some none = let bad : Some bytes ≡ None = sym some ∙ none in cc

-- the file of an input exists if its feed has the bytes of it
fed_there : (inputs : Opened) (names : InputNames) (old : FilesState) →
    AreFed inputs names old → (side : Side) → IsTrue (old.tells (input_name names side)) →
    old.bytes (input_name names side) ≡ None → ⊥
fed_there inputs names old fed Forward told none =
    not_none (old.bytes names.forward) _ (fed.forward told).bytes_are none
fed_there inputs names old fed Reverse told none =
    not_none (old.bytes names.reverse) _ (fed.reverse told).bytes_are none

-- an output was refused, or the report
refused_late : (a : Asking) (refusal : Refusal) (old new : FilesState) (inputs : Opened) →
    IsTrue (is_late refusal) → status_of refusal ≢ 2 →
    IsRefusable a (MayLead a.inputs old) refusal
    → AreFed inputs a.inputs old →
    RefusalLeaves a old.tells refusal old.bytes new.bytes →
    ((name : List ℕ) → a.report ≡ Some name → IsTrue (old.tells name) → IsNoOutput a name →
    ReportLeft refusal (old.bytes name) (new.bytes name)) →
    KeepsUnnamed a old.bytes new.bytes → IsUnopened a refusal old new
refused_late a refusal old new inputs after late refused fed left report_left
    rest = record {
      late = late;
      refused = refused;
      inputs = λ told. tells_late a.inputs refusal old _ _ after
          (fed.forward told.0).bytes_are (fed.reverse told.1).bytes_are;
      left = left;
      report_left = report_left;
      rest = rest;
      unopened = λ side told none. absurd (fed_there inputs a.inputs old fed side told none);
    }

-- a refusal of the report, or of memory for it, comes after the inputs, and its status is not 2
report_late : (refusal : Refusal) → IsReport refusal ⊎ IsMemory refusal →
    IsTrue (is_late refusal)
report_late refusal is = let P : Refusal → Type 0 = λ r. IsTrue (is_late r) in
    ⊎_elim (λ report. subst P (sym report.1) refl) (λ memory. subst P (sym memory.1) refl) is

-- what holds of the name that was refused, and of the cause
refusable_so : (a : Asking) (P Q : List ℕ → Cause → Type 0) (refusal : Refusal) →
    ((name : List ℕ) (given : Cause) → P name given → Q name given) → IsRefusable a P refusal →
    IsRefusable a Q refusal
refusable_so a P Q (why.Target out given) so refused =
    (refused.0, refused.1, so refused.0 given refused.2)
refusable_so a P Q (why.Report given) so refused =
    (refused.0, refused.1, so refused.0 given refused.2)
refusable_so a P Q (why.Memory lacked) so refused = refused
refusable_so a P Q why.Encoding so refused = refused
refusable_so a P Q (why.Step fault) so refused = refused
refusable_so a P Q (why.Setting bad) so refused = refused
refusable_so a P Q (why.SameName out) so refused = refused
refusable_so a P Q (why.Source side cause) so refused = refused
refusable_so a P Q why.SameReport so refused = refused

-- a name that may be refused after the inputs are opened
refusable_since : (a : Asking) (old : FilesState) (refuses : Causes) (opened : Keys)
    (refusal : Refusal) → refuses ≡ old.refuses →
    ((name : List ℕ) → IsTrue (opened name) → MayLead a.inputs old name cause.Input) →
    IsRefusable a
    (λ name given. IsTrue (refuses name given) ⊎ ((given ≡ cause.Input) × IsTrue (opened name)))
    refusal → IsRefusable a (MayLead a.inputs old) refusal
refusable_since a old refuses opened refusal same led refused =
    refusable_so a
    (λ name given. IsTrue (refuses name given) ⊎ ((given ≡ cause.Input) × IsTrue (opened name)))
    (MayLead a.inputs old) refusal
    (λ name given. ⊎_elim
    (λ may. inr (inl (subst (λ (r : Causes). IsTrue (r name given)) same may)))
    (λ leads. subst (λ (x : Cause). MayLead a.inputs old name x) (sym leads.0)
    (led name leads.1))) refused

clash : (b : Bool) → IsTrue b → b ≡ false → ⊥
clash true is none = absurd (cc none)
clash false is none = absurd (cc is)

-- no output leads to an input whose bytes are known, and nor does the report
leads_nowhere : (a : Asking) (before after tells : Keys) → after ≡ before
    → ((out : Out) (name : List ℕ) → output_name a out ≡ Some name → IsTrue (tells name) →
    before name ≡ false) →
    ((name : List ℕ) → a.report ≡ Some name → IsTrue (tells name) → before name ≡ false) →
    (name : List ℕ) → IsMade a name → IsTrue (tells name) → IsTrue (after name) → ⊥
leads_nowhere a before after tells same outputs report name made told leads =
    let led : IsTrue (before name) = subst (λ (names : Keys). IsTrue (names name)) same leads in
    ⊎_elim (λ output. clash (before name) led (outputs output.0 name output.1 told))
    (λ named. clash (before name) led (report name named told)) made

-- if no output leads to an input, and nor does the report, their files are none of the inputs
no_inputs : (a : Asking) (is_open tells : Keys) →
    ((side : Side) → IsTrue (is_open (input_name a.inputs side)))
    → ((out : Out) (name : List ℕ) → output_name a out ≡ Some name → IsTrue (tells name) →
    is_open name ≡ false) →
    ((name : List ℕ) → a.report ≡ Some name → IsTrue (tells name) → is_open name ≡ false) →
    AreInputsTold a.inputs tells → AreNoInputs a
no_inputs a is_open tells opened outputs report told Forward = (
  λ out named. clash _ (opened Forward) (outputs out _ named told.0),
  λ named. clash _ (opened Forward) (report _ named told.0),
)
no_inputs a is_open tells opened outputs report told Reverse = (
  λ out named. clash _ (opened Reverse) (outputs out _ named told.1),
  λ named. clash _ (opened Reverse) (report _ named told.1),
)

-- ---- the reverse input

-- a refused output: what its refusal says is true, and the files hold what it leaves
pub returns-in_err-outlets-clause-unopened : goal.returns-in_err-outlets-clause-unopened
returns-in_err-outlets-clause-unopened g c =
    let p = err_from_is_err_and c.from_residual-in_err-outlets.result
    c.from_residual-in_err-outlets.ensures.1 in
    let a = filed (g.T.Files.state c.args.files.now) (asking_of c.args.request.now) in
    let inputs = c.in_ok-feeds.ensures in
    let outputs = c.in_err-outlets.ensures in
    let refused = rw (leads_as _ _ inputs.kept) at outputs.refused in
    let same = same_as _ _ inputs.kept in
    let unmade = unmade_before a _ _ _ _ _ inputs.kept
    (unmade_before a _ _ _ _ _ outputs.kept refused.unmade) in
    rw (p.1, p.2) (refused_late a _ _ _ (opened_of g.T.In.Feed.state c.in_ok-feeds.feeds)
    refused.after refused.late
    (refusable_since a (g.T.Files.state c.args.files.now) _ _ _
    (ap (λ (files : FilesState). files.refuses) inputs.kept) inputs.linked
    refused.refused) inputs.opened.fed
    (leaves_since a _ _ _ _ _ same unmade.leaves)
    (λ name named told free. report_after _ _ _ (unmade.rest name free ∙ same name))
    (λ name free other. unmade.rest name free ∙ same name))

-- a refused report: what its refusal says is true, and the files hold what it leaves
pub returns-in_err-report-clause-unopened : goal.returns-in_err-report-clause-unopened
returns-in_err-report-clause-unopened g c =
    let p = err_from_is_err_and c.from_residual-in_err-report.result
    c.from_residual-in_err-report.ensures.1 in
    let a = filed (g.T.Files.state c.args.files.now) (asking_of c.args.request.now) in
    let inputs = c.in_ok-feeds.ensures in
    let outputs = c.in_ok-outlets.ensures in
    let report = c.in_err-report.ensures in
    let led = leads_as _ _ outputs.kept ∙ leads_as _ _ inputs.kept in
    let made = rw (leads_as _ _ inputs.kept) at outputs.made in
    let refused = rw led at report.refused in
    let others = rw led at report.others in
    let after = report_late _ refused.why_is in
    let same = same_as _ _ inputs.kept in
    let start = g.T.Files.state c.args.files.now in
    let first = made_before a _ _ _ _ _ inputs.kept
    (made_before a _ _ _ _ _ outputs.kept made.made) in
    rw (p.1, p.2) (refused_late a _ _ _ (opened_of g.T.In.Feed.state c.in_ok-feeds.feeds)
    after (late_status _ after)
    (refusable_since a (g.T.Files.state c.args.files.now) _ _ _
    (ap (λ (files : FilesState). files.refuses) outputs.kept
    ∙ ap (λ (files : FilesState). files.refuses) inputs.kept)
    (λ name leads. inputs.linked name
    (subst (λ (files : FilesState). IsTrue (files.is_open name)) outputs.kept leads))
    refused.refused) inputs.opened.fed
    (report_unmade a _ _ _ _ refused.why_is
    (still_empty a start.tells _ _ (five_empty _ _ _ _ first)
    (λ name named told. refused.left name named (told_as (λ tells. IsTrue (tells name)) _ _
    outputs.kept (told_as (λ tells. IsTrue (tells name)) _ _ inputs.kept told))) others))
    (λ name named told free. report_refused _ _ _ refused.why_is
    (unchanged_or_nothing _ _ _ (rest_made _ _ _ _ _ first name free ∙ same name)
    (refused.left name named (told_as (λ tells. IsTrue (tells name)) _ _
    outputs.kept (told_as (λ tells. IsTrue (tells name)) _ _ inputs.kept told)))))
    (λ name free other. others name other ∙ (rest_made _ _ _ _ _ first name free ∙ same name)))

-- if an output is refused as it is made, no output and no report leads to an input
pub returns-in_err-outlets-clause-spared : goal.returns-in_err-outlets-clause-spared
returns-in_err-outlets-clause-spared g c = λ name made told leads.
    let inputs = c.in_ok-feeds.ensures in
    let told_1 = told_as (λ tells. IsTrue (tells name)) _ _ inputs.kept told in
    let led = leads_as _ _ inputs.kept in
    absurd (leads_nowhere
    (filed (g.T.Files.state c.args.files.now) (asking_of c.args.request.now)) _ _ _
    (ap (λ (files : FilesState). files.is_open) c.in_err-outlets.ensures.kept)
    (rw led at (c.input_among_outputs.ensures.none c.in_default.is))
    (rw led at (c.input_as_report.ensures.none c.if-input_as_report.false))
    name made told_1 leads)

-- if the report is refused as it is made, neither it nor an output leads to an input
pub returns-in_err-report-clause-spared : goal.returns-in_err-report-clause-spared
returns-in_err-report-clause-spared g c = λ name made told leads.
    let inputs = c.in_ok-feeds.ensures in
    let told_1 = told_as (λ tells. IsTrue (tells name)) _ _ inputs.kept told in
    let led = leads_as _ _ inputs.kept in
    absurd (leads_nowhere
    (filed (g.T.Files.state c.args.files.now) (asking_of c.args.request.now)) _ _ _
    (ap (λ (files : FilesState). files.is_open) c.in_err-report.ensures.kept
    ∙ ap (λ (files : FilesState). files.is_open) c.in_ok-outlets.ensures.kept)
    (rw led at (c.input_among_outputs.ensures.none c.in_default.is))
    (rw led at (c.input_as_report.ensures.none c.if-input_as_report.false))
    name made told_1 leads)

-- if everything is opened, no output and no report leads to an input
pub returns-clause-spared : goal.returns-clause-spared
returns-clause-spared g c = λ name made told leads.
    let inputs = c.in_ok-feeds.ensures in
    let told_1 = told_as (λ tells. IsTrue (tells name)) _ _ inputs.kept told in
    let led = leads_as _ _ inputs.kept in
    absurd (leads_nowhere
    (filed (g.T.Files.state c.args.files.now) (asking_of c.args.request.now)) _ _ _
    (ap (λ (files : FilesState). files.is_open) c.in_ok-report.ensures.kept
    ∙ ap (λ (files : FilesState). files.is_open) c.in_ok-outlets.ensures.kept)
    (rw led at (c.input_among_outputs.ensures.none c.in_default.is))
    (rw led at (c.input_as_report.ensures.none c.if-input_as_report.false))
    name made told_1 leads)

-- the devices are ready, the feeds have the bytes of the inputs, and other files are the same
pub returns-clause-opened : goal.returns-clause-opened
returns-clause-opened g c =
    let a = filed (g.T.Files.state c.args.files.now) (asking_of c.args.request.now) in
    let inputs = c.in_ok-feeds.ensures in
    let outputs = c.in_ok-outlets.ensures in
    let report = c.in_ok-report.ensures in
    let led_1 = leads_as _ _ inputs.kept in
    let led_2 = leads_as _ _ outputs.kept ∙ led_1 in
    let made = rw led_1 at outputs.made in
    let others = rw led_2 at report.others in
    let same = same_as _ _ inputs.kept in
    record {
      ready = record {
        form = inputs.opened.form;
        fresh = inputs.opened.fresh;
        healthy = made.healthy;
        log = made.log;
        empty =
            let P : FilesState → Type 0 = λ s. AreEmpty a s.tells
            (outlet_states g.T.Target.Outlet.state c.in_ok-outlets.outlets) in
            subst P (sym report.kept) (subst P (sym outputs.kept) made.empty);
        theirs =
            let P : FilesState → Type 0 =
            λ s. WriteTheirs a s (outlet_states g.T.Target.Outlet.state c.in_ok-outlets.outlets) in
            subst P (sym report.kept) (subst P (sym outputs.kept) made.theirs);
        held = held_as a _ _ _ report.kept
            (λ out name named told. report.held name told
            (five_held _ _ _ _ made.made out name named told));
        report_made = rw led_2 at report.made;
      };
      fed = inputs.opened.fed;
      apart = λ told.
          no_inputs a _ _ inputs.open
          (rw led_1 at (c.input_among_outputs.ensures.none c.in_default.is))
          (rw led_1 at (c.input_as_report.ensures.none c.if-input_as_report.false))
          (told_as (AreInputsTold a.inputs) _ _ inputs.kept told);
      rest = λ name free other. others name other
          ∙ (rest_made _ _ _ _ _ made.made name free ∙ same name);
    }
