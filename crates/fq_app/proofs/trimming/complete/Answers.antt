use Rattle.std.proofs.Common.{◌≡◌, ◌∙◌, ℕ, IsTrue, IsSome, Ok, Some, Option, [], refl, sym, ap, subst, true, None}
use Rattle.fq_pair.specs.declared.side.Side.TheVariants.{Forward, Reverse}
use Rattle.fq_run.specs.Devices.{outlet_states}
use Rattle.fq_pair.specs.declared.fault.InputFault.TheVariants.{Text, NamesDiffer}
use Rattle.fq_pair.specs.Forms.{Form, names_of_pair}
use Rattle.fq_pair.specs.Mates.{MateNames}
use Rattle.fq_text.specs.Devices.{FeedState}
use Rattle.fq_text.specs.declared.encoding.Encoding.{Encoding}
use Rattle.fq_text.specs.declared.memory.MemoryRefused.{MemoryRefused}
use Rattle.fq_text.specs.declared.seen.SystemError.{SystemError}
use Rattle.fq_run.specs.Outcome.{Outcome}
use Rattle.fq_run.specs.Outcome.TheVariants.{Input}
use Rattle.fq_run.specs.Endings.{AreTold, ends_whole, AreItsNames}
use Rattle.fq_app_words.specs.Requests.{asking_of}
use Rattle.std.specs.Option.{option_map}
use Rattle.fq_app_files.specs.Judging.{settings_of}
use Rattle.fq_app_files.specs.Making.{AreOutputsStored}
use Rattle.fq_app_files.specs.Completing.{AreFeedsCounted, IsReportStored}
use Rattle.fq_app_files.specs.Reporting.{TookReport}
use Rattle.fq_app_files.specs.declared.reporting.Reported.{Reported}
use Rattle.fq_app_files.specs.Trimming.{filed, opened_of, left_of, run_in, AreEmpty, AreHeld, AreInputsTold, HasOwnName, WriteTheirs, WritesReport}
use Rattle.fq_app_files.proofs.FiledLemmas.{settings_filed, theirs_after}
use Rattle.fq_files.specs.States.{FilesState, Keys}
use Rattle.fq_files.proofs.StateLemmas.{same_as, store_fail, then_store, told_as, told_before}
use Rattle.fq_run.specs.Outcomes.{is_unmatched}
use Rattle.fq_run_core.specs.declared.outlets.Outlets.{Outlets}
use Rattle.fq_app_files.specs.Faults.{settled}
use Rattle.fq_app_files.specs.declared.feeds.InputsSeen.{InputsSeen}
use Rattle.fq_app_files.specs.declared.seeing.EndingSeen.{EndingSeen}
use Rattle.fq_app_files.proofs.StoreLemmas.{all_hold}
use Rattle.fq_app_files.proofs.EndingLemmas.{ends_so}
use Rattle.fq_app_files.proofs.FailureLemmas.{as_it_is, fails_as_told, feed_sound, not_lane, outlets_flushed, outlets_sound}
use Rattle.fq_app_files.proofs.CompletingLemmas.{IsHeld, first_pairs, report_of_run, sides_in, trims_files}
use Rattle.fq_app_files.proofs.OpeningLemmas.{inputs_kept}
use Rattle.fq_app_files.specs.Seeing.{InputsMaySay, IsReportError, LookAsTheyAre, OutputsMaySay, OutputsTellWhy, seen_when}
use Rattle.fq_app_files.proofs.SaidLemmas.{is_said, its_error}
use Rattle.fq_app.proofs.trimming.complete.Goals as goal

-- names are lost only if the run has the witness that memory was refused
names_lost : (form : Form) (e : Encoding) (f r : FeedState) (o : Outcome) (names : Option MateNames)
    (refused : Option MemoryRefused) (said : InputsSeen) (errors : Outlets (Option SystemError))
    (seen : EndingSeen) → seen ≡ seen_when names said errors (settled o) →
    AreItsNames form e f r o names refused → is_unmatched o ≡ true → seen.unmatched ≡ None →
    IsSome refused
names_lost form e f r (Input (NamesDiffer k)) None refused said errors seen is its at none = its
names_lost form e f r (Input (NamesDiffer k)) (Some names) refused said errors seen is its at none =
    absurd (let bad = sym (ap (λ (s : EndingSeen). s.unmatched) is) ∙ none in cc)
names_lost form e f r _ names refused said errors seen is its at none = absurd cc

-- names that are told are those of the pair
names_told : (form : Form) (e : Encoding) (f r : FeedState) (o : Outcome) (names : Option MateNames)
    (refused : Option MemoryRefused) (said : InputsSeen) (errors : Outlets (Option SystemError))
    (seen : EndingSeen) (k : ℕ) (these : MateNames) →
    seen ≡ seen_when names said errors (settled o) → AreItsNames form e f r o names refused →
    settled o ≡ o → settled o ≡ Input (NamesDiffer k) → seen.unmatched ≡ Some these →
    IsTrue f.tells → IsTrue r.tells →
    names_of_pair k form e f.to_come r.to_come ≡ Some these
names_told form e f r o names refused said errors seen k these is its settles at told tells tells' =
    let same : names ≡ Some these =
    sym (ap (λ (s : EndingSeen). s.unmatched) (is ∙ ap (seen_when names said errors) at)) ∙ told in
    let at_outcome : Outcome → Type 0 = λ o. AreItsNames form e f r o names refused in
    let at_names : Option MateNames → Type 0 =
    λ n. AreItsNames form e f r (Input (NamesDiffer k)) n refused in
    subst at_names same (subst at_outcome (sym settles ∙ at) its) tells tells'

-- a run on opened devices is completed, has its witness, and makes no further name an input
pub returns : goal.returns
returns g c =
    let a = asking_of c.args.request.now in
    let files = g.T.Files.state in
    let started = files c.args.files.now in
    let fed = files c.inputs_done-inputs.new.files in
    let kept = files c.store-errors.new.files in
    let ended = files c.store_report-reported.new.files in
    let done = c.inputs_done-inputs.ensures in
    let stored = c.store-errors.ensures in
    let reported = c.store_report-reported.ensures in record {
      witnessed = c.run-account.ensures.witnessed;
      no_gate = c.run-account.ensures.no_gate;
      names = let inputs = opened_of g.T.In.Feed.state c.args.devices.feeds in
          names_lost inputs.form c.args.settings.now.encoding inputs.forward inputs.reverse
          c.run-account.result.account.outcome c.run-account.result.unmatched
          c.run-account.result.account.refused c.inputs_done-inputs.result c.store-errors.result
          _ c.seen_of.ensures c.run-account.ensures.names;
      report_says =
          let P : FilesState → Type 0 = λ s. IsReportError (filed s a) s.may_say
          c.store_report-reported.result.0 c.store_report-reported.result.1 in
          subst P done.kept (subst P stored.kept reported.says);
      kept = then_store started fed _ (store_fail started fed done.kept)
          (then_store fed kept _ stored.kept reported.kept);
      completed = λ start since opened settings.
          let f = filed start a in
          let choices = c.args.settings.now in
          let state = g.T.Target.Outlet.state in
          let inputs = opened_of g.T.In.Feed.state c.args.devices.feeds in
          let before = outlet_states state c.args.devices.outlets in
          let after = outlet_states state c.run-account.new.outlets in
          let report = option_map state c.args.devices.report in
          let left = left_of g.T.In.Feed.state c.run-account.result.feeds in
          let account = c.run-account.result.account in
          let run = run_in inputs before after left account in
          let right : settings_of f ≡ Ok choices = settings_filed start a ∙ settings in
          let counted_at : FilesState → Type 0 =
          λ s. AreFeedsCounted (filed s a).inputs left started fed in
          let counted : counted_at start = subst counted_at since done.counted in
          let outputs_at : FilesState → Type 0 =
          λ s. AreOutputsStored (filed s a) after fed kept in
          let outputs : outputs_at start =
          subst outputs_at since (subst outputs_at done.kept stored.stored) in
          let reports_at : FilesState → Type 0 =
          λ s. IsReportStored a (filed s a) c.encoding.result account report
          c.store_report-reported.result.0 kept ended in
          let reports : reports_at start =
          subst reports_at since (subst reports_at done.kept
          (subst reports_at stored.kept reported.stored)) in
          let same = same_as _ _ done.kept in
          let told_on : (told : Keys → Type 0) → told start.tells → told kept.tells =
          λ told known. told_as told _ _ stored.kept
          (told_as told _ _ done.kept (told_as told _ _ since known)) in
          let are_told : AreInputsTold f.inputs start.tells → AreTold run =
          λ told. record {
            forward = (opened.fed.forward told.0).told;
            reverse = (opened.fed.reverse told.1).told;
          } in
          let theirs : WriteTheirs f kept after =
          let P : FilesState → Type 0 = λ s. WriteTheirs f s after in
          subst P (sym stored.kept) (subst P (sym done.kept)
          (theirs_after f started before after c.run-account.ensures.files opened.ready.theirs)) in
          let its : WritesReport f kept report =
          let P : FilesState → Type 0 = λ s. WritesReport f s report in
          subst P (sym stored.kept) (subst P (sym done.kept) opened.ready.report_made.theirs) in
          let there : FilesState → Type 0 = λ s. AreHeld f s.tells s.bytes in
          let all_stored = outputs.stored
          (told_as (λ tells. AreHeld f tells fed.bytes) _ _ stored.kept
          (subst there (sym done.kept) opened.ready.held)) theirs in
          let held : AreInputsTold f.inputs start.tells →
          IsHeld f start.tells choices start.bytes ended.bytes run =
          λ told. record {
            settings = right;
            form = opened.ready.form;
            told = are_told told;
            forward_is = (opened.fed.forward told.0).bytes_are;
            reverse_is = (opened.fed.reverse told.1).bytes_are;
            log = opened.ready.log;
            empty = told_before (λ tells. AreEmpty f tells before) _ _ since opened.ready.empty;
            hold = λ out name outlet own at. reports.others its name own.report
                ∙ all_hold f _ after _ all_stored.hold out name outlet
                (told_on (λ tells. HasOwnName f tells out name) own) at;
          } in
          record {
            trims = λ told whole. trims_files f start.tells choices _ _ run (held told)
                (c.run-account.ensures.whole whole (are_told told));
            ended = λ told other. first_pairs f start.tells choices _ _ run (held told)
                (c.run-account.ensures.every other);
            rest = λ name free other. reports.others its name other
                ∙ (all_stored.rest name free ∙ (same name ∙ opened.rest name free other));
            due = reports.due;
            not_due = reports.not_due;
            report = λ told name named own.
                let at_name : Keys → Type 0 = λ tells. IsTrue (tells name) in
                let took = reports.took
                (opened.ready.report_made.empty name named (told_as at_name _ _ since own)) its
                name named (told_on at_name own) in
                report_of_run a f choices _ _ run account _ _ name took.0 settings opened.ready.form
                (opened.fed.forward told.0).bytes_are
                (opened.fed.reverse told.1).bytes_are
                refl refl refl (λ whole. c.run-account.ensures.whole whole (are_told told))
                c.encoding.ensures reports.due took.1 took.2;
            unreported = λ none name named own.
                let at_name : Keys → Type 0 = λ tells. IsTrue (tells name) in
                let took = reports.took
                (opened.ready.report_made.empty name named (told_as at_name _ _ since own)) its
                name named (told_on at_name own) in
                let P : Reported → Type 0 =
                λ r. TookReport r a c.encoding.result account [] took.0 in
                took.1 ∙ ap Some (subst P none took.2);
            failed = λ other. fails_as_told f start choices inputs run left _ _ _
                ended right refl refl opened.ready.log (sides_in inputs before after left account)
                opened.fed (c.run-account.ensures.every other) counted outputs.counted
                reports.still;
            as_it_is = λ told.
                as_it_is choices run (λ whole. c.run-account.ensures.whole whole (are_told told));
            said = λ told.
                let is = as_it_is choices run (λ whole. c.run-account.ensures.whole whole
                (are_told told)) in
                is_said start.looks f start.bytes started.bytes account.outcome left
                c.inputs_done-inputs.result c.store-errors.result c.run-account.result.unmatched _
                c.seen_of.ensures c.run-account.ensures.returned
                (inputs_kept f start.bytes started.bytes (opened.apart told)
                opened.rest)
                (let looks_at : FilesState → Type 0 =
                λ s. IsTrue s.looks → LookAsTheyAre (filed s a).inputs started.bytes left
                c.inputs_done-inputs.result in
                subst looks_at since done.looks) done.why
                (λ side fault at.
                let outcome_is : account.outcome ≡ Input (Text side fault) = sym is ∙ at in
                let whole : IsTrue (ends_whole account.outcome) =
                subst (λ (o : Outcome). IsTrue (ends_whole o)) (sym outcome_is) refl in
                let every = c.run-account.ensures.every (not_lane account.outcome whole) in (
                  feed_sound choices run every whole Forward,
                  feed_sound choices run every whole Reverse,
                ))
                (λ k these own forward reverse at named set first second.
                let same : own.encoding ≡ choices.encoding =
                (let e = sym set ∙ right in let c : own ≡ choices = cc in ap (λ x. x.encoding) c) in
                let one : forward ≡ inputs.forward.to_come =
                (let e = sym first ∙ (opened.fed.forward told.0).bytes_are in cc) in
                let two : reverse ≡ inputs.reverse.to_come =
                (let e = sym second ∙ (opened.fed.reverse told.1).bytes_are in cc) in
                let formed = sym opened.ready.form in
                (λ i. names_of_pair k (formed i) (same i) (one i) (two i))
                ∙ names_told inputs.form choices.encoding inputs.forward inputs.reverse
                account.outcome c.run-account.result.unmatched account.refused
                c.inputs_done-inputs.result c.store-errors.result _ k these c.seen_of.ensures
                c.run-account.ensures.names is at named (are_told told).forward
                (are_told told).reverse);
            its_error =
                let inputs_say : FilesState → Type 0 =
                λ s. InputsMaySay (filed s a).inputs s.may_say c.inputs_done-inputs.result in
                let outputs_say : FilesState → Type 0 =
                λ s. OutputsMaySay (filed s a) s.may_say c.store-errors.result in
                let outputs_tell : FilesState → Type 0 =
                λ s. OutputsTellWhy (filed s a) after c.store-errors.result in
                its_error f start.may_say c.inputs_done-inputs.result c.store-errors.result
                c.run-account.result.unmatched (subst inputs_say since done.says)
                (subst outputs_say since (subst outputs_say done.kept stored.says))
                choices run left _ c.seen_of.ensures opened.ready.log
                (sides_in inputs before after left account) c.run-account.ensures.every done.why
                (subst outputs_tell since (subst outputs_tell done.kept stored.why));
            report_failed = reports.failed;
            sound = λ whole written.
                let every = c.run-account.ensures.every (not_lane account.outcome whole) in
                reports.sound written
                ∙ (outputs.counted.sound (outlets_sound choices run every whole
                opened.ready.healthy)
                ∙ (counted.sound (feed_sound choices run every whole Forward)
                (feed_sound choices run every whole Reverse)
                ∙ ap (λ (state : FilesState). state.has_failed) since));
            flushed = λ ends written.
                let whole = ends_so account.outcome _ refl ends in
                let every = c.run-account.ensures.every (not_lane account.outcome whole) in
                reports.flushed ends written
                ∙ (outputs.flushed (outlets_flushed choices run every whole)
                ∙ (ap (λ (state : FilesState). state.is_unflushed) done.kept
                ∙ ap (λ (state : FilesState). state.is_unflushed) since));
          };
    }
