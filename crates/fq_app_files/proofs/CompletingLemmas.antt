-- A run that was made, and what its files hold.
use Rattle.std.proofs.Common.{◌≡◌, ◌≢◌, ◌⊎◌, ◌++◌, ◌∙◌, ℕ, IsTrue, Option, Some, None, is_some, Ok, List, [], refl, subst}
use Rattle.fq_files.specs.Holding.{Holding}
use Rattle.fq_files.specs.States.{Keys}
use Rattle.fq_text.specs.declared.encoding.Encoding.{Encoding}
use Rattle.fq_text.specs.Devices.{FeedState}
use Rattle.fq_pair.specs.declared.side.Side.{Side}
use Rattle.fq_pair.specs.declared.side.Side.TheVariants.{Forward, Reverse}
use Rattle.fq_pair.specs.Forms.{Form}
use Rattle.fq_pair.specs.Outputs.{texts_of, text_of}
use Rattle.fq_run_core.specs.Choices.{Choices}
use Rattle.fq_run_core.specs.declared.outcome.Outcome.{Outcome}
use Rattle.fq_run_core.specs.Devices.{OutletStates}
use Rattle.fq_run_core.specs.Endings.{Run, EveryEnding, IsTrimmed, AreTold, all_pairs, ends_whole, feed_left}
use Rattle.fq_run_core.specs.Fates.{failed_outlet, part_begun}
use Rattle.fq_app_words.specs.Requests.{Asking}
use Rattle.fq_app_files.specs.Judging.{settings_of}
use Rattle.fq_app_files.specs.Faults.{outcome_status}
use Rattle.fq_app_files.specs.Trimming.{Opened, AreEmpty, TrimsPairs, TrimsFiles, pairs_of, run_in}
use Rattle.fq_app_files.specs.Leaving.{HoldFirstPairs}
use Rattle.fq_app_files.specs.Reporting.{TookReport, ReportHeld, report_of}
use Rattle.fq_app_files.specs.declared.account.Account.{Account}
use Rattle.fq_app_files.specs.declared.reporting.Reported.{Reported}
use Rattle.fq_app_files.specs.declared.reporting.Reported.TheVariants as report
use Rattle.fq_app_files.proofs.LeavingLemmas.{TrimsFirst, first_of}
use Rattle.fq_app_files.proofs.StoreLemmas.{HoldTaken}
use Rattle.fq_app_files.proofs.TextLemmas.{texts_held}
use Rattle.fq_app_files.proofs.EndingLemmas.{ends_so}
use Rattle.fq_app_files.proofs.ReportingLemmas.{report_held, text_is}

-- The feeds of a run have the bytes of their files, its outlets began empty, and the files of the
-- outputs hold what the outlets have taken.
pub record IsHeld (a : Asking) (tells : Keys) (c : Choices) (old new : Holding) (run : Run) :
    Type 0 where
  pub settings : settings_of a ≡ Ok c
  pub form : run.form ≡ a.inputs.form
  -- the bytes of the feeds are known to the proof
  pub told : AreTold run
  pub forward_is : old a.inputs.forward ≡ Some run.forward.to_come
  pub reverse_is : old a.inputs.reverse ≡ Some run.reverse.to_come
  -- there is an outlet for the trim log just if the request names one
  pub log : is_some run.outlets.log ≡ is_some a.log
  pub empty : AreEmpty a tells run.outlets
  pub hold : HoldTaken a tells run.outlets_left new

module _ (a : Asking) (tells : Keys) (c : Choices) (old new : Holding) (run : Run)
    (held : IsHeld a tells c old new run) where
  trims_pairs : IsTrimmed c run →
      TrimsPairs c (pairs_of c a.inputs.form run.forward.to_come run.reverse.to_come) run.outlets
      run.outlets_left run.outcome run.counts
  trims_pairs trimmed =
      let P : Form → Type 0 =
      λ form. TrimsPairs c (pairs_of c form run.forward.to_come run.reverse.to_come) run.outlets
      run.outlets_left run.outcome run.counts in
      subst P held.form (record {
        took = trimmed.took;
        counts_are = trimmed.counts;
        outcome_is =
            trimmed.outcome;
      })

  -- a run that trimmed all pairs trimmed all pairs of the files
  pub trims_files : IsTrimmed c run → TrimsFiles a tells old new run.outcome run.counts
  trims_files ended =
      let trimmed = trims_pairs ended in
      record {
        choices = c;
        forward = run.forward.to_come;
        reverse = run.reverse.to_come;
        settings = held.settings;
        forward_is = held.forward_is;
        reverse_is = held.reverse_is;
        texts = texts_held a tells run.outlets run.outlets_left
            (λ out. text_of out (texts_of c.steps (pairs_of c a.inputs.form run.forward.to_come
            run.reverse.to_come).mates)) None new held.log held.empty trimmed.took held.hold;
        counts_are = trimmed.counts_are;
        outcome_is = trimmed.outcome_is;
      }

  -- at any other ending the files hold the first pairs
  pub first_pairs : EveryEnding c run → HoldFirstPairs a tells old new run.outcome
  first_pairs every =
      let P : Form → Type 0 =
      λ form. TrimsFirst c (pairs_of c form run.forward.to_come run.reverse.to_come) run.outlets
      run.outlets_left run.outcome in
      let trimmed = subst P held.form (first_of c run every held.told) in
      record {
        choices = c;
        forward = run.forward.to_come;
        reverse = run.reverse.to_come;
        whole = trimmed.whole;
        fate = trimmed.fate;
        settings = held.settings;
        forward_is = held.forward_is;
        reverse_is = held.reverse_is;
        texts = texts_held a tells run.outlets run.outlets_left
            (λ out. text_of out (texts_of c.steps trimmed.whole) ++ part_begun c.steps trimmed.fate
            out) (failed_outlet trimmed.fate) new held.log held.empty trimmed.took held.hold;
        cut_short = trimmed.cut_short;
        first = trimmed.first;
        told = trimmed.told;
      }

-- What the report of a run holds once it is written.
pub report_of_run : (a f : Asking) (c : Choices) (old new : Holding) (run : Run) (account : Account)
    (encoding : Encoding) (reported : Reported) (file bytes : List ℕ)
    → settings_of a ≡ Ok c → run.form ≡ a.inputs.form →
    old f.inputs.forward ≡ Some run.forward.to_come →
    old f.inputs.reverse ≡ Some run.reverse.to_come
    → account.outcome ≡ run.outcome → account.counts ≡ run.counts → account.tally ≡ run.tally
    → (IsTrue (ends_whole run.outcome) → IsTrimmed c run) → encoding ≡ c.encoding
    → (reported ≢ report.NotDue → (outcome_status account.outcome ≡ 0)
    ⊎ (outcome_status account.outcome ≡ 3))
    → new file ≡ Some bytes → TookReport reported a encoding account [] bytes →
    ReportHeld reported a f old new file
report_of_run a f c old new run account encoding reported file bytes settings form forward_is
    reverse_is outcome counts tally trims encoding_is due at took =
    let R : Encoding → Type 0 = λ e. TookReport reported a e account [] bytes in
    report_held a f c old new account reported file bytes
    (λ text is wanted.
    let W : Outcome → Type 0 = λ o. IsTrue (ends_whole o) in
    let trimmed = trims (subst W outcome (ends_so account.outcome _ refl (due wanted))) in
    let P : Form → Type 0 =
    λ f. text ≡ report_of a c (pairs_of c f run.forward.to_come run.reverse.to_come) in
    record {
      choices = c;
      forward = run.forward.to_come;
      reverse = run.reverse.to_come;
      settings = settings;
      forward_is = forward_is;
      reverse_is = reverse_is;
      text_is = subst P form (text_is a c (all_pairs c run) account text is (counts
          ∙ trimmed.counts) (outcome ∙ trimmed.outcome) (tally ∙ trimmed.tally));
    }) at (subst R encoding_is took)

-- the feeds that came back
pub sides_in : (inputs : Opened) (before after : OutletStates) (left : Side →
    Option FeedState) (account : Account) (side : Side) →
    feed_left side (run_in inputs before after left account) ≡ left side
sides_in inputs before after left account Forward = refl
sides_in inputs before after left account Reverse = refl
