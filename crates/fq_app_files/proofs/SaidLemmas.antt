-- What is said of an outcome.
use Rattle.std.proofs.Common.{◌≡◌, ◌≢◌, ◌∙◌, ℕ, Bool, IsTrue, IsSome, Option, Some, None, is_some, List, refl, sym, ap, subst, arith}
use Rattle.fq_text.specs.Devices.{FeedState}
use Rattle.fq_text.specs.declared.seen.SystemError.{SystemError}
use Rattle.fq_text.specs.declared.fault.TextFault.{TextFault}
use Rattle.fq_files.specs.Holding.{Holding}
use Rattle.fq_files.specs.States.{Errors, FilesState, MaySay, OnlyStores}
use Rattle.fq_files.proofs.StateLemmas.{then_store}
use Rattle.fq_pair.specs.declared.out.Out.{Out}
use Rattle.fq_pair.specs.declared.out.Out.TheVariants.{ForwardPaired, ForwardUnpaired, ReversePaired, ReverseUnpaired, Log}
use Rattle.fq_pair.specs.Mates.{MateNames}
use Rattle.fq_pair.specs.declared.side.Side.{Side}
use Rattle.fq_pair.specs.declared.side.Side.TheVariants.{Forward, Reverse}
use Rattle.fq_pair.specs.declared.fault.InputFault.TheVariants.{Text, MateMissing, NamesDiffer}
use Rattle.fq_run_core.specs.declared.outcome.Outcome.{Outcome}
use Rattle.fq_run_core.specs.declared.outcome.Outcome.TheVariants.{Spawn, Lane, Gate, Memory, Write, Read, Endless, Input, Finished}
use Rattle.fq_run_core.specs.declared.outlets.Outlets.{Outlets}
use Rattle.fq_run_core.specs.Choices.{Choices}
use Rattle.fq_run_core.specs.Endings.{EveryEnding, Run, failures_in, feed_left}
use Rattle.fq_app_words.specs.Requests.{Asking, input_name, output_name}
use Rattle.fq_app_files.specs.Faults.{settled}
use Rattle.fq_app_files.specs.Trimming.{filed}
use Rattle.fq_app_files.proofs.FailureLemmas.{wanted_output, write_failed}
use Rattle.fq_app_files.specs.Seeing.{AreNamesOfPair, InputsMaySay, InputsTellWhy, IsItsError, IsSaid, LookAsTheyAre, OutputsMaySay, OutputsTellWhy, error_of, file_of, seen_when}
use Rattle.fq_app_files.specs.declared.feeds.InputsSeen.{InputsSeen}
use Rattle.fq_app_files.specs.declared.seeing.EndingSeen.{EndingSeen}

there : (o : Option FeedState) → (o ≡ None → ⊥) → IsSome o
there None none = absurd (none refl)
there (Some x) none = refl

-- a run that was refused a thread has not ended at a fault
not_spawn : (outcome : Outcome) (side : Side) (fault : TextFault) →
    settled outcome ≡ Input (Text side fault) → outcome ≡ Spawn → ⊥
not_spawn outcome side fault is spawn =
    let bad : Spawn ≡ Input (Text side fault) = sym (ap settled spawn) ∙ is in cc

on_side : (left : Side → Option FeedState) (side : Side) →
    (failures_in (left Forward) ≡ 0) × (failures_in (left Reverse) ≡ 0) →
    failures_in (left side) ≡ 0
on_side left Forward both = both.0
on_side left Reverse both = both.1

-- what the inputs say is said of them
pub is_said : (looks : Bool) (f : Asking) (old now : Holding) (outcome : Outcome)
    (left : Side → Option FeedState) (said : InputsSeen) (errors : Outlets (Option SystemError))
    (unmatched : Option MateNames) (seen : EndingSeen) →
    seen ≡ seen_when unmatched said errors (settled outcome) →
    ((side : Side) → left side ≡ None → outcome ≡ Spawn) →
    ((side : Side) → now (input_name f.inputs side) ≡ old (input_name f.inputs side)) →
    (IsTrue looks → LookAsTheyAre f.inputs now left said) → InputsTellWhy left said →
    ((side : Side) (fault : TextFault) → settled outcome ≡ Input (Text side fault) →
    (failures_in (left Forward) ≡ 0) × (failures_in (left Reverse) ≡ 0)) →
    AreNamesOfPair f old (settled outcome) seen.unmatched →
    IsSaid looks f old (settled outcome) seen
is_said looks f old now outcome left said errors unmatched seen is returned kept as_they_are
    fails sound named =
    record {
      look = λ known side fault bytes at held.
          ap (λ (s : EndingSeen). s.look) (is ∙ ap (seen_when unmatched said errors) at)
          ∙ as_they_are known side bytes
          (there (left side) (λ none. not_spawn outcome side fault at (returned side none)))
          (kept side ∙ held);
      no_error = λ side fault at.
          ap (λ (s : EndingSeen). s.error) (is ∙ ap (seen_when unmatched said errors) at)
          ∙ (fails side).0 (on_side left side (sound side fault at));
      named = named;
    }

-- where no error is told, each that is told is right
pub none_said : (may_say : Errors) (named : Option (List ℕ)) (told : Option SystemError) →
    told ≡ None → MaySay may_say named told
none_said may_say named told none error is =
    let bad : None ≡ Some error = sym none ∙ is in absurd cc

-- Four outlets are handed back one after the other, and a fifth or none, and each says what a
-- device of its output may say.
module _ (a : Asking) (start one two three four : FilesState)
    (errors : Outlets (Option SystemError)) (kept_1 : OnlyStores start one)
    (kept_2 : OnlyStores one two) (kept_3 : OnlyStores two three)
    (kept_4 : OnlyStores three four) where
  abbrev Says : FilesState → Out → Type 0
  Says files out =
      MaySay files.may_say (output_name (filed files a) out) (error_of errors out)

  since : (mid : FilesState) (out : Out) → OnlyStores start mid → Says mid out → Says start out
  since mid out kept = subst (λ (files : FilesState). Says files out) kept

  -- what the devices of all outputs say, of the errors that could be said at the start
  pub four_say : Says start ForwardPaired → Says one ForwardUnpaired → Says two ReversePaired →
      Says three ReverseUnpaired → Says four Log →
      OutputsMaySay (filed start a) start.may_say errors
  four_say first second third fourth log ForwardPaired = first
  four_say first second third fourth log ForwardUnpaired = since one ForwardUnpaired kept_1 second
  four_say first second third fourth log ReversePaired =
      since two ReversePaired (then_store start one two kept_1 kept_2) third
  four_say first second third fourth log ReverseUnpaired =
      since three ReverseUnpaired
      (then_store start two three (then_store start one two kept_1 kept_2) kept_3) fourth
  four_say first second third fourth log Log =
      let kept = then_store start two three (then_store start one two kept_1 kept_2) kept_3 in
      since four Log (then_store start three four kept kept_4) log

module _ (a : Asking) (may_say : Errors) (said : InputsSeen) (errors : Outlets (Option SystemError))
    (unmatched : Option MateNames) (inputs : InputsMaySay a.inputs may_say said)
    (outputs : OutputsMaySay a may_say errors) where
  error_when : (outcome : Outcome) →
      MaySay may_say (file_of a outcome) (seen_when unmatched said errors outcome).error
  error_when (Write out) = outputs out
  error_when (Read side) = inputs side
  error_when (Input (Text side fault)) = inputs side
  error_when (Input (MateMissing side k)) = none_said may_say None None refl
  error_when (Input (NamesDiffer k)) = none_said may_say None None refl
  error_when (Endless side) = none_said may_say None None refl
  error_when Spawn = none_said may_say None None refl
  error_when Lane = none_said may_say None None refl
  error_when Gate = none_said may_say None None refl
  error_when Memory = none_said may_say None None refl
  error_when Finished = none_said may_say None None refl

  -- the error that is told is one of the device that the outcome names, and it is told if that
  -- device has failed
  pub its_error : (c : Choices) (run : Run) (left : Side → Option FeedState) (seen : EndingSeen) →
      seen ≡ seen_when unmatched said errors (settled run.outcome) →
      is_some run.outlets.log ≡ is_some a.log → ((side : Side) → feed_left side run ≡ left side) →
      (run.outcome ≢ Lane → EveryEnding c run) → InputsTellWhy left said →
      OutputsTellWhy a run.outlets_left errors → IsItsError a may_say run.outcome seen
  its_error c run left seen is log sides every fed stored =
      let at : (outcome : Outcome) → run.outcome ≡ outcome →
      IsSome (seen_when unmatched said errors (settled outcome)).error → IsSome seen.error =
      λ outcome named. subst (λ (told : Option SystemError). IsSome told) (sym
      (ap (λ (s : EndingSeen). s.error) is
      ∙ ap (λ (o : Outcome). (seen_when unmatched said errors (settled o)).error) named)) in
      record {
        may = subst (λ (s : EndingSeen). MaySay may_say (file_of a (settled run.outcome)) s.error)
            (sym is) (error_when (settled run.outcome));
        write = λ out named.
            let no_lane : run.outcome ≢ Lane = λ lane. let bad : Write out ≡ Lane =
            sym named ∙ lane in absurd cc in
            let had = write_failed c run (every no_lane) out named in
            let name = wanted_output a run.outlets log out had.was in
            at (Write out) named ((stored out name.0 had.outlet name.1 had.is).1 had.some);
        read = λ side named.
            let no_lane : run.outcome ≢ Lane = λ lane. let bad : Read side ≡ Lane =
            sym named ∙ lane in absurd cc in
            let one = subst (λ (feed : Option FeedState). failures_in feed ≡ 1) (sides side)
            ((every no_lane).outcome.read side named) in
            at (Read side) named ((fed side).1 (omega (arith, one)));
      }
