-- What a refusal leaves, in the order in which inputs are opened and outputs are made.
use Rattle.std.proofs.Common.{◌≡◌, ◌≢◌, ◌⊎◌, ◌∙◌, ℕ, Bool, true, false, IsTrue, IsSome, Option, Some, None, option_map, Ok, Err, Result, List, refl, sym, ap, subst, inl, inr, ⊎_elim}
use Rattle.std.specs.Prelude.{if◌then◌else◌, unwrap_or}
use Rattle.fq_text.specs.Scores.{encoding_of}
use Rattle.fq_files.specs.Holding.{Holding}
use Rattle.fq_files.specs.States.{FilesState, MayRefuse, MayRefuseInput, OnlyOpens, OnlyWrites}
use Rattle.fq_files.specs.declared.files.Cause.{Cause}
use Rattle.fq_files.specs.declared.files.Cause.TheVariants as cause
use Rattle.fq_files.specs.declared.files.FileFault.{FileFault}
use Rattle.fq_files.specs.declared.files.FileFault.TheVariants.{Refused}
use Rattle.fq_files.proofs.StateLemmas.{same_as, told_as}
use Rattle.fq_pair.specs.declared.out.Out.{Out}
use Rattle.fq_pair.specs.declared.out.Out.TheVariants.{ForwardPaired, ForwardUnpaired, ReversePaired, ReverseUnpaired, Log}
use Rattle.fq_pair.specs.declared.side.Side.{Side}
use Rattle.fq_pair.specs.declared.side.Side.TheVariants.{Reverse}
use Rattle.fq_text.specs.declared.encoding.Encoding.{Encoding}
use Rattle.fq_run_core.specs.Devices.{place}
use Rattle.fq_trim.specs.declared.step.Step.{Step}
use Rattle.fq_trim.specs.declared.fault.StepFault.{StepFault}
use Rattle.fq_trim.specs.Words.{steps_of}
use Rattle.fq_run_core.specs.Choices.{Choices, checked}
use Rattle.fq_run_core.specs.declared.settings.BadSetting.{BadSetting}
use Rattle.fq_app_words.specs.Requests.{Asking, InputNames, input_name, is_input, output_name, same_log, same_name, report_is_input}
use Rattle.fq_app_files.specs.declared.refusal.Refusal.{Refusal}
use Rattle.fq_app_files.specs.declared.refusal.Refusal.TheVariants as why
use Rattle.fq_app_files.specs.Refusals.{status_of, IsMemory, IsRefusable}
use Rattle.fq_app_files.specs.Judging.{choices_of, judged, with_steps, with_encoding, settings_of, wrong_among, wrong_with}
use Rattle.fq_app_files.specs.Trimming.{KeepsUnnamed, filed}
use Rattle.fq_app_files.specs.Leaving.{TellsInputs, is_late}
use Rattle.fq_app_files.specs.Making.{Made, AreOutputsRefused, IsOutputRefused}
use Rattle.fq_app_files.specs.Opening.{AreNoInputs, IsRefused, MayLead, MayRefuseName}
use Rattle.fq_app_files.proofs.FiledLemmas.{named_filed}
use Rattle.fq_app_files.proofs.MakingLemmas.{this_or_other}

-- so is the report
pub report_is_refused : (a : Asking) (name : List ℕ) → a.report ≡ Some name →
    (P : List ℕ → Cause → Type 0) (fault : FileFault) (refusal : Refusal) →
    ((cause : Cause) → fault ≡ Refused cause → P name cause) →
    ((cause : Cause) × (fault ≡ Refused cause) × (refusal ≡ why.Report cause))
    ⊎ IsMemory refusal → IsRefusable a P refusal
report_is_refused a name named P fault refusal so is =
    let R : Refusal → Type 0 = λ r. IsRefusable a P r in
    ⊎_elim (λ report. subst R (sym report.2) (name, named, so report.0 report.1))
    (λ memory. subst R (sym memory.1) tt) is

-- a refusal that can come once both inputs are opened doesn't have exit status 2
pub late_status : (refusal : Refusal) → IsTrue (is_late refusal) → status_of refusal ≢ 2
late_status (why.Target out cause) late e = absurd (cc e)
late_status (why.Report cause) late e = absurd (cc e)
late_status (why.Memory lacked) late e = absurd (cc e)
late_status why.Encoding late e = absurd (cc late)
late_status (why.Step fault) late e = absurd (cc late)
late_status (why.Setting bad) late e = absurd (cc late)
late_status (why.SameName out) late e = absurd (cc late)
late_status (why.Source side cause) late e = absurd (cc late)
late_status why.SameReport late e = absurd (cc late)

-- outputs that were made before change nothing of what the refusal of the next one says
pub outputs_refused : (a : Asking) (refusal : Refusal) (out : Out) (old mid new : FilesState) →
    OnlyWrites old mid → Made a old.bytes (place out) mid →
    IsOutputRefused a out refusal mid new → AreOutputsRefused a refusal old new
outputs_refused a refusal out old mid new kept made refused = record {
  unmade = refused.unmade old.bytes made;
  refused = subst (λ (files : FilesState). IsRefusable a (MayRefuse files) refusal) kept
      refused.refused;
  after = refused.after;
  late = late_status refusal refused.after;
}

-- ---- before the first file is opened

-- a refusal that comes before the first file is opened
is_first : Refusal → Bool
is_first (why.Source side cause) = false
is_first (why.Target out cause) = false
is_first (why.Report cause) = false
is_first _ = true

judged_first : (r : Result Choices BadSetting) (report : Option (List ℕ)) (refusal : Refusal) →
    judged r report ≡ Err refusal → IsTrue (is_first refusal)
unfolding is_first
judged_first (Ok c) None refusal e = absurd cc
judged_first (Ok c) (Some report) refusal e = absurd cc
judged_first (Err bad) report refusal e = let is : why.Setting bad ≡ refusal = cc in
    subst (λ (r : Refusal). IsTrue (is_first r)) is refl

steps_first : (a : Asking) (encoding : Encoding) (r : Result (List Step) StepFault)
    (refusal : Refusal) → with_steps a encoding r ≡ Err refusal → IsTrue (is_first refusal)
unfolding is_first
steps_first a encoding (Ok steps) refusal e =
    judged_first (checked (choices_of a encoding steps)) a.report refusal e
steps_first a encoding (Err fault) refusal e = let is : why.Step fault ≡ refusal = cc in
    subst (λ (r : Refusal). IsTrue (is_first r)) is refl

encoding_first : (a : Asking) (o : Option Encoding) (refusal : Refusal) →
    with_encoding a o ≡ Err refusal → IsTrue (is_first refusal)
unfolding is_first
encoding_first a (Some encoding) refusal e = steps_first a encoding (steps_of a.steps) refusal e
encoding_first a None refusal e = let is : why.Encoding ≡ refusal = cc in
    subst (λ (r : Refusal). IsTrue (is_first r)) is refl

wrong_first : (a : Asking) (r : Result Choices Refusal) (same : Option Out) (same_report : Bool)
    (refusal : Refusal) → settings_of a ≡ r → wrong_among r same same_report ≡ Some refusal →
    IsTrue (is_first refusal)
unfolding is_first
wrong_first a (Err bad) same same_report refusal is e = let one : bad ≡ refusal = cc in
    subst (λ (r : Refusal). IsTrue (is_first r)) one
    (encoding_first a (encoding_of a.encoding) bad is)
wrong_first a (Ok c) (Some out) same_report refusal is e = let one : why.SameName out ≡ refusal =
    cc in subst (λ (r : Refusal). IsTrue (is_first r)) one refl
wrong_first a (Ok c) None true refusal is e = let one : why.SameReport ≡ refusal = cc in
    subst (λ (r : Refusal). IsTrue (is_first r)) one refl
wrong_first a (Ok c) None false refusal is e = absurd (cc e)

first_refused : (a f : Asking) (refusal : Refusal) (files : FilesState) →
    IsTrue (is_first refusal) → IsRefused a f refusal files files
unfolding is_first
first_refused a f why.Encoding files first =
    record {
      refused = tt;
      inputs = λ told. tt;
      left = λ name. refl;
      report_left =
          λ name named told free. refl;
    }
first_refused a f (why.Step fault) files first =
    record {
      refused = tt;
      inputs = λ told. tt;
      left = λ name. refl;
      report_left =
          λ name named told free. refl;
    }
first_refused a f (why.Setting bad) files first =
    record {
      refused = tt;
      inputs = λ told. tt;
      left = λ name. refl;
      report_left =
          λ name named told free. refl;
    }
first_refused a f (why.SameName out) files first =
    record {
      refused = tt;
      inputs = λ told. tt;
      left = λ name. refl;
      report_left =
          λ name named told free. refl;
    }
first_refused a f (why.Source side cause) files first = absurd (cc first)
first_refused a f (why.Target out cause) files first = absurd (cc first)
first_refused a f why.SameReport files first =
    record {
      refused = tt;
      inputs = λ told. tt;
      left = λ name. refl;
      report_left =
          λ name named told free. refl;
    }
first_refused a f (why.Report cause) files first = absurd (cc first)
first_refused a f (why.Memory lacked) files first =
    record {
      refused = tt;
      inputs = λ told. tt;
      left =
          λ out name named told. inl refl;
      report_left = λ name named told free. inl refl;
    }

-- the request was wrong
pub wrong_refused : (a f : Asking) (refusal : Refusal) (files : FilesState) →
    wrong_with a ≡ Some refusal → IsRefused a f refusal files files
wrong_refused a f refusal files wrong = first_refused a f refusal files
    (wrong_first a (settings_of a) (same_name a) (report_is_input a) refusal refl wrong)

if_none : (b : Bool) (out : Out) (rest : Option Out) → (if b then Some out else rest) ≡ None →
    (b ≡ false) × (rest ≡ None)
if_none true out rest none = absurd (cc none)
if_none false out rest none = (refl, none)

log_free : (a : Asking) (log : Option (List ℕ)) (name : List ℕ) → same_log a log ≡ None →
    log ≡ Some name → is_input a.inputs name ≡ false
log_free a None name none named = absurd (cc named)
log_free a (Some log) name none named =
    let equal : log ≡ name = cc in
    subst (λ (n : List ℕ). is_input a.inputs n ≡ false) equal
    (if_none (is_input a.inputs log) Log None none).0

-- the name of an output is no input's
output_free : (a : Asking) (out : Out) (name : List ℕ) → same_name a ≡ None →
    output_name a out ≡ Some name → is_input a.inputs name ≡ false
output_free a out name none named =
    let one = if_none (is_input a.inputs a.forward_paired) ForwardPaired _ none in
    let two = if_none (is_input a.inputs a.forward_unpaired) ForwardUnpaired _ one.1 in
    let three = if_none (is_input a.inputs a.reverse_paired) ReversePaired _ two.1 in
    let four = if_none (is_input a.inputs a.reverse_unpaired) ReverseUnpaired _ three.1 in
    at_output out one.0 two.0 three.0 four.0 four.1 named
  where
    as_named : (own : List ℕ) → Some own ≡ Some name → is_input a.inputs own ≡ false →
        is_input a.inputs name ≡ false
    as_named own same free = let equal : own ≡ name = cc in
        subst (λ (n : List ℕ). is_input a.inputs n ≡ false) equal free

    at_output : (this : Out) → is_input a.inputs a.forward_paired ≡ false →
        is_input a.inputs a.forward_unpaired ≡ false → is_input a.inputs a.reverse_paired ≡ false →
        is_input a.inputs a.reverse_unpaired ≡ false
        → same_log a a.log ≡ None → output_name a this ≡ Some name → is_input a.inputs name ≡ false
    at_output ForwardPaired one two three four log same = as_named a.forward_paired same one
    at_output ForwardUnpaired one two three four log same = as_named a.forward_unpaired same two
    at_output ReversePaired one two three four log same = as_named a.reverse_paired same three
    at_output ReverseUnpaired one two three four log same = as_named a.reverse_unpaired same four
    at_output Log one two three four log same = log_free a a.log name log same

-- nor is the report's
report_free : (a : Asking) (name : List ℕ) → report_is_input a ≡ false → a.report ≡ Some name →
    is_input a.inputs name ≡ false
report_free a name free named =
    let P : Option (List ℕ) → Type 0 = λ o. unwrap_or (option_map (is_input a.inputs) o) false
    ≡ false in subst P named free

right_names : (a : Asking) (r : Result Choices Refusal) (same : Option Out) (same_report : Bool) →
    wrong_among r same same_report ≡ None → (same ≡ None) × (same_report ≡ false)
right_names a (Err bad) same same_report right = absurd (cc right)
right_names a (Ok c) (Some out) same_report right = absurd (cc right)
right_names a (Ok c) None true right = absurd (cc right)
right_names a (Ok c) None false right = (refl, refl)

-- a name that leads to a file, if something does
led_by : (leads : List ℕ → List ℕ) (o : Option (List ℕ)) (file : List ℕ) →
    option_map leads o ≡ Some file → (name : List ℕ) × (o ≡ Some name) × (leads name ≡ file)
led_by leads None file led = absurd (cc led)
led_by leads (Some name) file led = (name, refl, cc)

-- What is refused under a name that is no input's.
module _ (a : Asking) (old : FilesState) where
  abbrev inputs : InputNames
  inputs = (filed old a).inputs

  so_named : (name file : List ℕ) (given : Cause) → is_input a.inputs name ≡ false →
      old.leads name ≡ file → MayLead inputs old file given →
      MayRefuseName a.inputs inputs old name given
  so_named name file given free led may =
      let P : List ℕ → Type 0 = λ x. MayLead inputs old x given in
      ⊎_elim (λ is. inl (free, is.0, is.1)) (λ other. inr other) (subst P (sym led) may)

  all_named : (refusal : Refusal) → same_name a ≡ None → report_is_input a ≡ false →
      IsRefusable (filed old a) (MayLead inputs old) refusal →
      IsRefusable a (MayRefuseName a.inputs inputs old) refusal
  all_named (why.Target out given) outputs report refused =
      let named = led_by old.leads (output_name a out) refused.0
      (sym (named_filed old a out) ∙ refused.1) in (
        named.0,
        named.1,
        so_named named.0 refused.0 given (output_free a out named.0 outputs named.1)
            named.2 refused.2,
      )
  all_named (why.Report given) outputs report refused =
      let named = led_by old.leads a.report refused.0 refused.1 in (
        named.0,
        named.1,
        so_named named.0 refused.0 given (report_free a named.0 report named.1)
            named.2 refused.2,
      )
  all_named (why.Memory lacked) outputs report refused = refused
  all_named why.Encoding outputs report refused = refused
  all_named (why.Step fault) outputs report refused = refused
  all_named (why.Setting bad) outputs report refused = refused
  all_named (why.SameName out) outputs report refused = refused
  all_named (why.Source side cause) outputs report refused = refused
  all_named why.SameReport outputs report refused = refused

-- an output or the report of a right request is refused only under a name whose file may be
-- refused, or led to an input before, or is that of an input of another name
pub refusable_right : (a : Asking) (old : FilesState) (refusal : Refusal) →
    wrong_with a ≡ None → IsRefusable (filed old a) (MayLead (filed old a).inputs old) refusal →
    IsRefusable a (MayRefuseName a.inputs (filed old a).inputs old) refusal
refusable_right a old refusal right refused =
    let names = right_names a (settings_of a) (same_name a) (report_is_input a) right in
    all_named a old refusal names.0 names.1 refused

-- if only files of the outputs and of the report have changed, those of the inputs have not
pub inputs_kept : (a : Asking) (old new : Holding) → AreNoInputs a → KeepsUnnamed a old new →
    (side : Side) → new (input_name a.inputs side) ≡ old (input_name a.inputs side)
inputs_kept a old new apart kept side = kept _ (apart side).0 (apart side).1

-- it was refused after the forward one was opened, which changed no file
pub tells_reverse : (inputs : InputNames) (refusal : Refusal) (old mid : FilesState) →
    IsMemory refusal ⊎ ((given : Cause) × (refusal ≡ why.Source Reverse given)
    × MayRefuseInput mid (IsTrue (mid.is_open inputs.reverse)) inputs.reverse given) →
    IsSome (old.bytes inputs.forward) → OnlyOpens old mid →
    ((name : List ℕ) → name ≢ inputs.forward → IsTrue (mid.is_open name) →
    MayRefuse old name cause.Input) → TellsInputs inputs refusal old
tells_reverse inputs refusal old mid (inl memory) there kept linked =
    let P : Refusal → Type 0 = λ r. TellsInputs inputs r old in
    subst P (sym memory.1) tt
tells_reverse inputs refusal old mid (inr source) there kept linked =
    let P : Refusal → Type 0 = λ r. TellsInputs inputs r old in
    let given = source.0 in
    let refused = source.2 in
    subst P (sym source.1) (
      there,
      record {
        missing = λ error is. (
          subst (λ (files : FilesState). IsTrue (files.may_say inputs.reverse error)) kept
              (refused.missing error is).0,
          λ told. ⊎_elim (λ none. inl (sym (same_as _ _ kept inputs.reverse) ∙ none))
              (λ may. inr (subst (λ (files : FilesState).
              IsTrue (files.refuses inputs.reverse given)) kept may))
              ((refused.missing error is).1
              (told_as (λ tells. IsTrue (tells inputs.reverse)) _ _ kept told)),
        );
        twice = λ is. ⊎_elim
            (λ one. let twice : inputs.reverse ≡ inputs.forward = cc in inl twice)
            (λ other. inr (linked inputs.reverse (λ twice. other (ap Some (sym twice)))
            (refused.twice is)))
            (this_or_other (Some inputs.forward) inputs.reverse);
        no_output = λ is. sym (ap (λ (files : FilesState). files.tells inputs.reverse) kept)
            ∙ refused.no_output is;
      },
    )
