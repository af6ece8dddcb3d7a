-- The request by files: what it has in place of names, and what it has of the request itself.
use Rattle.std.proofs.Common.{◌≡◌, ◌∙◌, ℕ, Option, Some, None, Ok, Err, Result, List, IsTrue, refl, sym, ap, subst}
use Rattle.std.specs.Option.{option_map}
use Rattle.fq_text.specs.declared.encoding.Encoding.{Encoding}
use Rattle.fq_text.specs.Scores.{encoding_of}
use Rattle.fq_trim.specs.declared.step.Step.{Step}
use Rattle.fq_trim.specs.declared.fault.StepFault.{StepFault}
use Rattle.fq_trim.specs.Words.{steps_of}
use Rattle.fq_pair.specs.declared.out.Out.{Out}
use Rattle.fq_pair.specs.declared.out.Out.TheVariants.{ForwardPaired, ForwardUnpaired, ReversePaired, ReverseUnpaired, Log}
use Rattle.fq_files.specs.States.{FilesState}
use Rattle.fq_run_core.specs.Choices.{Choices, checked}
use Rattle.fq_run_core.specs.declared.settings.BadSetting.{BadSetting}
use Rattle.fq_app_words.specs.Requests.{Asking, output_name}
use Rattle.fq_app_files.specs.Judging.{choices_of, judged, with_steps, with_encoding, settings_of}
use Rattle.fq_text.specs.Devices.{OutletState}
use Rattle.fq_run_core.specs.Devices.{KeepFiles, OutletStates, outlet_at}
use Rattle.fq_app_files.specs.Trimming.{filed, WriteTheirs}

-- a call leaves where names lead
pub leads_as : (old new : FilesState) → new ≡ old → new.leads ≡ old.leads
leads_as old new same = ap (λ (files : FilesState). files.leads) same

-- an output's name leads to its file
pub named_filed : (files : FilesState) (a : Asking) (out : Out) →
    output_name (filed files a) out ≡ option_map files.leads (output_name a out)
named_filed files a ForwardPaired = refl
named_filed files a ForwardUnpaired = refl
named_filed files a ReversePaired = refl
named_filed files a ReverseUnpaired = refl
named_filed files a Log = refl

-- so it is with a name that is known
pub output_filed : (files : FilesState) (a : Asking) (out : Out) (name : List ℕ) →
    output_name a out ≡ Some name → output_name (filed files a) out ≡ Some (files.leads name)
output_filed files a out name named =
    named_filed files a out ∙ ap (option_map files.leads) named

-- the name of the report leads to its file
pub report_filed : (files : FilesState) (a : Asking) (name : List ℕ) →
    a.report ≡ Some name → (filed files a).report ≡ Some (files.leads name)
report_filed files a name named = ap (option_map files.leads) named

-- the settings are those of the request itself
pub settings_filed : (files : FilesState) (a : Asking) →
    settings_of (filed files a) ≡ settings_of a
settings_filed files a = at_encoding (encoding_of a.encoding)
  where
    at_report : (r : Result Choices BadSetting) (report : Option (List ℕ)) →
        judged r (option_map files.leads report) ≡ judged r report
    at_report (Ok choices) None = refl
    at_report (Ok choices) (Some report) = refl
    at_report (Err bad) report = refl

    at_steps : (encoding : Encoding) (r : Result (List Step) StepFault) →
        with_steps (filed files a) encoding r ≡ with_steps a encoding r
    at_steps encoding (Ok steps) = at_report (checked (choices_of a encoding steps)) a.report
    at_steps encoding (Err fault) = refl

    at_encoding : (o : Option Encoding) →
        with_encoding (filed files a) o ≡ with_encoding a o
    at_encoding (Some encoding) = at_steps encoding (steps_of a.steps)
    at_encoding None = refl

-- outlets that keep their files still write those of their outputs
pub theirs_after : (f : Asking) (files : FilesState) (before after : OutletStates) →
    KeepFiles before after → WriteTheirs f files before → WriteTheirs f files after
theirs_after f files before after keep theirs out file outlet named at =
    found (outlet_at out before) refl (ap (option_map (λ o. o.file)) (sym at) ∙ keep out)
  where
    found : (o : Option OutletState) → outlet_at out before ≡ o →
        Some outlet.file ≡ option_map (λ o. o.file) o → IsTrue (files.writes outlet.file file)
    found (Some first) there same =
        let own : first.file ≡ outlet.file = cc in
        subst (λ (number : Option ℕ). IsTrue (files.writes number file)) own
        (theirs out file first named there)
    found None there same = absurd cc
