-- What the program leaves in files, read again as FASTQ: the outputs are in step.
use Rattle.std.specs.Prelude.{◌≡◌, ℕ, Some, None, Ok, List, ◌++◌}
use Rattle.fq_files.specs.Holding.{Holding}
use Rattle.fq_files.specs.States.{Keys}
use Rattle.fq_pair.specs.declared.out.Out.{Out}
use Rattle.fq_pair.specs.declared.counts.Counts.{Counts}
use Rattle.fq_pair.specs.Mates.{Mates}
use Rattle.fq_pair.specs.Outputs.{counts_of}
use Rattle.fq_pair.specs.Summaries.{summary_of}
use Rattle.fq_run_core.specs.Choices.{Choices}
use Rattle.fq_run_core.specs.Endings.{AreFirst}
use Rattle.fq_run_core.specs.Fates.{Fate, part_begun}
use Rattle.fq_app_words.specs.Requests.{Asking}
use Rattle.fq_app_files.specs.Judging.{settings_of}
use Rattle.fq_app_files.specs.Trimming.{HasOwnName, pairs_of}
use Rattle.fq_app.specs.Answers.{Device, TookPart}
use Rattle.fq_law_in_step.specs.InStep.{AreInStep}

-- the files of the outputs that have a name of their own hold these texts
abbrev pub HoldTexts : Asking → Keys → Holding → (Out → List ℕ) → Type 0
HoldTexts a tells files texts = (out : Out) (name : List ℕ) →
    HasOwnName a tells out name → files name ≡ Some (texts out)

-- At status 0 and 3.

-- The files hold the outputs of all pairs of the inputs, in step with each other and with the
-- summary that was printed. At status 0 no fault ends the pairs, so they are made of all records
-- of the inputs (`NothingIsLost`).
pub record FilesAreInStep (a : Asking) (tells : Keys)
    (old new : Holding) (out : Device) (status : ℕ) : Type 0 where
  pub choices : Choices
  pub forward : List ℕ
  pub reverse : List ℕ
  pub counts : Counts
  pub texts : Out → List ℕ
  pub settings : settings_of a ≡ Ok choices
  pub forward_is : old a.inputs.forward ≡ Some forward
  pub reverse_is : old a.inputs.reverse ≡ Some reverse
  pub complete : status ≡ 0 → (pairs_of choices a.inputs.form forward reverse).fault ≡ None
  pub printed : TookPart out (summary_of counts)
  pub held : HoldTexts a tells new texts
  pub in_step : AreInStep choices.check_names choices.steps
      choices.encoding (pairs_of choices a.inputs.form forward reverse).mates counts texts

-- At every status except 6.

-- The files hold the outputs of the first pairs of the inputs, in step with each other. After these
-- there is at most the part that was written of the one block in which a write failed.
pub record FilesAreInStepUpTo (a : Asking) (tells : Keys) (old new : Holding) : Type 0 where
  pub choices : Choices
  pub forward : List ℕ
  pub reverse : List ℕ
  pub whole : List Mates
  pub fate : Fate
  pub texts : Out → List ℕ
  pub settings : settings_of a ≡ Ok choices
  pub forward_is : old a.inputs.forward ≡ Some forward
  pub reverse_is : old a.inputs.reverse ≡ Some reverse
  pub first : AreFirst whole (pairs_of choices a.inputs.form forward reverse).mates
  pub held : HoldTexts a tells new (λ out. texts out ++ part_begun choices.steps fate out)
  pub in_step : AreInStep choices.check_names
      choices.steps choices.encoding whole (counts_of choices.steps whole) texts
