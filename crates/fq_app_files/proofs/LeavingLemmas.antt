-- What the files of the outputs hold if the program does not end whole.
use Rattle.std.proofs.Common.{◌≡◌, ◌≢◌, ℕ, IsTrue, Option, Some, None, List, [], ◌++◌, sym, ap, ◌∙◌, inl, inr, ◌⊎◌, ⊎_elim}
use Rattle.std.proofs.lemmas.List.{append-nil}
use Rattle.fq_files.specs.Holding.{Holding}
use Rattle.fq_files.specs.States.{Keys}
use Rattle.fq_pair.specs.declared.counts.Counts.{Counts}
use Rattle.fq_pair.specs.declared.fault.InputFault.{InputFault}
use Rattle.fq_pair.specs.declared.out.Out.{Out}
use Rattle.fq_pair.specs.Mates.{Mates}
use Rattle.fq_pair.specs.Pairing.{Pairs}
use Rattle.fq_pair.specs.Outputs.{texts_of, text_of}
use Rattle.fq_run_core.specs.Choices.{Choices}
use Rattle.fq_run_core.specs.declared.outcome.Outcome.{Outcome}
use Rattle.fq_run_core.specs.declared.outcome.Outcome.TheVariants.{Spawn, Write}
use Rattle.fq_run_core.specs.Devices.{OutletStates, OutletsTook}
use Rattle.fq_run_core.specs.Endings.{Run, AreFirst, AreTold, EveryEnding, all_pairs, trimmed_outcome}
use Rattle.fq_run_core.specs.Fates.{Fate, Unbroken, failed_outlet, block_begun, part_begun, IsCutShort}
use Rattle.fq_app_files.specs.declared.refusal.Refusal.{Refusal}
use Rattle.fq_app_files.specs.declared.refusal.Refusal.TheVariants as why
use Rattle.fq_app_words.specs.Requests.{Asking}
use Rattle.fq_app_files.specs.Trimming.{IsNoOutput, TrimsFiles, pairs_of}
use Rattle.fq_app_files.specs.Leaving.{AreUntrimmed, RefusalLeaves, ReportLeft, IsTold, HoldFirstPairs}
use Rattle.fq_app_files.proofs.MakingLemmas.{output_or_none, stops_untrimmed}

-- The outlets took the texts of the first pairs, whose block was written whole. If a write failed
-- in the block after them, the outlets before the failed one took their texts of that block, the
-- failed one took a first part of its text, and those after it took nothing.
pub record TrimsFirst (c : Choices) (all : Pairs)
    (old new : OutletStates) (ended : Outcome) : Type 0 where
  pub whole : List Mates
  pub fate : Fate
  pub took : OutletsTook old new (λ out. text_of out (texts_of c.steps whole)
      ++ part_begun c.steps fate out) (failed_outlet fate)
  pub cut_short : IsCutShort c.block_pairs c.steps fate
  pub first : AreFirst (whole ++ block_begun fate) all.mates
  pub told : IsTold whole fate ended

-- what a run promises about its outlets, at every ending
pub first_of : (c : Choices) (run : Run) → EveryEnding c run → AreTold run →
    TrimsFirst c (all_pairs c run) run.outlets run.outlets_left run.outcome
first_of c run every told = record {
  whole = every.whole;
  fate = every.fate;
  took = every.took;
  cut_short = every.cut_short;
  first = every.first told;
  told = record {
    spawn = every.outcome.spawn;
    write = every.outcome.write;
    outlet_failed =
        every.outcome.outlet_failed;
  };
}

-- ---- refusals

-- if something was refused, nothing was trimmed
pub refusal_untrimmed : (a : Asking) (tells : Keys) (refusal : Refusal) (old new : Holding) →
    RefusalLeaves a tells refusal old new → AreUntrimmed a tells old new
refusal_untrimmed a tells why.Encoding old new left = λ out name named told. inl (left name)
refusal_untrimmed a tells (why.Step fault) old new left = λ out name named told. inl (left name)
refusal_untrimmed a tells (why.Setting bad) old new left = λ out name named told. inl (left name)
refusal_untrimmed a tells (why.SameName out) old new left = λ o name named told. inl (left name)
refusal_untrimmed a tells (why.Source side cause) old new left =
    λ out name named told. inl (left name)
refusal_untrimmed a tells (why.Target out cause) old new left =
    ⊎_elim (λ stops. stops_untrimmed a tells out old new stops)
    (λ same out name named told. inl (same name)) left
refusal_untrimmed a tells why.SameReport old new left = λ out name named told. inl (left name)
refusal_untrimmed a tells (why.Report cause) old new left =
    ⊎_elim (λ empty out name named told. inr (empty out name named told))
    (λ same out name named told. inl (same name)) left
refusal_untrimmed a tells (why.Memory lacked) old new left = left

not_spawn : (fault : Option InputFault) → trimmed_outcome fault ≢ Spawn
not_spawn None e = absurd (cc e)
not_spawn (Some fault) e = absurd (cc e)

not_written : (fault : Option InputFault) (out : Out) → trimmed_outcome fault ≢ Write out
not_written None out e = absurd (cc e)
not_written (Some fault) out e = absurd (cc e)

-- all pairs are their own first pairs
pub whole_first : (a : Asking) (tells : Keys) (old new : Holding) (outcome : Outcome)
    (counts : Counts) → TrimsFiles a tells old new outcome counts →
    HoldFirstPairs a tells old new outcome
whole_first a tells old new outcome counts trims =
    let all = pairs_of trims.choices a.inputs.form trims.forward trims.reverse in
    record {
      choices = trims.choices;
      forward = trims.forward;
      reverse = trims.reverse;
      whole = all.mates;
      fate = Unbroken;
      settings = trims.settings;
      forward_is = trims.forward_is;
      reverse_is = trims.reverse_is;
      texts = λ out name own. trims.texts out name own
          ∙ ap Some (sym (append-nil (text_of out (texts_of trims.choices.steps all.mates))));
      cut_short = tt;
      first = ([], sym (append-nil (all.mates ++ []) ∙ append-nil all.mates));
      told = record {
        spawn = λ spawned. absurd (not_spawn all.fault (sym trims.outcome_is ∙ spawned));
        write = λ out written. absurd (not_written all.fault out (sym trims.outcome_is ∙ written));
        outlet_failed = λ out failed. absurd (cc failed);
      };
    }

-- ---- the report

-- what each refusal leaves in the file of the report
left_or_nothing : (refusal : Refusal) (old new : Option (List ℕ)) → ReportLeft refusal old new →
    (new ≡ old) ⊎ (new ≡ Some [])
left_or_nothing why.Encoding old new left = inl left
left_or_nothing (why.Step fault) old new left = inl left
left_or_nothing (why.Setting bad) old new left = inl left
left_or_nothing (why.SameName out) old new left = inl left
left_or_nothing (why.Source side cause) old new left = inl left
left_or_nothing (why.Target out cause) old new left = inl left
left_or_nothing why.SameReport old new left = inl left
left_or_nothing (why.Report cause) old new left = left
left_or_nothing (why.Memory lacked) old new left = left

-- a refusal leaves in the file of the report what it held before, or nothing
pub report_untrimmed : (a : Asking) (tells : Keys) (refusal : Refusal) (old new : Holding) →
    RefusalLeaves a tells refusal old new → ((name : List ℕ) → a.report ≡ Some name →
    IsTrue (tells name) → IsNoOutput a name → ReportLeft refusal (old name) (new name)) →
    (name : List ℕ) → a.report ≡ Some name → IsTrue (tells name) →
    (new name ≡ old name) ⊎ (new name ≡ Some [])
report_untrimmed a tells refusal old new left report_left name named told = ⊎_elim
    (λ output. refusal_untrimmed a tells refusal old new left output.0 name output.1 told)
    (λ free. left_or_nothing refusal (old name) (new name) (report_left name named told free))
    (output_or_none a name)
