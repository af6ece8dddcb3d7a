-- What was read, written and flushed is what the run guarantees.
use Rattle.std.proofs.Common.{refl, ap, ◌∙◌, rules}
use Rattle.fq_run_core.specs.Outcomes.{outcome_of}
use Rattle.fq_run_core.proofs.RunLemmas.{runs_healthy, run_keeps, tells_names}
use Rattle.fq_run_core.proofs.two_texts.run_serial.Goals as goal

-- unless a write failed, no outlet has failed before the flushes
pub flush_after-failed-requires : goal.flush_after-failed-requires
flush_after-failed-requires g c = runs_healthy _ c.args.settings.now _ _ _ _ _ _ _ _ _ _
    c.pass-written.ensures c.requires.outlets

-- the outlets have the texts of the first pairs, and of all pairs if the run ended whole
pub returns : goal.returns
returns g c =
    let k = run_keeps _ c.args.settings.now _ _ _ _ _ _ _ _ _ _ c.pass-written.ensures _ _ _
    c.flush_after-failed.ensures (c.outcome-outcome.ensures
    ∙ ap outcome_of c.new-occurred.ensures) c.requires.forward c.requires.reverse
    c.at_end-total.result c.at_end-total.ensures in
    record {
      forward = refl;
      reverse = refl;
      serial = k.serial refl;
      unended = refl;
      memory = search rules;
      unmatched = search rules;
      names = k.names _ _ (λ unmatched. tells_names _ _ _ _ c.pass-written.ensures.held
          (c.names_at-unmatched.ensures.told unmatched));
      whole = k.whole;
      every = k.every;
    }
