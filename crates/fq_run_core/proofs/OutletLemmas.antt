-- What outlets took, one text after another.
use Rattle.std.proofs.Common.{◌≡◌, ℕ, Option, Some, None, Result, Err, List, [], ◌++◌, ◌∙◌, ap, refl, arith}
use Rattle.std.specs.Option.{IfSome, option_map}
use Rattle.std.proofs.lemmas.Grind.{common_steps}
use Rattle.fq_pair.specs.declared.out.Out.{Out}
use Rattle.fq_pair.specs.declared.out.Out.TheVariants.{ForwardPaired, ForwardUnpaired, ReversePaired, ReverseUnpaired, Log}
use Rattle.fq_pair.specs.Outputs.{Outputs}
use Rattle.fq_text.specs.Devices.{OutletState}
use Rattle.fq_run_core.specs.Devices.{OutletStates, AreHealthy, KeepFiles, outlet_at, TookText, Took, OutletsTook}
use Rattle.fq_run_core.specs.Writing.{FlushesAfter}
use Rattle.fq_run_core.specs.Sending.{BreaksAt, Sends, FailsIn}

-- outlets that took one text and then another took the two joined
pub all_took_then : (a b c : OutletStates) (s t : Out → List ℕ) (failed : Option Out) →
    OutletsTook a b s None → OutletsTook b c t failed →
    OutletsTook a c (λ out. s out ++ t out) failed
all_took_then a b c s t failed p q out = grind (arith, common_steps)

-- what outlets took may be exchanged for equal texts
pub all_took_same : (a b : OutletStates) (s t : Out → List ℕ) (failed : Option Out) →
    ((out : Out) → s out ≡ t out) → OutletsTook a b s failed → OutletsTook a b t failed
all_took_same a b s t failed is p out = grind (arith, common_steps)

module _ (old new : OutletStates) (texts : Outputs) where
  -- the fourth outlet failed
  pub fourth_breaks : new.log ≡ old.log → TookText old.forward_paired new.forward_paired
      texts.forward_paired 0 → TookText old.forward_unpaired new.forward_unpaired
      texts.forward_unpaired 0 →
      TookText old.reverse_paired new.reverse_paired texts.reverse_paired 0 →
      FailsIn old.reverse_unpaired new.reverse_unpaired texts.reverse_unpaired →
      BreaksAt old new texts ReverseUnpaired
  fourth_breaks log a b c d = grind (arith, common_steps)

  -- a write that broke at an outlet keeps its promise if it returns that outlet
  pub broken : (failed : Out) (r : Result (Unit {0}) Out) → r ≡ Err failed →
      BreaksAt old new texts failed → Sends old new texts r
  broken failed r is p = grind (arith, common_steps)

-- outlets without failures still have none if none failed
still : (a b : OutletState) (s : List ℕ) → a.failures ≡ 0 → TookText a b s 0 → b.failures ≡ 0
still a b s sound p = let same = p.failures in omega arith

still_log : (a b : Option OutletState) (s : List ℕ) →
    IfSome a (λ (log : OutletState). log.failures ≡ 0) → Took a b s 0 →
    IfSome b (λ (log : OutletState). log.failures ≡ 0)
still_log None None s sound p = tt
still_log (Some a) (Some b) s sound p = still a b s sound p
still_log _ _ s sound p = absurd p

-- if no outlet had failed before a call, and none failed in it, none has failed
pub still_healthy : (a b : OutletStates) (s : Out → List ℕ) → AreHealthy a →
    OutletsTook a b s None → AreHealthy b
still_healthy a b s h p = record {
  forward_paired = still _ _ _ h.forward_paired (p ForwardPaired);
  forward_unpaired = still _ _ _ h.forward_unpaired (p ForwardUnpaired);
  reverse_paired = still _ _ _ h.reverse_paired (p ReversePaired);
  reverse_unpaired = still _ _ _ h.reverse_unpaired (p ReverseUnpaired);
  log = still_log _ _ _ h.log (p Log);
}

-- an outlet that took a text still writes the file that it wrote
took_keeps : (a b : Option OutletState) (s : List ℕ) (failed : ℕ) → Took a b s failed →
    option_map (λ o. o.file) b ≡ option_map (λ o. o.file) a
took_keeps None None s failed p = refl
took_keeps (Some a) (Some b) s failed p = ap Some p.told
took_keeps _ _ s failed p = absurd p

-- so do all outlets
pub all_took_keep : (a b : OutletStates) (s : Out → List ℕ) (failed : Option Out) →
    OutletsTook a b s failed → KeepFiles a b
all_took_keep a b s failed p out = took_keeps (outlet_at out a) (outlet_at out b) _ _ (p out)

-- and so on after more of it
pub keep_then : (a b c : OutletStates) → KeepFiles a b → KeepFiles b c → KeepFiles a c
keep_then a b c p q out = q out ∙ p out

-- so it is after a flush
pub flush_keeps : (failed : Option Out) (a b : OutletStates) (result : Option Out) →
    FlushesAfter failed a b result → KeepFiles a b
flush_keeps (Some failed) a b result p = λ out. ap (λ o. option_map (λ x. x.file) (outlet_at out o))
    p.1
flush_keeps None a b result p = all_took_keep a b (λ out. []) result p.0
