-- What calls on all outlets do.
use Rattle.std.specs.Prelude.{◌≡◌, ℕ, ◌<◌, IsTrue, Some, None, Result, List, [], length, take}
use Rattle.std.specs.declared.result.Result.TheVariants as res
use Rattle.fq_pair.specs.declared.out.Out.{Out}
use Rattle.fq_pair.specs.Outputs.{Outputs, text_of}
use Rattle.fq_text.specs.Devices.{OutletState}
use Rattle.fq_run_core.specs.Devices.{OutletStates, AreFlushed, TookText, OutletsTook, part_at}

-- one outlet failed after `sent` bytes, and nothing went to those after it
pub record BreaksAt (old new : OutletStates) (texts : Outputs) (failed : Out) : Type 0 where
  pub sent : ℕ
  pub short : sent < length (text_of failed texts)
  pub took : OutletsTook old new (λ out. part_at failed sent out (text_of out texts)) (Some failed)

-- all texts were sent, or one outlet failed
abbrev pub Sends : OutletStates → OutletStates → Outputs → Result (Unit {0}) Out → Type 0
Sends old new texts (res.Ok done) = OutletsTook old new (λ out. text_of out texts) None
Sends old new texts (res.Err failed) = BreaksAt old new texts failed

-- all outlets were flushed, or those up to one that failed
abbrev pub Flushes : OutletStates → OutletStates → Result (Unit {0}) Out → Type 0
Flushes old new (res.Ok done) = OutletsTook old new (λ out. []) None × AreFlushed new
Flushes old new (res.Err failed) = OutletsTook old new (λ out. []) (Some failed)

-- What calls on one outlet do.

-- an outlet failed before it had taken all of its text
pub record FailsIn (old new : OutletState) (text : List ℕ) : Type 0 where
  pub sent : ℕ
  pub short : sent < length text
  pub took : TookText old new (take sent text) 1

abbrev pub SendsTo : OutletState → OutletState → List ℕ → Out → Result (Unit {0}) Out → Type 0
SendsTo old new text out (res.Ok done) = TookText old new text 0
SendsTo old new text out (res.Err failed) = (failed ≡ out) × FailsIn old new text

abbrev pub FlushesOne : OutletState → OutletState → Out → Result (Unit {0}) Out → Type 0
FlushesOne old new out (res.Ok done) = TookText old new [] 0 × IsTrue new.is_flushed
FlushesOne old new out (res.Err failed) = (failed ≡ out) × TookText old new [] 1
