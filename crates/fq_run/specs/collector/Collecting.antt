-- What a collector does: it takes replies in turn, and writes their texts.
use Rattle.std.specs.Prelude.{◌≡◌, ℕ, ◌<◌, ◌%◌, Bool, true, Option, Some, None, is_some, List, [], ◌∷◌, ◌++◌, map, length}
use Rattle.fq_pair.specs.declared.out.Out.{Out}
use Rattle.fq_pair.specs.Outputs.{text_of}
use Rattle.fq_report_pairs.specs.declared.done.Done.{Done}
use Rattle.fq_work.specs.declared.reply.Cause.{Cause}
use Rattle.fq_work.specs.declared.reply.Cause.TheVariants as cause
use Rattle.fq_work.specs.declared.reply.Reply.{Reply}
use Rattle.fq_work.specs.declared.reply.Reply.TheVariants.{Done as done, Stop}
use Rattle.fq_run_core.specs.declared.total.Total.{Total}
use Rattle.fq_run_core.specs.Totals.{no_total, total_plus}
use Rattle.fq_run_core.specs.Devices.{OutletStates, OutletsTook, part_at}
use Rattle.fq_run.specs.lanes.Items.{IsDealt, IsAtMark, IsBegun}
use Rattle.fq_run.specs.declared.collector.Collector.{Collector}
use Rattle.fq_run.specs.declared.collector.phase.Phase.{Phase}
use Rattle.fq_run.specs.declared.collector.phase.Phase.TheVariants.{Writing, AtMark, Stopped, WriteFailed}

-- one of the five texts of some replies, one after the other
abbrev pub written_text : Out → List Done → List ℕ
written_text out [] = []
written_text out (d ∷ ds) = text_of out d.texts ++ written_text out ds

-- what is counted of replies, added to a total
abbrev pub counted_from : Total → List Done → Total
counted_from total [] = total
counted_from total (d ∷ ds) = counted_from (total_plus total d) ds

-- the counts of replies, and their tally if one is asked for
abbrev pub counted : Bool → List Done → Total
counted tallied ds = counted_from (no_total tallied) ds

-- the replies before the first Stop
abbrev pub before_stop : List Reply → List Done
before_stop [] = []
before_stop (done d ∷ replies) = d ∷ before_stop replies
before_stop (Stop cause ∷ replies) = []

-- the outlets took the texts of these replies, and nothing else
abbrev pub TookAll : OutletStates → OutletStates → List Done → Type 0
TookAll before now ds = OutletsTook before now (λ out. written_text out ds) None

-- the cause for which a worker stopped is noted
abbrev pub IsHeard : Cause → Collector → Type 0
IsHeard cause.Gate k = k.halt.gate ≡ true
IsHeard (cause.Memory refused) k = is_some k.halt.memory ≡ true

-- after these replies the next in turn was a Stop
pub record HasStopped (w : ℕ) (before now : OutletStates) (ds : List Done)
    (k : Collector) : Type 0 where
  pub why : Cause
  pub begun : IsBegun w (map done ds ++ Stop why ∷ []) k.replies.items
  pub heard : IsHeard why k
  pub took : TookAll before now ds

-- after these replies a write of the next in turn failed, in this outlet, after `sent` bytes of its
-- text
pub record HasBroken (failed : Out) (w : ℕ) (before now : OutletStates) (ds : List Done)
    (k : Collector) : Type 0 where
  pub next : Done
  pub sent : ℕ
  pub short : sent < length (text_of failed next.texts)
  pub begun : IsBegun w (map done (ds ++ next ∷ [])) k.replies.items
  pub took : OutletsTook before now
      (λ out. written_text out ds ++ part_at failed sent out (text_of out next.texts))
      (Some failed)

-- what was written, by the phase of the collector: all that came, in turn; all that came in turn
-- until a lane had no more; what came before a Stop; what came before a write that failed
abbrev pub Writes : Phase → ℕ → OutletStates → OutletStates → List Done → Collector → Type 0
Writes Writing w before now ds k =
    (k.turn ≡ length ds % w)
    × IsDealt w (map done ds) k.replies.items
    × TookAll before now ds
Writes AtMark w before now ds k =
    IsAtMark w (map done ds) k.replies.items × TookAll before now ds
Writes Stopped w before now ds k = HasStopped w before now ds k
Writes (WriteFailed failed) w before now ds k = HasBroken failed w before now ds k

-- the outlet whose write failed
abbrev pub failed_in : Phase → Option Out
failed_in (WriteFailed failed) = Some failed
failed_in _ = None

-- a collector of w lanes, which has written the texts of some replies
pub record Collects (tallied : Bool) (w : ℕ) (before now : OutletStates)
    (k : Collector) : Type 0 where
  pub lanes : length k.replies.items ≡ w
  pub turn : k.turn < w
  pub written : List Done
  pub total : k.total ≡ counted tallied written
  pub writes : Writes k.phase w before now written k
