-- One reply, or none, is taken and dropped.
use Rattle.std.proofs.Common.{◌<◌, length, refl, ◌∙◌, arith}
use Rattle.fq_run.proofs.collector.CollectLemmas.{drains_take}
use Rattle.fq_run.proofs.lanes.LaneLemmas.{taken_at}
use Rattle.fq_run.proofs.collector.Collector.drain_lane.Goals as goal

-- a stop is noted, and nothing more is written
pub returns : goal.returns
returns c =
    let k = c.args.self.now in
    let lt : c.args.at < length k.replies.items = omega (arith, k.replies.ok.0) in
    let t = taken_at _ _ _ _ c.args.at _ _ _ refl lt (c.ends.view_is
    ∙ c.index_mut-ends.ensures.value) c.take-taken.ensures refl in
    record {
      drains = rw c.hear.ensures (drains_take _ k _ c.args.at c.requires.over refl lt t refl refl
          refl);
    }
