-- The tallies of the workers so far are added.
use Rattle.std.proofs.Common.{◌≡◌, drop}
use Rattle.fq_run.specs.Threads.{tallies_from}
use Rattle.fq_run.proofs.threads.add_tallies.Given as goal

-- the tallies to come complete the sum of all
abbrev pub invariant-loop-one : goal.invariant-loop-one
invariant-loop-one l = record {
  counts : l.total.counts ≡ l.fn.total.counts;
  tally : tallies_from l.total.tally (drop l.one-index l.worked.items)
      ≡ tallies_from l.fn.total.tally l.worked.items;
}
