use Rattle.std.proofs.Common.{◌≡◌, take}
use Rattle.fq_report_pairs.specs.Results.{made_of, tally_with}
use Rattle.fq_work.proofs.trimming.add_pairs.Given as goal

-- what was made and counted is that of the first i pairs of the block
abbrev pub invariant-loop-i : goal.invariant-loop-i
invariant-loop-i l =
    (l.done ≡ made_of l.steps l.block.number (take l.i l.block.pairs))
    × (l.tally ≡ tally_with l.steps l.fn.tally (take l.i l.block.pairs))
