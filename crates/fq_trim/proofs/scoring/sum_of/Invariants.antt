use Rattle.std.proofs.Common.{◌≡◌, ◌*◌, ◌≤◌, take, sum}
use Rattle.fq_trim.specs.Keeping.{scores}
use Rattle.fq_trim.proofs.scoring.sum_of.Given as goal

-- the total is that of the bytes so far, and at most 126 for each
abbrev pub invariant-loop-byte : goal.invariant-loop-byte
invariant-loop-byte l = record {
  total : l.total ≡ sum (scores l.fn.encoding (take l.byte-index l.qual));
  bound : l.total ≤ 126 * l.byte-index;
}
