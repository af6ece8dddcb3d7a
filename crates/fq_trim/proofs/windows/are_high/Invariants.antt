use Rattle.std.proofs.Common.{◌≡◌, take, nat_le}
use Rattle.std.specs.List.{list_all}
use Rattle.fq_trim.specs.Keeping.{scores}
use Rattle.fq_trim.proofs.windows.are_high.Given as goal

-- whether each score so far is high enough
abbrev pub invariant-loop-byte : goal.invariant-loop-byte
invariant-loop-byte l =
    l.all ≡ list_all (nat_le l.score) (take l.byte-index (scores l.fn.encoding l.qual))
