use Rattle.std.proofs.Common.{◌≡◌, take}
use Rattle.std.specs.List.{list_all}
use Rattle.fq_text.specs.Scores.{is_from}
use Rattle.fq_text.proofs.vectors.each_is_from.Given as goal

-- whether each byte so far is in range
abbrev pub invariant-loop-byte : goal.invariant-loop-byte
invariant-loop-byte l = l.all ≡ list_all (is_from l.fn.lowest) (take l.byte-index l.bytes)
