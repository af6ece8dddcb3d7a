use Rattle.std.proofs.Common.{◌≡◌, ◌++◌, map, take, drop}
use Rattle.fq_text.specs.Scores.{recoded}
use Rattle.fq_text.proofs.encoding.Encoding.recode.Given as goal

-- the bytes so far are recoded, and the others are unchanged
abbrev pub invariant-loop-byte : goal.invariant-loop-byte
invariant-loop-byte l = l.bytes ≡ map (recoded l.fn.self) (take l.byte-index l.fn.bytes) ++ drop
    l.byte-index l.fn.bytes
