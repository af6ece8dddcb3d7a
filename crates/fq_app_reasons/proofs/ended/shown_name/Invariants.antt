-- The text has the bytes that were taken so far.
use Rattle.std.proofs.Common.{◌≡◌, map, take}
use Rattle.std.specs.String.{string_bytes}
use Rattle.fq_app_reasons.specs.Ended.{shown_byte}
use Rattle.fq_app_reasons.proofs.ended.shown_name.Given as goal

abbrev pub invariant-loop-byte : goal.invariant-loop-byte
invariant-loop-byte l = string_bytes l.text ≡ map shown_byte (take l.byte-index l.front)
