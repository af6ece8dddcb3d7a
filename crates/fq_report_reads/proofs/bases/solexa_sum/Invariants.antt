use Rattle.std.proofs.Common.{◌≡◌, ◌≤◌, ◌*◌, sum, take}
use Rattle.fq_text.specs.declared.encoding.Encoding.TheVariants.{Solexa}
use Rattle.fq_trim.specs.Keeping.{scores}
use Rattle.fq_report_reads.proofs.bases.solexa_sum.Given as goal

-- the sum is that of the scores before this byte, and each is 93 or less
abbrev pub invariant-loop-byte : goal.invariant-loop-byte
invariant-loop-byte l = record {
  total : l.sum ≡ sum (take l.byte-index (scores Solexa l.qual));
  most : l.sum ≤ 93 * l.byte-index;
}
