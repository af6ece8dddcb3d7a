use Rattle.std.proofs.Common.{arith}
use Rattle.std.proofs.lemmas.List.{drop-drop, drop-take}
use Rattle.fq_report_reads.proofs.VectorLemmas.{zeros_before, zeros_behind}
use Rattle.fq_report_reads.proofs.vectors.vector_of.Goals as goal
use Rattle.std.proofs.lemmas.Grind.{common_steps}

-- the last of the bytes up to `stop` are those from `at` on
pub returns-then-stop-ge-WIDTH : goal.returns-then-stop-ge-WIDTH
returns-then-stop-ge-WIDTH c = grind (arith, common_steps, zeros_before, drop-take, drop-drop)

-- the bytes are held before zeros
pub returns : goal.returns
returns c = grind (arith, common_steps, zeros_behind)
