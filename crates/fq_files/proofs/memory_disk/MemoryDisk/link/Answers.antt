use Rattle.std.proofs.Common.{arith}
use Rattle.std.proofs.lemmas.Map.Text.{text_keys}
use Rattle.fq_files.proofs.memory_disk.MemoryDisk.link.Goals as goal

-- the other names are other keys of the map
pub returns-in_ok-insert-clause-others : goal.returns-in_ok-insert-clause-others
returns-in_ok-insert-clause-others c = λ other differs. grind (arith, text_keys)
