use Rattle.std.proofs.Common.{arith}
use Rattle.std.proofs.lemmas.Map.Text.{text_keys}
use Rattle.fq_files.proofs.NodeLemmas.{inode_past, inode_reserved}
use Rattle.fq_files.proofs.memory_disk.MemoryDisk.reserve.Goals as goal

-- the name leads to the new node
pub returns-clause-absent : goal.returns-clause-absent
returns-clause-absent c = λ i leads. grind (arith, text_keys, inode_past, inode_reserved)

-- the other names are other keys of the map
pub returns-clause-others : goal.returns-clause-others
returns-clause-others c = λ other differs. grind (arith, text_keys)
