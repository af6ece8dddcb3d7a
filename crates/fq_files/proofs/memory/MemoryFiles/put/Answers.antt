use Rattle.std.proofs.Common.{arith}
use Rattle.std.proofs.lemmas.Map.Text.{text_keys}
use Rattle.fq_files.proofs.memory.MemoryFiles.put.Goals as goal

-- the other names are other keys of the map
pub returns-clause-others : goal.returns-clause-others
returns-clause-others c = λ other differs. grind (arith, text_keys)

-- a name that was held is still held
pub returns-clause-held : goal.returns-clause-held
returns-clause-held c = λ name held. grind (arith, text_keys)
