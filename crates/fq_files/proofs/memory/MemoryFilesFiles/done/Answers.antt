use Rattle.std.proofs.Common.{arith}
use Rattle.std.proofs.lemmas.Map.Text.{text_keys}
use Rattle.fq_files.proofs.memory.MemoryFilesFiles.done.Goals as goal

-- the other names are other keys of the map
pub returns-in-Some-clause-others : goal.returns-in-Some-clause-others
returns-in-Some-clause-others c = λ told other differs. grind (arith, text_keys)

-- a name that was held is still held
pub returns-in-Some-clause-held : goal.returns-in-Some-clause-held
returns-in-Some-clause-held c = λ name told held. grind (arith, text_keys)
