-- How a block is filled with pairs.
use Rattle.std.specs.Prelude.{◌≡◌, ℕ, ◌+◌, ◌≤◌, Option, Some, None, length}
use Rattle.fq_text.specs.declared.memory.MemoryRefused.{MemoryRefused}
use Rattle.fq_block.specs.Blocks.{Numbered}
use Rattle.fq_pair.specs.Walks.{SourceState, GoesOn}
use Rattle.fq_run_core.specs.PairsRead.{Reads}
use Rattle.fq_run_core.specs.declared.reading_end.ReadingEnd.{ReadingEnd}
use Rattle.fq_run_core.specs.declared.reading_end.ReadingEnd.TheVariants as reading

-- Up to `most` pairs were read into a block, and as many as `most` if reading has not stopped. A
-- pair for which memory was refused was taken from the source, and is in no block.
pub record Fills (old new : SourceState) (most : ℕ) (empty filled : Numbered)
    (why : Option ReadingEnd) : Type 0 where
  pub number : filled.number ≡ empty.number
  pub encoding : filled.encoding ≡ empty.encoding
  pub few : length filled.pairs ≤ most
  pub full : why ≡ None → length filled.pairs ≡ most
  pub reads : Reads old new filled.pairs why
  pub lost : (refused : MemoryRefused) → why ≡ Some (reading.Memory refused) →
      new.given ≡ old.given + length filled.pairs + 1
  pub within : old.forward.given + length filled.pairs ≤ old.most_bytes
  pub goes : why ≡ None → GoesOn new
