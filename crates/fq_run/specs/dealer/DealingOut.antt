-- The blocks of all pairs, dealt out to the lanes of the workers.
use Rattle.std.specs.Prelude.{◌≡◌, ℕ, suc, ◌+◌, ◌<◌, ◌≤◌, Option, Some}
use Rattle.std.specs.Prelude.{List, [], ◌∷◌, map, length}
use Rattle.fq_text.specs.Reading.{text_limit}
use Rattle.fq_text.specs.declared.memory.MemoryRefused.{MemoryRefused}
use Rattle.fq_text.specs.declared.encoding.Encoding.{Encoding}
use Rattle.fq_lane.specs.History.{History, with_item}
use Rattle.fq_block.specs.Blocks.{Numbered}
use Rattle.fq_pair.specs.Mates.{Mates}
use Rattle.fq_run_core.specs.Choices.{Choices}
use Rattle.fq_run.specs.Shares.{IsCut}
use Rattle.fq_run.specs.lanes.Items.{names_of, IsDealt}
use Rattle.fq_pair.specs.Walks.{SourceState, GoesOn}
use Rattle.fq_run_core.specs.PairsRead.{Reads}
use Rattle.fq_run_core.specs.declared.reading_end.ReadingEnd.{ReadingEnd}
use Rattle.fq_run_core.specs.declared.reading_end.ReadingEnd.TheVariants as reading

-- blocks are numbered from n on, and all are in one encoding
abbrev pub AreNumbered : Encoding → ℕ → List Numbered → Type 0
AreNumbered encoding n [] = Unit {0}
AreNumbered encoding n (block ∷ blocks) =
    (block.number ≡ n) × (block.encoding ≡ encoding) × AreNumbered encoding (suc n) blocks

-- these pairs are cut into these blocks, which are numbered from 0
pub record AreBlocks (c : Choices) (ms : List Mates) (blocks : List Numbered) : Type 0 where
  pub cut : IsCut c.block_pairs ms (map (λ (b : Numbered). b.pairs) blocks)
  pub numbered : AreNumbered c.encoding 0 blocks

-- what may be dealt: the pairs of a source that nothing was read from, to lanes through which
-- nothing has gone
pub record MayDeal (c : Choices) (s : SourceState) (w : ℕ)
    (to : List (History Numbered)) : Type 0 where
  pub some : 0 < w
  pub lanes : IsDealt w [] to
  pub goes : GoesOn s
  pub fresh : s.forward.given ≡ 0
  pub encoding : s.encoding ≡ c.encoding
  pub few : s.most_bytes ≤ text_limit

-- pairs were read from a source until reading stopped, and their blocks were dealt out to lanes,
-- which are still open; if memory was refused, the source gave one more pair, which is lost
pub record DealsOut (c : Choices) (old new : SourceState) (to sent : List (History Numbered))
    (why : Option ReadingEnd) : Type 0 where
  pub mates : List Mates
  pub blocks : List Numbered
  pub reads : Reads old new mates why
  pub lost : (refused : MemoryRefused) → why ≡ Some (reading.Memory refused) →
      new.given ≡ old.given + length mates + 1
  pub few : length mates ≤ text_limit
  pub cut : AreBlocks c mates blocks
  pub dealt : IsDealt (length to) blocks sent
  pub names : names_of sent ≡ names_of to

-- a block that has pairs was sent, and an empty one was not
pub record SendsFilled (block : Numbered) (old new : History Numbered) : Type 0 where
  pub none : block.pairs ≡ [] → new ≡ old
  pub some : 0 < length block.pairs → new ≡ with_item old block
