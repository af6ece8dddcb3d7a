-- How the writing of a run ended.
use Rattle.std.specs.Prelude.{ℕ, ◌<◌, ◌≤◌, Option, Some, None, List, [], length}
use Rattle.fq_trim.specs.declared.step.Step.{Step}
use Rattle.fq_pair.specs.declared.out.Out.{Out}
use Rattle.fq_pair.specs.Mates.{Mates}
use Rattle.fq_pair.specs.Outputs.{texts_of, text_of}
use Rattle.fq_run_core.specs.Devices.{part_at}

-- no outlet failed; one failed at its flush; or one failed in the block of these pairs, after this
-- number of bytes of its text
pub data Fate : Type 0 where
  Unbroken : Fate
  FlushFailed : Out → Fate
  WriteFailed : Out → ℕ → List Mates → Fate

-- the outlet that failed
abbrev pub failed_outlet : Fate → Option Out
failed_outlet Unbroken = None
failed_outlet (FlushFailed out) = Some out
failed_outlet (WriteFailed out sent block) = Some out

-- the pairs of the block that was not written completely
abbrev pub block_begun : Fate → List Mates
block_begun (WriteFailed out sent block) = block
block_begun _ = []

-- what an outlet took of that block
abbrev pub part_begun : List Step → Fate → Out → List ℕ
part_begun steps (WriteFailed failed sent block) out =
    part_at failed sent out (text_of out (texts_of steps block))
part_begun steps _ out = []

-- that block has 1 to `most` pairs, and the failed outlet lacks a part of its text
abbrev pub IsCutShort : ℕ → List Step → Fate → Type 0
IsCutShort most steps (WriteFailed failed sent block) =
    (0 < length block) × (length block ≤ most)
    × (sent < length (text_of failed (texts_of steps block)))
IsCutShort most steps _ = Unit {0}
