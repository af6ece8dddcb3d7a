-- The settings of a run.
use Rattle.std.specs.Prelude.{ℕ, ◌≤◌, ◌^◌, Bool, true, false, not, Option, Some, None, Result, Ok, Err, List, if◌then◌else◌}
use Rattle.fq_text.specs.declared.encoding.Encoding.{Encoding}
use Rattle.fq_trim.specs.declared.step.Step.{Step}
use Rattle.fq_run_core.specs.Ranges.{within}
use Rattle.fq_run_core.specs.declared.settings.BadSetting.{BadSetting}
use Rattle.fq_run_core.specs.declared.settings.BadSetting.TheVariants.{Workers, BlockPairs, Depth, Chunk, MaxReads, GateTurns}

-- The settings of a run: how scores are encoded, the steps, whether names are checked, the threads,
-- the pairs of a block, the items of a lane, the bytes and the number of read calls, how often a
-- gate is asked, and whether pairs are tallied.
pub record Choices : Type 0 where
  pub encoding : Encoding
  pub steps : List Step
  pub check_names : Bool
  pub workers : ℕ
  pub block_pairs : ℕ
  pub depth : ℕ
  pub chunk : ℕ
  pub max_reads : ℕ
  pub gate_turns : ℕ
  pub tallied : Bool

-- the program's default settings, with this encoding and these steps
abbrev pub usual : Encoding → List Step → Choices
usual encoding steps = record {
  encoding = encoding;
  steps = steps;
  check_names = true;
  workers = 4;
  block_pairs = 1024;
  depth = 4;
  chunk = 65536;
  max_reads = 2 ^ 40;
  gate_turns = 2 ^ 40;
  tallied = false;
}

-- turns the tally on
abbrev pub tallying : Choices → Choices
tallying c = record c { tallied = true }

-- the first number that is out of range
abbrev pub first_bad : Choices → Option BadSetting
first_bad c =
    if not (within 64 c.workers) then Some Workers
    else (if not (within 65536 c.block_pairs) then Some BlockPairs
    else (if not (within 64 c.depth) then Some Depth
    else (if not (within 1048576 c.chunk) then Some Chunk
    else (if not (within (2 ^ 40) c.max_reads) then Some MaxReads
    else (if not (within (2 ^ 40) c.gate_turns) then Some GateTurns
    else None)))))

-- the choices, unless one is out of range
abbrev pub unless_bad : Choices → Option BadSetting → Result Choices BadSetting
unless_bad c None = Ok c
unless_bad c (Some bad) = Err bad

abbrev pub checked : Choices → Result Choices BadSetting
checked c = unless_bad c (first_bad c)

-- each number is in its range
pub record AreInRange (workers block_pairs depth chunk max_reads gate_turns : ℕ) : Type 0 where
  pub some_workers : 1 ≤ workers
  pub most_workers : workers ≤ 64
  pub some_pairs : 1 ≤ block_pairs
  pub most_pairs : block_pairs ≤ 65536
  pub some_depth : 1 ≤ depth
  pub most_depth : depth ≤ 64
  pub some_bytes : 1 ≤ chunk
  pub most_bytes : chunk ≤ 1048576
  pub some_reads : 1 ≤ max_reads
  pub most_reads : max_reads ≤ 2 ^ 40
  pub some_turns : 1 ≤ gate_turns
  pub most_turns : gate_turns ≤ 2 ^ 40
