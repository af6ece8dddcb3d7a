-- The texts of a block of pairs that was read, and the tally to which they were added.
use Rattle.std.specs.Prelude.{◌≡◌, ℕ, ◌≤◌, Option, None, List, length}
use Rattle.fq_trim.specs.declared.step.Step.{Step}
use Rattle.fq_pair.specs.Mates.{Mates}
use Rattle.fq_pair.specs.Outputs.{texts_of}
use Rattle.fq_pair.specs.Walks.{SourceState, GoesOn}
use Rattle.fq_report_pairs.specs.declared.done.Done.{Done}
use Rattle.fq_report_pairs.specs.declared.tally.Tally.{Tally}
use Rattle.fq_report_pairs.specs.Results.{tally_with}
use Rattle.fq_run_core.specs.PairsRead.{Reads}
use Rattle.fq_run_core.specs.declared.reading_end.ReadingEnd.{ReadingEnd}

-- up to `most` pairs were read and trimmed, and tallied if there is a tally and memory was not
-- refused
pub record Gathers (old new : SourceState) (steps : List Step) (most : ℕ)
    (tally tally_new : Option Tally) (gathered : Done) (why : Option ReadingEnd) : Type 0 where
  pub block : List Mates
  pub texts : gathered.texts ≡ texts_of steps block
  pub tallied : tally_new ≡ tally_with steps tally block
  pub few : length block ≤ most
  pub full : why ≡ None → length block ≡ most
  pub reads : Reads old new block why
  pub goes : why ≡ None → GoesOn new
