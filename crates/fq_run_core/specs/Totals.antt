-- What a run counts: the pairs whose block was written completely. The tally may have more pairs
-- until the run is over.
use Rattle.std.specs.Prelude.{Bool, Option, Some, None, List, [], if◌then◌else◌}
use Rattle.fq_trim.specs.declared.step.Step.{Step}
use Rattle.fq_pair.specs.Mates.{Mates}
use Rattle.fq_pair.specs.Outputs.{counts_of}
use Rattle.fq_pair.specs.Summaries.{capped}
use Rattle.fq_report_pairs.specs.declared.tally.Tally.{Tally}
use Rattle.fq_report_pairs.specs.Tallies.{plus}
use Rattle.fq_report_pairs.specs.declared.done.Done.{Done}
use Rattle.fq_report_pairs.specs.Results.{tally_if}
use Rattle.fq_run_core.specs.declared.outcome.Outcome.{Outcome}
use Rattle.fq_run_core.specs.Endings.{ends_whole}
use Rattle.fq_run_core.specs.declared.total.Total.{Total}

-- the counts of pairs, and their tally if one is asked for
abbrev pub total_of : Bool → List Step → List Mates → Total
total_of tallied steps pairs =
    record { counts = counts_of steps pairs; tally = tally_if tallied steps pairs }

abbrev pub no_total : Bool → Total
no_total tallied = total_of tallied [] []

-- the tally of a worker is added to another, if both are there
abbrev pub tally_plus : Option Tally → Option Tally → Option Tally
tally_plus (Some a) (Some b) = Some (plus a b)
tally_plus (Some a) None = Some a
tally_plus None other = None

-- the counts of a block are added to a total
abbrev pub total_plus : Total → Done → Total
total_plus total done =
    record { counts = capped total.counts done.texts.counts; tally = total.tally }

-- what a run with this outcome returns of a total: no tally unless it ended whole
abbrev pub tally_at : Outcome → Option Tally → Option Tally
tally_at outcome tally = if ends_whole outcome then tally else None

abbrev pub ended : Outcome → Total → Total
ended outcome total = record { counts = total.counts; tally = tally_at outcome total.tally }
