-- The values that parts of a report are built from.
use Rattle.std.specs.Prelude.{◌≡◌}
use Rattle.serde_json.specs.View.{view}
use Rattle.fq_report_reads.specs.declared.columns.Columns.{Columns}
use Rattle.fq_report_reads.specs.declared.reads.ReadsTally.{ReadsTally}
use Rattle.fq_report_reads.specs.declared.side.SideTally.{SideTally}
use Rattle.fq_report.specs.declared.counted.ReadsParts.{ReadsParts}
use Rattle.fq_report.specs.declared.counted.SideParts.{SideParts}
use Rattle.fq_report.specs.declared.report.Parts.{Parts}
use Rattle.fq_report.specs.Values.{optional_text, list}
use Rattle.fq_report.specs.Facts.{Facts}
use Rattle.fq_report.specs.Reports.{inputs_value, outputs_value, pairs_value, sides_value}
use Rattle.fq_report.specs.Reports.{rows_from, positions_value, reads_value, steps_from}

pub record AreReadsParts (t : ReadsTally) (columns : Columns) (parts : ReadsParts) : Type 0 where
  pub lengths : view parts.lengths ≡ list (rows_from 0 t.lengths)
  pub mean_scores : view parts.mean_scores ≡ list (rows_from 0 t.mean_scores)
  pub gc_percents : view parts.gc_percents ≡ list (rows_from 0 t.gc_percents)
  pub positions : view parts.positions ≡ positions_value columns

pub record AreSideParts (t : SideTally) (parts : SideParts) : Type 0 where
  pub before : view parts.before ≡ reads_value t.before t.positions.before
  pub paired : view parts.paired ≡ reads_value t.paired t.positions.paired
  pub unpaired : view parts.unpaired ≡ reads_value t.unpaired t.positions.unpaired

pub record ArePartsOf (f : Facts) (parts : Parts) : Type 0 where
  pub inputs : view parts.inputs ≡ inputs_value f.inputs f.inputs.form
  pub outputs : view parts.outputs ≡ outputs_value f
  pub fault : view parts.fault ≡ optional_text f.fault
  pub pairs : view parts.pairs ≡ pairs_value f.counts
  pub reads : view parts.reads ≡ sides_value f.tally
  pub steps : view parts.steps ≡ list (steps_from 0 f.steps f.tally)
