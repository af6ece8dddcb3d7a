-- The facts of a report.
use Rattle.std.specs.Prelude.{ℕ, Bool, Option, List, map}
use Rattle.std.specs.Option.{option_map}
use Rattle.fq_text.specs.declared.encoding.Encoding.{Encoding}
use Rattle.fq_pair.specs.declared.counts.Counts.{Counts}
use Rattle.fq_pair.specs.Inputs.{InputNames, names_of}
use Rattle.fq_report_pairs.specs.declared.tally.Tally.{Tally}
use Rattle.fq_report.specs.declared.report.Report.{Report}

pub record Facts : Type 0 where
  pub program : List ℕ
  pub version : List ℕ
  pub inputs : InputNames
  pub forward_paired : List ℕ
  pub forward_unpaired : List ℕ
  pub reverse_paired : List ℕ
  pub reverse_unpaired : List ℕ
  pub log : Option (List ℕ)
  pub encoding : Encoding
  pub check_names : Bool
  pub steps : List (List ℕ)
  pub fault : Option (List ℕ)
  pub counts : Counts
  pub tally : Tally

abbrev pub facts_of : Report → Facts
facts_of r = record {
  program = r.program.now;
  version = r.version.now;
  inputs = names_of r.inputs;
  forward_paired = r.forward_paired.now;
  forward_unpaired = r.forward_unpaired.now;
  reverse_paired = r.reverse_paired.now;
  reverse_unpaired = r.reverse_unpaired.now;
  log = option_map (λ name. name.now) r.log;
  encoding = r.encoding;
  check_names = r.check_names;
  steps = map (λ word. word.now) r.steps.now;
  fault = option_map (λ line. line.now) r.fault;
  counts = r.counts;
  tally = r.tally.now;
}
