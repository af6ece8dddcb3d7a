use Rattle.fq_report_reads.specs.Columns.{first_rows}
use Rattle.fq_report_reads.proofs.ColumnLemmas.{columns_assoc}
use Rattle.fq_report_reads.proofs.positions.Positions.add_to.Goals as goal

-- these columns grow by all that the counter has counted
pub returns : goal.returns
returns c =
    let few = first_rows c.self.inside.reached c.self.inside.narrow in
    let all = columns_assoc c.args.columns.now c.self.inside.totals few in
    cc
