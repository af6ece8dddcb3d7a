use Rattle.fq_report_reads.specs.Columns.{columns_plus, first_rows}
use Rattle.fq_report_reads.proofs.ColumnLemmas.{columns_assoc, columns_four, columns_swap}
use Rattle.fq_report_reads.proofs.positions.Positions.add_all.Goals as goal

-- the columns grow by all that the other counter has counted
pub returns : goal.returns
returns c =
    let few = first_rows c.self.inside.reached c.self.inside.narrow in
    let totals = columns_plus c.self.inside.totals c.other.inside.totals in
    let other = first_rows c.other.inside.reached c.other.inside.narrow in
    let moved = columns_swap totals other few in
    let both = columns_assoc totals few other in
    let all = columns_four c.self.inside.totals c.other.inside.totals few other in
    cc
