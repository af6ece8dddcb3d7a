use Rattle.fq_report_reads.specs.Columns.{columns_from}
use Rattle.fq_report_reads.proofs.SideColumnLemmas.{rest_more}
use Rattle.fq_report_reads.proofs.side_positions.SidePositions.add_rest.Goals as goal

-- the bases are counted as they were read
pub returns : goal.returns
returns c =
    rest_more c.self.inside (columns_from c.args.at c.args.encoding c.args.seq.now c.args.qual.now)
    c.self.view_is c.add.ensures c.deref_mut.ensures.value
