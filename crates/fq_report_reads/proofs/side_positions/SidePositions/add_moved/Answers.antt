use Rattle.fq_report_reads.specs.Columns.{columns_from}
use Rattle.fq_report_reads.proofs.SideColumnLemmas.{paired_moved_more, unpaired_moved_more}
use Rattle.fq_report_reads.proofs.side_positions.SidePositions.add_moved.Goals as goal

-- if the mate survives, the bases are counted as left with a mate
pub returns-then-mate_survives : goal.returns-then-mate_survives
returns-then-mate_survives c =
    paired_moved_more c.self.inside
    (columns_from 0 c.args.encoding c.args.seq.now c.args.qual.now) c.self.view_is
    c.add.ensures c.deref_mut.ensures.value c.if-mate_survives.true

-- if the mate is dropped, the bases are counted as left alone
pub returns-else-mate_survives : goal.returns-else-mate_survives
returns-else-mate_survives c =
    unpaired_moved_more c.self.inside
    (columns_from 0 c.args.encoding c.args.seq.now c.args.qual.now) c.self.view_is
    c.add-else-mate_survives.ensures c.deref_mut-else-mate_survives.ensures.value
    c.if-mate_survives.false
