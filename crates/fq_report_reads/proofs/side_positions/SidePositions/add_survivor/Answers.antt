use Rattle.std.proofs.Common.{◌≡◌, ◌-◌, length, take, drop, arith}
use Rattle.fq_report_reads.specs.Columns.{columns_from, columns_of}
use Rattle.fq_report_reads.specs.Courses.{whole}
use Rattle.fq_report_reads.proofs.SideColumnLemmas.{in_place, left_counted, cut_columns, all_columns}
use Rattle.fq_report_reads.proofs.side_positions.SidePositions.add_survivor.Goals as goal

-- a read that lost bases only at its end is counted: the lost ones, and the others in place
pub returns-then-stop-seq : goal.returns-then-stop-seq
returns-then-stop-seq c =
    let read = c.args.read.now in
    let k = c.args.kept in
    let e = c.encoding-encoding.result in
    let seq = c.seq-seq.result.now in
    let qual = c.qual-qual.result.now in
    let lawful = c.title.ensures.lawful in
    let start : k.start ≡ 0 = let none = c.if-start-gt0.false in omega arith in
    let x = columns_from 0 e (take (k.stop - k.start) (drop k.start seq))
    (take (k.stop - k.start) (drop k.start qual)) in
    let rest = columns_from k.stop e (take (length seq - k.stop) (drop k.stop seq))
    (take (length qual - k.stop) (drop k.stop qual)) in
    let both = cut_columns read k e seq qual c.encoding-encoding.ensures c.seq-seq.ensures
    c.qual-qual.ensures c.requires lawful.same_len lawful.seq_fits lawful.scores start in
    let placed = in_place x rest (columns_of (whole read)) c.args.mate_survives c.args.self.now
    both in
    let left = left_counted read k c.args.mate_survives c.args.self.now e seq qual
    c.encoding-encoding.ensures c.seq-seq.ensures c.qual-qual.ensures c.requires lawful.same_len in
    grind (arith, c.add_in_place.ensures, c.add_rest-then-stop-seq.ensures)

-- a read that lost nothing is counted: all of its bases in place
pub returns-else-stop-seq : goal.returns-else-stop-seq
returns-else-stop-seq c = grind (arith, all_columns, left_counted)
