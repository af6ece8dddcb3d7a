use Rattle.std.proofs.Common.{length, ap, arith}
use Rattle.fq_report_reads.proofs.SideLemmas.{kept_part, counted_in_parts}
use Rattle.fq_report_reads.proofs.side.whole_bases.Goals as goal

-- the counts of the kept bases, of those before and of those after are those of the whole read
pub returns : goal.returns
returns c =
    let k = c.args.kept in
    let read = c.args.read.now in
    let lawful = c.title.ensures.lawful in
    let e = c.encoding-encoding.result in
    let seq = c.seq-seq.result.now in
    let qual = c.qual_of-qual.result.now in
    let e_is = c.encoding-encoding.ensures in
    let qual_is = c.qual_of-qual.ensures in
    let order = k.some in
    let within = c.requires.within in
    let same_len = lawful.same_len in
    let fits = lawful.seq_fits in
    let seq_len = ap length c.seq-seq.ensures in
    let qual_len = ap length qual_is in
    let left = kept_part read k e seq qual e_is c.seq-seq.ensures qual_is within same_len in
    let all = counted_in_parts e seq qual k.start k.stop (omega arith) (omega arith) (omega arith)
    (omega arith) (rw (e_is, qual_is) lawful.scores) in
    grind (arith, left, all)
