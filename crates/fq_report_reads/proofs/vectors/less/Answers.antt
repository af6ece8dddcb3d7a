use Rattle.fq_trim.proofs.WindowLemmas.{each_less}
use Rattle.fq_report_reads.proofs.vectors.less.Goals as goal

-- each byte is less by the offset, or 0 if it is smaller
pub returns : goal.returns
returns c = each_less c.args.bytes c.args.offset 32 c.fits-bytes.0 c.fits-bytes.1 c.ranges.offset
