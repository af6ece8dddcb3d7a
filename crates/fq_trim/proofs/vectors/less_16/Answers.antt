use Rattle.fq_trim.proofs.WindowLemmas.{each_less}
use Rattle.fq_trim.proofs.vectors.less_16.Goals as goal

-- each of 16 bytes minus the offset
pub returns : goal.returns
returns c = each_less c.args.bytes c.args.offset 16 c.fits-bytes.0 c.fits-bytes.1 c.ranges.offset
