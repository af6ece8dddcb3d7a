use Rattle.fq_trim.proofs.WindowLemmas.{each_less}
use Rattle.fq_trim.proofs.vectors.less_32.Goals as goal

-- each of 32 bytes minus the offset
pub returns : goal.returns
returns c = each_less c.args.bytes c.args.offset 32 c.fits-bytes.0 c.fits-bytes.1 c.ranges.offset
