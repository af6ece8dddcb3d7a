use Rattle.std.proofs.Common.{◌∙◌}
use Rattle.fq_trim.proofs.WindowLemmas.{all_high_by_lower}
use Rattle.fq_trim.proofs.windows.are_all_high.Goals as goal

-- 32 scores are high exactly if the lower of each two that are 16 apart is
pub returns : goal.returns
returns c = c.are_at_least.ensures ∙ all_high_by_lower c.args.offset c.args.score c.args.qual.now
    c.requires.long c.lower_of-lower.ensures c.less_16.ensures
