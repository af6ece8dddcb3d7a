use Rattle.std.proofs.Common.{ap₂, ◌++◌, length}
use Rattle.std.proofs.lemmas.List.{drop-replicate}
use Rattle.fq_report_reads.proofs.vectors.all_of.Goals as goal

-- the lanes are the bytes, and then zeros
pub returns : goal.returns
returns c = ap₂ (λ front behind. front ++ behind) c.copy_from_slice.ensures.after
    (drop-replicate (length c.args.bytes.now) 32 0)
