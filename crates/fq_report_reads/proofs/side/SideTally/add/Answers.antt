use Rattle.std.proofs.Common.{Some, ap, sym, ◌∙◌}
use Rattle.fq_trim.proofs.KeptLemmas.{kept_within_read}
use Rattle.fq_report_reads.specs.Courses.{Passage}
use Rattle.fq_report_reads.proofs.side.SideTally.add.Goals as goal

-- the kept places lie within the read
pub add_survivor-requires : goal.add_survivor-requires
add_survivor-requires c = kept_within_read c.args.steps.now c.args.read.now (Some c.in-Some.kept)
    c.title.ensures.lawful.same_len (sym (c.in-Some.ensures.kept
    ∙ ap (λ (p : Passage). p.kept) c.requires))
