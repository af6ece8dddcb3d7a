use Rattle.std.proofs.Common.{arith, inr, refl}
use Rattle.fq_files.proofs.KeyLemmas.{leads_open, none_led}
use Rattle.fq_files.proofs.disk_files.DiskFilesFiles.source.Goals as goal

-- only an input is refused because it is one
pub returns-clause-refused : goal.returns-clause-refused
returns-clause-refused g c = λ cause is. record {
  missing = λ error same. (refl, λ told. inr (grind (arith)));
  twice = λ same. leads_open _ _ _ (λ tells.
      (c.open_source.ensures.rightly cause is tells).input same);
  no_output = λ same. none_led _ _ _ (λ tells.
      (c.open_source.ensures.rightly cause is tells).output same);
}
