use Rattle.std.proofs.Common.{arith, inl, inr, refl}
use Rattle.fq_files.specs.declared.files.Cause.TheVariants.{Input, Output, System}
use Rattle.fq_files.proofs.KeyLemmas.{leads_open}
use Rattle.fq_files.proofs.disk_files.DiskFilesFiles.target.Goals as goal

-- only an input is refused because it is one
pub returns-clause-rightly : goal.returns-clause-rightly
returns-clause-rightly g c = elim [
  | Input ↦ λ is. inr (
    refl,
    leads_open _ _ _ (λ tells.
        (c.open_target.ensures.rightly Input is tells).input refl),
  )
  | Output ↦ λ is. inl (grind (arith))
  | System error ↦ λ is. inl (grind (arith))
]
