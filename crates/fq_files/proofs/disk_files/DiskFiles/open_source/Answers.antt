use Rattle.std.proofs.Common.{arith, inl, inr}
use Rattle.fq_files.proofs.disk_files.DiskFiles.open_source.Goals as goal

-- the system says this of the file that was opened
pub returns-in_err-facts-clause-rightly : goal.returns-in_err-facts-clause-rightly
returns-in_err-facts-clause-rightly g c = λ cause is told. record {
  input = λ same. grind (arith);
  output = λ same. grind (arith);
  system = λ error same. inr (inl (record {
    inode = g.D.File.Opened.inode c.in_ok-file.file;
    leads = grind (arith);
    fails = grind (arith);
  }));
}
