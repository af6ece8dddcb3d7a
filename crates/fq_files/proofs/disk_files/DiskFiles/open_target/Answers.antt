use Rattle.std.proofs.Common.{arith, rules, inl, inr}
use Rattle.std.proofs.lemmas.Grind.{common_steps}
use Rattle.fq_files.proofs.disk_files.DiskFiles.open_target.Goals as goal
use Rattle.fq_files.proofs.disk_files.DiskFiles.open_target.Goals.{then-is_regular+in_ok-map_err+then-facts-gt0+in_ok-map_err-2, then-is_regular+in_ok-map_err+else-facts-gt0, else-is_regular}

-- the system says this of the file that was opened
pub returns-in_err-facts-clause-rightly : goal.returns-in_err-facts-clause-rightly
returns-in_err-facts-clause-rightly g c = λ cause is told. record {
  input = λ same. grind (arith);
  output = λ same. grind (arith);
  system = λ error same. inr (inl (record {
    inode = g.D.File.Opened.inode c.in_ok-file.file;
    leads = grind (arith);
    fails = grind (arith);
  }));
}

-- the system says this of the file that was opened
pub returns-in_err-map_err-2-clause-rightly : goal.returns-in_err-map_err-2-clause-rightly
returns-in_err-map_err-2-clause-rightly g c = λ cause is told. record {
  input = λ same. grind (arith);
  output = λ same. grind (arith);
  system = λ error same. inr (inl (record {
    inode = g.D.File.Opened.inode c.in_ok-file.file;
    leads = grind (arith);
    fails = grind (arith);
  }));
}

-- the outlet is of the file that was opened
pub returns-clause-given : goal.returns-clause-given
returns-clause-given g c = elim c.if-is_regular.branch [
  | then-is_regular+in_ok-map_err+then-facts-gt0+in_ok-map_err-2 w ↦ search rules
  | then-is_regular+in_ok-map_err+else-facts-gt0 w ↦ search (rules, common_steps)
  | else-is_regular w ↦ λ tells. record {
    inode = g.D.File.Opened.inode c.in_ok-file.file;
    leads = grind (arith);
    there = grind (arith);
    no_input = grind (arith);
    no_output = λ regular. grind (arith);
    noted = λ regular. grind (arith);
    emptied = λ regular. grind (arith);
    telling = λ regular. grind (arith);
    nothing = λ regular. grind (arith);
    own = λ i is. grind (arith);
  }
]
