-- Files of a disk by key: which of them are inputs.
use Rattle.std.proofs.Common.{◌≡◌, ℕ, List, [], true, false, not, ◌&&◌, ◌||◌, IsTrue, ap, ⊎_elim, arith}
use Rattle.std.proofs.lemmas.Bool.{cases_Bool, or_left, or_right}
use Rattle.fq_files.specs.Disks.{DiskState}
use Rattle.fq_files.specs.ByInode.{is_in, LeadsInto}
use Rattle.fq_files.specs.ByKey.{by_key, key_of, told}

-- a name that leads to an input is open
pub leads_open : (disk : DiskState) (inputs name : List ℕ) →
    (IsTrue disk.tells → LeadsInto disk inputs name) →
    IsTrue (not disk.tells || by_key false (is_in inputs) (key_of (disk.inode_of name)))
leads_open disk inputs name into = ⊎_elim
    (λ yes. let led : LeadsInto disk inputs name = into yes in
    or_right (not disk.tells) _ (rw led.leads led.listed))
    (λ no. or_left (not disk.tells) _ (ap not no))
    (cases_Bool disk.tells)

-- no name leads to one of no inodes
pub none_led : (disk : DiskState) (name file : List ℕ) →
    (IsTrue disk.tells → LeadsInto disk [] name) → told disk file ≡ false
none_led disk name file into = ⊎_elim
    (λ yes. let led : LeadsInto disk [] name = into yes in grind (arith, led.listed))
    (λ no. ap (λ tells. tells && by_key true disk.is_plain file) no)
    (cases_Bool disk.tells)
