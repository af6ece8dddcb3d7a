-- Files of a disk by key, as the contracts of files see them.
use Rattle.std.specs.Prelude.{ℕ, Bool, true, false, not, ◌&&◌, ◌||◌, Option, Some, None, List, [], ◌∷◌, if◌then◌else◌}
use Rattle.std.specs.Str.{bytes_eq}
use Rattle.fq_files.specs.ByInode.{is_in}
use Rattle.fq_files.specs.Disks.{DiskState, Inode}
use Rattle.fq_files.specs.Holding.{Holding}
use Rattle.fq_files.specs.States.{FilesState}
use Rattle.fq_files.specs.declared.files.Cause.{Cause}
use Rattle.fq_files.specs.declared.files.Cause.TheVariants.{Input, Output, System}

-- the key of an inode, and that of no file
abbrev pub key_of : Option ℕ → List ℕ
key_of None = []
key_of (Some i) = i ∷ []

-- what is so of the inode of this key, or of a key of no file
abbrev pub by_key : {T : Type 0} → T → (ℕ → T) → List ℕ → T
by_key none of [] = none
by_key none of (i ∷ []) = of i
by_key none of (i ∷ j ∷ more) = none

-- the bytes of an inode, if it is there
abbrev pub bytes_at : Inode → Option (List ℕ)
bytes_at inode = if inode.is_there then Some inode.bytes else None

abbrev pub bytes_in : (ℕ → Inode) → Holding
bytes_in at = by_key None (λ i. bytes_at (at i))

abbrev pub is_input : Cause → Bool
is_input Input = true
is_input Output = false
is_input (System error) = false

-- the bytes of a regular file are known to the proof, and so is that a name leads to no file: a
-- directory or a pipe holds none
abbrev pub told : DiskState → List ℕ → Bool
told disk file = disk.tells && by_key true disk.is_plain file

-- What the inodes hold, if the disk tells.
abbrev pub bytes_of : DiskState → Holding
bytes_of disk file = if disk.tells then bytes_in disk.at file else None

-- An outlet of this number is one of the file of this key: it has the number of that inode, or it
-- has none and the inode is no regular file.
abbrev pub writes_on : DiskState → Option ℕ → List ℕ → Bool
writes_on disk (Some i) file = not disk.tells || bytes_eq (i ∷ []) file
writes_on disk None file = not disk.tells || by_key true (λ i. not (disk.is_plain i)) file

-- Files of a disk with these inputs. If the disk tells, only an input is refused because it is one,
-- whatever kind of file that is. A failure counts for every file, and so does a target that was not
-- flushed.
abbrev pub files_state_of : DiskState → List ℕ → Bool → Bool → FilesState
files_state_of disk inputs has_failed has_unflushed = record {
  leads = λ name. key_of (disk.inode_of name);
  tells = told disk;
  looks = false;
  bytes = bytes_of disk;
  refuses = λ file cause. not disk.tells || not (is_input cause);
  may_say = λ file error. true;
  writes = writes_on disk;
  is_open = λ file. not disk.tells || by_key false (is_in inputs) file;
  has_failed = λ file. has_failed;
  is_unflushed = λ file. has_unflushed;
}
