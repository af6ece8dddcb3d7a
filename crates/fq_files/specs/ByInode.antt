-- What calls of files by name do to a disk, by inode.
use Rattle.std.specs.Prelude.{◌≡◌, ◌≢◌, ◌⊎◌, ◌<◌, ◌++◌, ◌^◌, ◌/◌, ℕ, Bool, false, IsTrue, Some, List, [], ◌∷◌, nat_eq}
use Rattle.std.specs.List.{list_any}
use Rattle.fq_text.specs.Devices.{FeedState, OutletState}
use Rattle.fq_text.specs.declared.seen.SystemError.{SystemError}
use Rattle.fq_files.specs.Devices.{device_of}
use Rattle.fq_files.specs.Disks.{DiskState, IsCreated, IsRegular}
use Rattle.fq_files.specs.declared.disk.Kind.TheVariants.{Directory}
use Rattle.fq_files.specs.declared.files.Cause.{Cause}
use Rattle.fq_files.specs.declared.files.Cause.TheVariants.{System, Input, Output}

-- files over a disk, with the inodes of their inputs and outputs
pub record DiskHolding (D : Type 0) : Type 0 where
  pub disk : D
  pub inputs : List ℕ
  pub outputs : List ℕ
  pub syncs_always : Bool
  pub has_failed : Bool
  pub has_unflushed : Bool

-- whether an inode is one of these
abbrev pub is_in : List ℕ → ℕ → Bool
is_in inodes i = list_any (λ one. nat_eq one i) inodes

-- each of these inodes is there
abbrev pub AreThere : DiskState → List ℕ → Type 0
AreThere disk inodes = (i : ℕ) → IsTrue (is_in inodes i) → IsTrue (disk.at i).is_there

-- a feed of what this name leads to: it has the bytes of the inode, if that is a regular file, and
-- the inode is one more input
pub record IsSource (disk : DiskState) (inputs now : List ℕ) (name : List ℕ) (feed : FeedState) :
    Type 0 where
  pub inode : ℕ
  pub leads : disk.inode_of name ≡ Some inode
  pub there : IsTrue (disk.at inode).is_there
  pub noted : now ≡ inputs ++ inode ∷ []
  pub telling : IsRegular disk inode → IsTrue feed.tells
  pub given : IsRegular disk inode → feed.to_come ≡ (disk.at inode).bytes

-- the outlet of what this name leads to: the inode was no input, and if it is a regular file, it
-- was no output, is one now, and is empty; the outlet has its number, and has taken nothing; the
-- outlet of another file has that number or none
pub record IsTarget (old new : DiskState) (inputs outputs now : List ℕ) (name : List ℕ)
    (outlet : OutletState) : Type 0 where
  pub inode : ℕ
  pub leads : old.inode_of name ≡ Some inode
  pub there : IsTrue (new.at inode).is_there
  pub no_input : is_in inputs inode ≡ false
  pub no_output : IsRegular new inode → is_in outputs inode ≡ false
  pub noted : IsRegular new inode → now ≡ outputs ++ inode ∷ []
  pub emptied : IsRegular new inode → (new.at inode).bytes ≡ []
  pub telling : IsRegular new inode → outlet.file ≡ Some inode
  pub nothing : IsRegular new inode → outlet.taken ≡ []
  pub own : (i : ℕ) → outlet.file ≡ Some i → i ≡ inode

-- each of these inodes that is there is as it was
abbrev pub KeepsThese : List ℕ → DiskState → DiskState → Type 0
KeepsThese inodes old new = (i : ℕ) → IsTrue (is_in inodes i) → IsTrue (old.at i).is_there →
    new.at i ≡ old.at i

-- each inode is as it was, or was created and is empty
abbrev pub KeepsOrCreates : DiskState → DiskState → Type 0
KeepsOrCreates old new = (i : ℕ) → (new.at i ≡ old.at i) ⊎ IsCreated old new i

-- every inode to which this name doesn't lead is as it was
abbrev pub KeepsUnnamed : DiskState → DiskState → List ℕ → Type 0
KeepsUnnamed old new name = (i : ℕ) → old.inode_of name ≢ Some i → new.at i ≡ old.at i

-- this name leads to one of these inodes
pub record LeadsInto (disk : DiskState) (inodes : List ℕ) (name : List ℕ) : Type 0 where
  pub inode : ℕ
  pub leads : disk.inode_of name ≡ Some inode
  pub listed : IsTrue (is_in inodes inode)

-- the system may say this error of the inode that this name leads to
pub record IsSaid (disk : DiskState) (name : List ℕ) (error : SystemError) : Type 0 where
  pub inode : ℕ
  pub leads : disk.inode_of name ≡ Some inode
  pub fails : IsTrue (disk.fails inode error)

-- this name leads to a directory
pub record IsDirectory (disk : DiskState) (name : List ℕ) : Type 0 where
  pub inode : ℕ
  pub leads : disk.inode_of name ≡ Some inode
  pub kind : (disk.at inode).kind ≡ Directory

-- a cause for which this name may be refused
pub record IsCause (disk : DiskState) (inputs outputs : List ℕ) (name : List ℕ) (cause : Cause) :
    Type 0 where
  pub input : cause ≡ Input → LeadsInto disk inputs name
  pub output : cause ≡ Output → LeadsInto disk outputs name
  pub system : (error : SystemError) → cause ≡ System error →
      IsTrue (disk.refuses name error) ⊎ (IsSaid disk name error ⊎ IsDirectory disk name)

-- Whether a flush of this regular file waits for the disk: it does if that was asked for, or if the
-- file's device has no block device of its own.
pub record Syncs (always : Bool) (inode : ℕ) (syncs : Bool) : Type 0 where
  pub asked : IsTrue always → IsTrue syncs
  pub unasked : always ≡ false → (major minor : ℕ) → major < 2 ^ 32 → minor < 2 ^ 32 →
      inode / 2 ^ 64 ≡ device_of major minor → syncs ≡ nat_eq major 0

-- only of a regular file a flush waits, if so
pub record IsSynced (disk : DiskState) (always : Bool) (inode : ℕ) (syncs : Bool) : Type 0 where
  pub waits : IsRegular disk inode → Syncs always inode syncs
  pub only : IsTrue syncs → IsRegular disk inode

-- none of these inodes is forgotten
abbrev pub Remain : List ℕ → List ℕ → Type 0
Remain old new = (i : ℕ) → IsTrue (is_in old i) → IsTrue (is_in new i)
