-- A disk as contracts see it, by inode.
use Rattle.std.specs.Prelude.{◌≡◌, ◌≢◌, ℕ, Bool, true, false, IsTrue, Option, Some, List, [], length}
use Rattle.fq_text.specs.declared.seen.SystemError.{SystemError}
use Rattle.fq_files.specs.declared.disk.Facts.{Facts}
use Rattle.fq_files.specs.declared.disk.Kind.{Kind}
use Rattle.fq_files.specs.declared.disk.Kind.TheVariants.{Device, Regular}

pub record Inode : Type 0 where
  -- Whether there is such an inode.
  pub is_there : Bool
  pub kind : Kind
  -- The bytes that it holds, if it is a regular file.
  pub bytes : List ℕ

pub record DiskState : Type 0 where
  -- Whether names and bytes are known to the proof. This never changes.
  pub tells : Bool
  -- Whether this inode is a regular file once it is there. This never changes.
  pub is_plain : ℕ → Bool
  -- The inode that each name leads to, links followed, once it is there; without one there never
  -- is a file of this name. This never changes.
  pub inode_of : List ℕ → Option ℕ
  -- Each inode.
  pub at : ℕ → Inode
  -- By which errors this name may be refused when it is opened. This never changes.
  pub refuses : List ℕ → SystemError → Bool
  -- By which errors a call for this inode, once it is open, may fail. This never changes.
  pub fails : ℕ → SystemError → Bool

-- names and bytes are known to the proof
abbrev pub Tells : DiskState → Type 0
Tells disk = IsTrue disk.tells

abbrev pub IsRegular : DiskState → ℕ → Type 0
IsRegular disk i = (disk.at i).kind ≡ Regular

-- a regular file that was just created
abbrev pub new_inode : Inode
new_inode = record { is_there = true; kind = Regular; bytes = [] }

-- an inode that isn't there
abbrev pub absent_inode : Inode
absent_inode = record { is_there = false; kind = Device; bytes = [] }

-- this inode was created
pub record IsCreated (old new : DiskState) (i : ℕ) : Type 0 where
  pub absent : (old.at i).is_there ≡ false
  pub created : new.at i ≡ new_inode

-- what the system says of this inode
pub record IsFacts (disk : DiskState) (i : ℕ) (facts : Facts) : Type 0 where
  pub inode : facts.inode ≡ i
  pub kind : facts.kind ≡ (disk.at i).kind
  pub size : IsRegular disk i → facts.length ≡ length (disk.at i).bytes

-- what the system says of the inode that this name leads to
pub record IsFactsOf (disk : DiskState) (name : List ℕ) (facts : Facts) : Type 0 where
  pub leads : disk.inode_of name ≡ Some facts.inode
  pub there : IsTrue (disk.at facts.inode).is_there
  pub told : IsFacts disk facts.inode facts

-- only inodes have changed
abbrev pub OnlyChanges : DiskState → DiskState → Type 0
OnlyChanges old new = new ≡ record old { at = new.at }

-- no inode has changed
abbrev pub KeepsInodes : DiskState → DiskState → Type 0
KeepsInodes old new = (i : ℕ) → new.at i ≡ old.at i

-- every inode but this one is as it was
abbrev pub KeepsOthers : DiskState → DiskState → ℕ → Type 0
KeepsOthers old new i = (other : ℕ) → other ≢ i → new.at other ≡ old.at other
