-- What a disk in memory holds.
use Rattle.std.specs.Prelude.{ℕ, true, false, List, [], map, get_or}
use Rattle.std.specs.BTreeMap.{get_by_text}
use Rattle.fq_files.specs.Disks.{DiskState, Inode}
use Rattle.fq_files.specs.Memory.{is_memory_error}
use Rattle.fq_files.specs.declared.disk.Kind.TheVariants.{Regular}
use Rattle.fq_files.specs.declared.memory_disk.Node.{Node}
use Rattle.fq_files.specs.declared.memory_disk.MemoryDisk.{MemoryDisk}

-- a node as an inode
abbrev pub inode_of_node : Node → Inode
inode_of_node node = record { is_there = node.is_there; kind = Regular; bytes = node.bytes.items }

-- the inode of this number; a number of no node is that of an empty one that isn't there
abbrev pub inode_at : List Node → ℕ → Inode
inode_at nodes i = record {
  is_there = get_or (map (λ node. node.is_there) nodes) i false;
  kind = Regular;
  bytes = get_or (map (λ node. node.bytes.items) nodes) i [];
}

abbrev pub disk_state_of : MemoryDisk → DiskState
disk_state_of disk = record {
  tells = true;
  is_plain = λ i. true;
  inode_of = get_by_text disk.names;
  at = inode_at disk.nodes.items;
  refuses = λ name error. is_memory_error error;
  fails = λ i error. is_memory_error error;
}
