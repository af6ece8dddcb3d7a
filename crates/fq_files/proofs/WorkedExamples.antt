-- Device numbers, as the C library's `makedev` makes them, and files by key.
use Rattle.std.proofs.Common.{◌≡◌, refl, ℕ, suc, zero, nat_eq, true, false, Some, None, [], ◌∷◌}
use Rattle.fq_files.specs.ByKey.{bytes_in, told, writes_on}
use Rattle.fq_files.specs.Devices.{device_of}
use Rattle.fq_files.specs.Disks.{DiskState, Inode, absent_inode, new_inode}
use Rattle.fq_files.specs.MemoryDisks.{disk_state_of}
use Rattle.fq_files.specs.declared.memory_disk.MemoryDisk.{MemoryDisk}

-- 0:27, a file system in memory, and the first with a minor number of nine bits.
in_memory : device_of 0 27 ≡ 27
in_memory = refl

nine_bits : device_of 0 256 ≡ 1048576
nine_bits = refl

-- 8:1, the first partition of a disk: 0x801; 254:0, a virtual disk: 0xfe00; 259:3, a partition of a
-- disk on the bus: 0x10303.
first_part : device_of 8 1 ≡ 2049
first_part = refl

virtual_disk : device_of 254 0 ≡ 65024
virtual_disk = refl

on_the_bus : device_of 259 3 ≡ 66307
on_the_bus = refl

-- Numbers of thirteen bits and more: 0x100000000000, and 0x123459abcde678f0, whose major number is
-- 0x12345678 and whose minor number is 0x9abcdef0.
thirteen_bits : device_of 4096 0 ≡ 17592186044416
thirteen_bits = refl

all_bits : device_of 305419896 2596069104 ≡ 1311771985900370160
all_bits = refl

-- Inode 0 is there, and no other. It is the file of the key that is its number alone.
abbrev lone : ℕ → Inode
lone zero = record new_inode { bytes = 65 ∷ [] }
lone (suc i) = absent_inode

of_its_key : bytes_in lone (0 ∷ []) ≡ Some (65 ∷ [])
of_its_key = refl

of_another : bytes_in lone (1 ∷ []) ≡ None
of_another = refl

of_no_file : bytes_in lone [] ≡ None
of_no_file = refl

-- The bytes of each file over a disk in memory are known to the proof, and that a name leads to
-- none.
in_memory_told : (disk : MemoryDisk) (i : ℕ) → told (disk_state_of disk) (i ∷ []) ≡ true
in_memory_told disk i = refl

no_file_told : (disk : MemoryDisk) → told (disk_state_of disk) [] ≡ true
no_file_told disk = refl

-- If inode 1 of such a disk were a pipe, those of inode 0 would be known all the same.
abbrev with_pipe : MemoryDisk → DiskState
with_pipe disk = record (disk_state_of disk) { is_plain = λ i. nat_eq i 0 }

beside_a_pipe : (disk : MemoryDisk) → told (with_pipe disk) (0 ∷ []) ≡ true
beside_a_pipe disk = refl

of_the_pipe : (disk : MemoryDisk) → told (with_pipe disk) (1 ∷ []) ≡ false
of_the_pipe disk = refl

-- An outlet without a number is one of the pipe, and of no regular file. One of inode 0 is not.
of_the_pipe_too : (disk : MemoryDisk) → writes_on (with_pipe disk) None (1 ∷ []) ≡ true
of_the_pipe_too disk = refl

of_no_regular : (disk : MemoryDisk) → writes_on (with_pipe disk) None (0 ∷ []) ≡ false
of_no_regular disk = refl

of_its_own : (disk : MemoryDisk) → writes_on (with_pipe disk) (Some 0) (0 ∷ []) ≡ true
of_its_own disk = refl

not_the_pipe : (disk : MemoryDisk) → writes_on (with_pipe disk) (Some 0) (1 ∷ []) ≡ false
not_the_pipe disk = refl
