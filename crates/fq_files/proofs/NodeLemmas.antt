-- Nodes of a disk in memory as inodes.
use Rattle.std.proofs.Common.{◌≡◌, ◌≢◌, ◌<◌, ◌≤◌, ◌++◌, false, ℕ, suc, zero, refl, ap, IsTrue, List, [], ◌∷◌, length, get_or, slice_set, arith}
use Rattle.fq_files.specs.declared.disk.Kind.TheVariants.{Regular}
use Rattle.fq_files.specs.declared.memory_disk.Node.{Node}
use Rattle.fq_files.specs.MemoryDisks.{inode_at, inode_of_node}

-- an inode that is there is one of the nodes
pub there_within : (nodes : List Node) (i : ℕ) → IsTrue (inode_at nodes i).is_there →
    i < length nodes
there_within [] i there = grind (arith)
there_within (n ∷ ns) zero there = omega arith
there_within (n ∷ ns) (suc i) there =
    let e : i < length ns = there_within ns i there in omega arith

-- the inode of a node
pub inode_found : (nodes : List Node) (i : ℕ) (d : Node) → i < length nodes →
    inode_at nodes i ≡ inode_of_node (get_or nodes i d)
inode_found [] i d within = grind (arith)
inode_found (n ∷ ns) zero d within = refl
inode_found (n ∷ ns) (suc i) d within = inode_found ns i d (omega arith)

-- a node that is set is found there
pub inode_set_same : (nodes : List Node) (i : ℕ) (node : Node) → i < length nodes →
    inode_at (slice_set nodes i node) i ≡ inode_of_node node
inode_set_same [] i node within = grind (arith)
inode_set_same (n ∷ ns) zero node within = refl
inode_set_same (n ∷ ns) (suc i) node within = inode_set_same ns i node (omega arith)

-- and the others are as they were
pub inode_set_other : (nodes : List Node) (i j : ℕ) (node : Node) → j ≢ i →
    inode_at (slice_set nodes i node) j ≡ inode_at nodes j
inode_set_other [] i j node apart = refl
inode_set_other (n ∷ ns) zero zero node apart = grind (arith)
inode_set_other (n ∷ ns) zero (suc j) node apart = refl
inode_set_other (n ∷ ns) (suc i) zero node apart = refl
inode_set_other (n ∷ ns) (suc i) (suc j) node apart =
    inode_set_other ns i j node (λ same. apart (ap suc same))

-- a number of no node is that of an empty inode that isn't there
pub inode_past : (nodes : List Node) (i : ℕ) → length nodes ≤ i →
    inode_at nodes i ≡ record { is_there = false; kind = Regular; bytes = [] }
inode_past [] i past = refl
inode_past (n ∷ ns) zero past = grind (arith)
inode_past (n ∷ ns) (suc i) past = inode_past ns i (omega arith)

-- a new node that isn't there changes no inode
pub inode_reserved : (nodes : List Node) (node : Node) → node.is_there ≡ false →
    node.bytes.items ≡ [] → (i : ℕ) → inode_at (nodes ++ node ∷ []) i ≡ inode_at nodes i
inode_reserved [] node absent empty zero = grind (arith)
inode_reserved [] node absent empty (suc i) = refl
inode_reserved (n ∷ ns) node absent empty zero = refl
inode_reserved (n ∷ ns) node absent empty (suc i) = inode_reserved ns node absent empty i
