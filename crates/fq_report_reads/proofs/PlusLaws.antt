-- Counts of the reads of a side, added up in any order. One more read for a sum is one more for
-- what is added.
use Rattle.std.proofs.Common.{◌≡◌, ℕ, Bool, true, false, not, ◌&&◌, cond, List, [], ◌∷◌, min, max, refl, arith}
use Rattle.fq_text.specs.Grammar.{Read}
use Rattle.fq_trim.specs.Sums.{capped_sum}
use Rattle.fq_report_reads.specs.declared.bases.BaseTally.{BaseTally}
use Rattle.fq_report_reads.specs.declared.reads.ReadsTally.{ReadsTally}
use Rattle.fq_report_reads.specs.declared.side.SideTally.{SideTally}
use Rattle.fq_report_reads.specs.Rows.{counted, counted_if, counted_all, rows_plus}
use Rattle.fq_report_reads.specs.Courses.{Part, whole, Course, survives}
use Rattle.fq_report_reads.specs.SideTallies.{bases_plus, with_part, reads_plus, behind_of, with_read, side_plus}
use Rattle.fq_report_reads.proofs.PositionLemmas.{capped_assoc, rows_assoc, rows_comm}
use Rattle.std.proofs.lemmas.Grind.{common_steps}
use Rattle.fq_report_reads.proofs.SideColumnSums.{side_columns_read, side_columns_comm, side_columns_assoc}
use Rattle.std.proofs.lemmas.Grind.{common_steps}

min_assoc : (a b c : ℕ) → min (min a b) c ≡ min a (min b c)
min_assoc a b c = omega arith

max_assoc : (a b c : ℕ) → max (max a b) c ≡ max a (max b c)
max_assoc a b c = omega arith

bases_assoc : (a b c : BaseTally) → bases_plus (bases_plus a b) c ≡ bases_plus a (bases_plus b c)
bases_assoc a b c = simp capped_assoc

bases_comm : (a b : BaseTally) → bases_plus a b ≡ bases_plus b a
bases_comm a b = grind arith

reads_assoc : (a b c : ReadsTally) → reads_plus (reads_plus a b) c ≡ reads_plus a (reads_plus b c)
reads_assoc a b c = simp (capped_assoc, min_assoc, max_assoc, rows_assoc)

reads_comm : (a b : ReadsTally) → reads_plus a b ≡ reads_plus b a
reads_comm a b = grind (arith, bases_comm, rows_comm)

-- two sides may be added in either order
pub side_comm : (s t : SideTally) → side_plus s t ≡ side_plus t s
side_comm s t = grind (arith, reads_comm, rows_comm, side_columns_comm)

-- of three sides the first two may be added first, or the last two
pub side_assoc : (r s t : SideTally) → side_plus (side_plus r s) t ≡ side_plus r (side_plus s t)
side_assoc r s t = grind (arith, reads_assoc, rows_assoc, side_columns_assoc)

-- One more read.

rows_if : (b : Bool) (n : ℕ) (xs ys : List ℕ) →
    counted_if b n (rows_plus xs ys) ≡ rows_plus xs (counted_if b n ys)
rows_if true n xs ys = simp rows_assoc
rows_if false n xs ys = refl

rows_all : (ns xs ys : List ℕ) → counted_all ns (rows_plus xs ys) ≡ rows_plus xs
    (counted_all ns ys)
rows_all [] xs ys = refl
rows_all (n ∷ ns) xs ys = grind (arith, common_steps, rows_assoc, rows_all ns xs (counted n ys))

reads_part : (p : Part) (a b : ReadsTally) →
    with_part p (reads_plus a b) ≡ reads_plus a (with_part p b)
reads_part p a b = grind (arith, bases_assoc, rows_assoc, rows_if)

part_if : (b : Bool) (p : Part) (s t : ReadsTally) →
    cond b (with_part p (reads_plus s t)) (reads_plus s t) ≡ reads_plus s (cond b (with_part p t) t)
part_if true p s t = reads_part p s t
part_if false p s t = refl

sum_if : (b : Bool) (n s t : ℕ) → cond b (capped_sum (capped_sum s t) n) (capped_sum s t)
    ≡ capped_sum s (cond b (capped_sum t n) t)
sum_if b n s t = grind (arith, common_steps, capped_assoc)

-- one more read for the sum of two sides is one more for the second
pub side_read : (read : Read) (c : Course) (mate_survives : Bool) (s t : SideTally) →
    with_read read c mate_survives (side_plus s t) ≡ side_plus s (with_read read c mate_survives t)
side_read read c mate_survives s t =
    let before = reads_part (whole read) s.before t.before in
    let paired = part_if (survives c.left && mate_survives) c.left s.paired t.paired in
    let unpaired = part_if (survives c.left && not mate_survives) c.left s.unpaired t.unpaired in
    let front = sum_if (survives c.left) c.front s.front t.front in
    let behind = sum_if (survives c.left) (behind_of read c.left c.front) s.behind t.behind in
    let removed_front = rows_if (survives c.left) c.front s.removed_front t.removed_front in
    let removed_behind = rows_if (survives c.left) (behind_of read c.left c.front) s.removed_behind
    t.removed_behind in
    let positions = side_columns_read read c.left mate_survives s.positions t.positions in
    let shortened = rows_all c.shortened s.steps.shortened t.steps.shortened in
    let dropped = rows_all c.dropped s.steps.dropped t.steps.dropped in cc
