-- Sums of columns, and of the columns of sides.
use Rattle.std.proofs.Common.{◌≡◌, Bool, true, false, cond, refl, ap, ◌∙◌}
use Rattle.fq_text.specs.Grammar.{Read}
use Rattle.fq_report_reads.specs.declared.columns.Columns.{Columns}
use Rattle.fq_report_reads.specs.Courses.{Part, whole, survives}
use Rattle.fq_report_reads.specs.Columns.{columns_of}
use Rattle.fq_report_reads.proofs.ColumnLemmas.{columns_assoc, columns_comm}
use Rattle.fq_report_reads.specs.SideColumns.{SideColumns, with_before, with_after, with_columns, side_columns_plus}

-- two sides' columns can be added in either order
pub side_columns_comm : (s t : SideColumns) → side_columns_plus s t ≡ side_columns_plus t s
side_columns_comm s t = simp columns_comm

-- the first two first, or the last two
pub side_columns_assoc : (r s t : SideColumns) →
    side_columns_plus (side_columns_plus r s) t ≡ side_columns_plus r (side_columns_plus s t)
side_columns_assoc r s t = simp columns_assoc

after_if : (b : Bool) (x : Columns) (mate_survives : Bool) (s t : SideColumns) →
    cond b (with_after x mate_survives (side_columns_plus s t)) (side_columns_plus s t)
    ≡ side_columns_plus s (cond b (with_after x mate_survives t) t)
after_if true x true s t = simp columns_assoc
after_if true x false s t = simp columns_assoc
after_if false x mate_survives s t = refl

before_read : (x : Columns) (s t : SideColumns) →
    with_before x (side_columns_plus s t) ≡ side_columns_plus s (with_before x t)
before_read x s t = let before = columns_assoc s.before t.before x in cc

-- one more read in the sum of two sides' columns is one more in the second of them
pub side_columns_read : (read : Read) (left : Part) (mate_survives : Bool) (s t : SideColumns) →
    with_columns read left mate_survives (side_columns_plus s t)
    ≡ side_columns_plus s (with_columns read left mate_survives t)
side_columns_read read left mate_survives s t =
    ap (with_before (columns_of (whole read)))
    (after_if (survives left) (columns_of left) mate_survives s t)
    ∙ before_read (columns_of (whole read)) s
    (cond (survives left) (with_after (columns_of left) mate_survives t) t)
