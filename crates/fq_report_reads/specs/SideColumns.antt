-- What is counted of the bases of one side by their position in the read.
use Rattle.std.specs.Prelude.{Bool, if◌then◌else◌}
use Rattle.fq_text.specs.Grammar.{Read}
use Rattle.fq_report_reads.specs.declared.columns.Columns.{Columns}
use Rattle.fq_report_reads.specs.Courses.{Part, whole, survives}
use Rattle.fq_report_reads.specs.Columns.{columns_of, no_columns, columns_plus}

-- of all reads as they were read, of what is left of those that survive with their mate, and of
-- what is left of those that survive alone
pub record SideColumns : Type 0 where
  pub before : Columns
  pub paired : Columns
  pub unpaired : Columns

abbrev pub no_side_columns : SideColumns
no_side_columns = record { before = no_columns; paired = no_columns; unpaired = no_columns }

-- more bases as they were read
abbrev pub with_before : Columns → SideColumns → SideColumns
with_before columns t = record {
  before = columns_plus t.before columns;
  paired = t.paired;
  unpaired = t.unpaired;
}

-- what is left of one more read, if its mate survives and if not
abbrev pub with_after : Columns → Bool → SideColumns → SideColumns
with_after columns mate_survives t = record {
  before = t.before;
  paired = if mate_survives then columns_plus t.paired columns else t.paired;
  unpaired = if mate_survives then t.unpaired else columns_plus t.unpaired columns;
}

-- one more read, what is left of it, and whether its mate survives
abbrev pub with_columns : Read → Part → Bool → SideColumns → SideColumns
with_columns read left mate_survives t = with_before (columns_of (whole read))
    (if survives left then with_after (columns_of left) mate_survives t else t)

abbrev pub side_columns_plus : SideColumns → SideColumns → SideColumns
side_columns_plus a b = record {
  before = columns_plus a.before b.before;
  paired = columns_plus a.paired b.paired;
  unpaired = columns_plus a.unpaired b.unpaired;
}
