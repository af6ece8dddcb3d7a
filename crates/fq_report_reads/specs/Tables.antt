-- Rows of counts of 8, 16 or 64 bits.
use Rattle.std.specs.Prelude.{ℕ, List}
use Rattle.fq_report_reads.specs.declared.table.Table.{Table}
use Rattle.fq_report_reads.specs.declared.table.Table.TheVariants.{Bytes, Words, Longs}

-- the counts of a table
abbrev pub counts_of : Table → List ℕ
counts_of (Bytes counts) = counts.now
counts_of (Words counts) = counts.now
counts_of (Longs counts) = counts.now
