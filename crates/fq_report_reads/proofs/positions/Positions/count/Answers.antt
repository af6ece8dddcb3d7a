use Rattle.std.proofs.Common.{◌∙◌, arith}
use Rattle.fq_report_reads.specs.Columns.{columns_from, first_rows}
use Rattle.fq_report_reads.proofs.ColumnLemmas.{columns_swap, columns_none}
use Rattle.fq_report_reads.proofs.LaneLemmas.{read_added, read_held, read_full, read_moved}
use Rattle.fq_report_reads.proofs.positions.Positions.count.Goals as goal

-- a read that ends after the last position of `few` is added to the totals
pub returns-then-end-self : goal.returns-then-end-self
returns-then-end-self c =
    let few = first_rows c.self.inside.reached c.self.inside.narrow in
    let read = columns_from c.args.at c.args.encoding c.args.seq.now c.args.qual.now in
    let moved = columns_swap c.self.inside.totals read few in
    cc

-- when the counts of a few reads are moved, they are such as 254 reads can give
pub empty-requires-clause-few : goal.empty-requires-clause-few
empty-requires-clause-few c =
    read_full c.args.at c.args.encoding c.args.seq.now c.args.qual.now c.self.invariant
    c.max-self-inside.ensures c.if-end-self.false c.count-2.ensures c.requires.same
    c.requires.scored

-- with one more read, as long as they are fewer than 254, there is room for a further one
pub invariant_of-self-else-self-eq-MOST_READS : goal.invariant_of-self-else-self-eq-MOST_READS
invariant_of-self-else-self-eq-MOST_READS c =
    let room = c.self.invariant.room in
    read_held c.args.at c.args.encoding c.args.seq.now c.args.qual.now c.self.invariant
    c.max-self-inside.ensures c.if-end-self.false c.count-2.ensures c.requires.same
    c.requires.scored (omega (arith, c.if-self-eq-MOST_READS.false))

-- after the counts of 254 reads are moved, there is room for a few again
pub invariant_of-self-then-self-eq-MOST_READS : goal.invariant_of-self-then-self-eq-MOST_READS
invariant_of-self-then-self-eq-MOST_READS c =
    read_moved c.args.at c.args.encoding c.args.seq.now c.args.qual.now c.self.invariant
    c.max-self-inside.ensures c.if-end-self.false c.count-2.ensures c.requires.same
    c.requires.scored _ c.empty.ensures.none

-- the read is counted, and moved to the totals with the few reads before it
pub returns-then-self-eq-MOST_READS : goal.returns-then-self-eq-MOST_READS
returns-then-self-eq-MOST_READS c =
    columns_none c.empty.new.totals ∙ c.empty.ensures.moved
    ∙ read_added c.args.at c.args.encoding c.args.seq.now c.args.qual.now c.self.invariant
    c.max-self-inside.ensures c.if-end-self.false c.count-2.ensures c.requires.same
    c.requires.scored c.self.inside.totals c.self.view_is

-- the read is counted among the few reads
pub returns-else-self-eq-MOST_READS : goal.returns-else-self-eq-MOST_READS
returns-else-self-eq-MOST_READS c =
    read_added c.args.at c.args.encoding c.args.seq.now c.args.qual.now c.self.invariant
    c.max-self-inside.ensures c.if-end-self.false c.count-2.ensures c.requires.same
    c.requires.scored c.self.inside.totals c.self.view_is
