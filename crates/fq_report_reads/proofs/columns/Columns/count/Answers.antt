use Rattle.std.proofs.Common.{arith, ◌∙◌, ap}
use Rattle.fq_report_reads.proofs.ColumnLemmas.{columns_empty, counted_next}
use Rattle.fq_report_reads.proofs.columns.Columns.count.Goals as goal
use Rattle.fq_report_reads.specs.Columns.{columns_plus}

-- at first the columns have grown as far as the place of the first base, and no base is counted
pub loop-i-init : goal.loop-i-init
loop-i-init c =
    record {
      counted = c.grow.ensures ∙ ap (columns_plus c.args.self.now)
          (columns_empty c.args.at c.min-rows.result c.args.encoding c.min-rows.ensures);
    }

-- after base i is counted, the first i + 1 are
pub loop-i-preserved : goal.loop-i-preserved
loop-i-preserved c =
    let few = c.requires.few in
    let same = c.requires.same in
    let within = c.loop-i-test.true in
    record {
      counted = counted_next c.args.self.now c.loop-i.self c.count_one.new.self c.args.at c.loop-i.i
          c.min-row.result c.phred-score.result c.args.encoding c.args.seq.now c.args.qual.now
          c.loop-i.invariant.counted c.min-row.ensures c.phred-score.ensures (omega arith) same
          (omega arith) c.requires.scored c.count_one.ensures;
    }
