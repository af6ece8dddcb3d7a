use Rattle.std.proofs.Common.{◌+◌, length, drop, arith}
use lib.Lanes.{chunk}
use Rattle.fq_text.specs.Scores.{is_scored}
use Rattle.fq_trim.proofs.PlaceLemmas.{all_taken, all_dropped}
use Rattle.fq_report_reads.proofs.ColumnLemmas.{few_weaker}
use Rattle.fq_report_reads.proofs.LaneLemmas.{scored_lanes, nothing_counted, vector_next, rest_next, all_counted, still_few}
use Rattle.fq_report_reads.proofs.narrow_columns.NarrowColumns.count.Goals as goal
use Rattle.std.proofs.lemmas.Grind.{common_steps}

-- at first no base is counted
pub loop-from-init : goal.loop-from-init
loop-from-init c =
    let near = c.requires.near in
    record {
      within = omega arith;
      counted = nothing_counted c.args.self.now (c.args.at + length c.args.qual.now + 32) 10032 253
          c.args.at c.args.encoding c.requires.few (omega arith) (omega arith) (omega arith);
    }

-- the quality bytes of the next full vector are valid lanes
pub add_vector-requires-clause-lanes : goal.add_vector-requires-clause-lanes
add_vector-requires-clause-lanes c =
    let e = c.args.encoding in
    let qual = c.args.qual.now in
    let from = c.loop-from.from in
    scored_lanes e (chunk from 32 qual) (all_taken (is_scored e) (drop from qual) 32 (all_dropped
    (is_scored e) qual from c.requires.scored))

-- before a full vector is added, the rows are such as 254 reads can give
pub add_vector-requires-clause-few : goal.add_vector-requires-clause-few
add_vector-requires-clause-few c =
    let more = c.loop-from-test.true in
    let same = c.requires.same in
    let within = c.loop-from.invariant.within in
    few_weaker c.loop-from.self (c.args.at + length c.args.qual.now + 32)
    (c.args.at + c.loop-from.from + 32) 10032 10032 254 254 (
    still_few c.args.self.now c.loop-from.self c.args.at c.loop-from.from c.args.encoding
    c.args.seq.now c.args.qual.now c.loop-from.invariant.counted c.requires.same c.requires.near
    c.requires.scored c.loop-from.invariant.within (c.args.at + length c.args.qual.now + 32)
    (omega arith) c.requires.few) (omega arith) (omega arith) (omega arith)

-- after one more full vector, the bases up to its end are counted
pub loop-from-preserved : goal.loop-from-preserved
loop-from-preserved c =
    let before = c.loop-from.invariant.within in
    let more = c.loop-from-test.true in
    record {
      within = omega arith;
      counted = vector_next c.args.self.now c.loop-from.self c.args.at c.loop-from.from
          c.args.encoding c.args.seq.now c.args.qual.now c.loop-from.invariant.counted
          c.requires.same c.requires.near c.requires.scored before
          c.add_vector.new.self (omega arith) c.add_vector.ensures;
    }

-- before the rest is counted, the rows are such as 254 reads can give
pub count_rest-requires-clause-few : goal.count_rest-requires-clause-few
count_rest-requires-clause-few c =
    still_few c.args.self.now c.loop-from.self c.args.at c.loop-from.from c.args.encoding
    c.args.seq.now c.args.qual.now c.loop-from.invariant.counted c.requires.same c.requires.near
    c.requires.scored c.loop-from.invariant.within (c.args.at + length c.args.qual.now + 32)
    (omega arith) c.requires.few

-- after the rest, all bases are counted
pub returns-then-from-seq : goal.returns-then-from-seq
returns-then-from-seq c =
    rest_next c.args.self.now c.loop-from.self c.args.at c.loop-from.from c.args.encoding
    c.args.seq.now c.args.qual.now c.loop-from.invariant.counted c.requires.same c.requires.near
    c.requires.scored c.loop-from.invariant.within
    c.count_rest.new.self c.count_rest.ensures

-- if full vectors hold the read, all bases are counted
pub returns-else-from-seq : goal.returns-else-from-seq
returns-else-from-seq c = grind (arith, common_steps, all_counted)
