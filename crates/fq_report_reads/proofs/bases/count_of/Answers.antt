use Rattle.std.proofs.Common.{◌≡◌, ◌≤◌, ◌+◌, ◌-◌, ℕ, false, nat_le, List, take, drop, refl, arith, ◌∙◌}
use Rattle.std.proofs.lemmas.Bool.{lt-leb}
use Rattle.fq_report_reads.specs.declared.bases.Counted.{Counted}
use Rattle.fq_report_reads.specs.Parts.{IsCount, CountsOn}
use Rattle.fq_report_reads.specs.Letters.{is_gc, is_n}
use Rattle.fq_report_reads.specs.Vectors.{Holds}
use Rattle.fq_report_reads.proofs.VectorLemmas.{counted_on, summed_on}
use Rattle.fq_report_reads.proofs.bases.count_of.Goals as goal

not_zero : (limit : ℕ) → 1 ≤ limit → nat_le limit 0 ≡ false
not_zero limit positive = lt-leb limit 0 positive

-- the bases from one place to another, and after them those that a vector holds
goes_on : (low high from at stop : ℕ) (seq qual bases bytes : List ℕ) (old new : Counted) →
    1 ≤ low → 1 ≤ high → from ≤ at → at ≤ stop →
    Holds (take (stop - at) (drop at seq)) bases → Holds (take (stop - at) (drop at qual)) bytes →
    IsCount low high (take (at - from) (drop from seq)) (take (at - from) (drop from qual)) old →
    CountsOn low high bases bytes old new →
    IsCount low high (take (stop - from) (drop from seq)) (take (stop - from) (drop from qual)) new
goes_on low high from at stop seq qual bases bytes old new some_low some_high begun order held holds
    so_far more = record {
      gc = more.gc ∙ counted_on is_gc refl seq bases from at stop _ _ begun order held refl
          so_far.gc;
      n = more.n ∙ counted_on is_n refl seq bases from at stop _ _ begun order held refl so_far.n;
      low = more.low ∙ counted_on (nat_le low) (not_zero low some_low) qual bytes from at stop _ _
          begun
          order holds refl so_far.low;
      high = more.high ∙ counted_on (nat_le high) (not_zero high some_high) qual bytes from at stop
          _ _
          begun order holds refl so_far.high;
      sum = more.sum ∙ summed_on (λ (x : ℕ). x) refl qual bytes from at stop _ _ begun order holds
          refl
          so_far.sum;
    }

-- after one more full vector, the bases up to its end are counted
pub loop-at-preserved : goal.loop-at-preserved
loop-at-preserved c =
    let at = c.loop-at.at in
    let more = c.loop-at-test.true in
    let old = c.loop-at.invariant in
    let begun = old.begun in
    let before = old.within in
    let most = old.most in
    let here = c.with-counted.ensures in
    let small = here.most in
    record {
      begun = omega arith;
      within = omega arith;
      count = goes_on c.args.low c.args.high c.args.from at (at + 32) c.args.seq.now c.args.qual.now
          _ _ _ _ c.requires.low c.requires.high begun (omega arith) c.vector_of-bases.ensures
          c.vector_of-bytes.ensures old.count here;
      most = omega arith;
    }

-- after a last vector that is not full, all bases are counted
pub returns-then-at-to : goal.returns-then-at-to
returns-then-at-to c =
    let old = c.loop-at.invariant in
    goes_on c.args.low c.args.high c.args.from c.loop-at.at c.args.to c.args.seq.now c.args.qual.now
    _ _ _ _ c.requires.low c.requires.high old.begun old.within
    c.vector_of-bases-then-at-to.ensures c.vector_of-bytes-then-at-to.ensures old.count
    c.with-counted-then-at-to.ensures
