-- Sums of counts, and counts in words.
use Rattle.std.specs.Prelude.{ℕ, List, ◌++◌, codes, decimal}
use Rattle.fq_text.specs.Written.{line}
use Rattle.fq_trim.specs.Sums.{capped_sum}
use Rattle.fq_pair.specs.declared.counts.Counts.{Counts}
use Rattle.fq_pair.specs.declared.out.Out.{Out}
use Rattle.fq_pair.specs.declared.out.Out.TheVariants.{ForwardPaired, ForwardUnpaired, ReversePaired, ReverseUnpaired, Log}
use Rattle.fq_pair.specs.declared.side.Side.{Side}
use Rattle.fq_pair.specs.declared.side.Side.TheVariants.{Forward, Reverse}

abbrev pub capped : Counts → Counts → Counts
capped a b = record {
  pairs = capped_sum a.pairs b.pairs;
  both = capped_sum a.both b.both;
  forward_only = capped_sum a.forward_only b.forward_only;
  reverse_only = capped_sum a.reverse_only b.reverse_only;
  dropped = capped_sum a.dropped b.dropped;
}

-- a line of the summary
abbrev pub entry : List ℕ → ℕ → List ℕ
entry label n = line (label ++ decimal n)

-- the five lines of the summary
abbrev pub summary_of : Counts → List ℕ
summary_of counts =
    entry (codes "Input Read Pairs: ") counts.pairs
    ++ entry (codes "Both Surviving: ") counts.both
    ++ entry (codes "Forward Only Surviving: ") counts.forward_only
    ++ entry (codes "Reverse Only Surviving: ") counts.reverse_only
    ++ entry (codes "Dropped: ") counts.dropped

-- a side as it is printed
abbrev pub side_name : Side → List ℕ
side_name Forward = codes "forward"
side_name Reverse = codes "reverse"

-- an output as it is printed
abbrev pub out_name : Out → List ℕ
out_name ForwardPaired = codes "forward paired"
out_name ForwardUnpaired = codes "forward unpaired"
out_name ReversePaired = codes "reverse paired"
out_name ReverseUnpaired = codes "reverse unpaired"
out_name Log = codes "trim log"
