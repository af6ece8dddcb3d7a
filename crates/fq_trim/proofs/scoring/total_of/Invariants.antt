use Rattle.std.proofs.Common.{◌≡◌, ◌+◌, sum, true}
use Rattle.std.specs.List.{list_all}
use Rattle.std.specs.Slice.Iter.{chunks_rest, chunks_size}
use Rattle.fq_text.specs.Scores.{is_scored}
use Rattle.fq_trim.specs.Keeping.{scores}
use Rattle.fq_trim.specs.declared.scoring.TheConstants.{CHUNK}
use Rattle.fq_trim.proofs.scoring.total_of.Given as goal

-- the total and the scores of the chunks to come are all scores
abbrev pub invariant-loop-chunk : goal.invariant-loop-chunk
invariant-loop-chunk l = record {
  ready : (goal.iterator-loop-chunk).can_next l.chunk-iterator;
  size : chunks_size l.chunk-iterator ≡ CHUNK;
  scored : list_all (is_scored l.fn.encoding) (chunks_rest l.chunk-iterator) ≡ true;
  left : l.total + sum (scores l.fn.encoding (chunks_rest l.chunk-iterator))
      ≡ sum (scores l.fn.encoding l.qual);
}
