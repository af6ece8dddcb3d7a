-- A read whose bases are counted in parts.
use Rattle.std.proofs.Common.{◌≡◌, ℕ, ◌+◌, ◌-◌, ◌≤◌, Bool, true, not, cond, nat_le, Some, List, length, take, drop, count_by, ap, sym, ◌∙◌, arith}
use Rattle.std.specs.List.{sum_by, list_all}
use Rattle.std.proofs.lemmas.List.{length-map, length-drop, length-take-le, drop-drop, take_rest}
use Rattle.std.proofs.lemmas.List.Sums.{sum_by-take-drop, count_by-le-length}
use Rattle.fq_text.specs.declared.encoding.Encoding.{Encoding}
use Rattle.fq_text.specs.Scores.{is_scored}
use Rattle.fq_text.specs.Grammar.{Read}
use Rattle.fq_trim.specs.declared.trimming.Kept.{Kept}
use Rattle.fq_trim.specs.Keeping.{scores}
use Rattle.fq_trim.specs.KeptPlaces.{places_of}
use Rattle.fq_trim.specs.Sums.{capped_sum}
use Rattle.fq_trim.proofs.PlaceLemmas.{length-places, length-scores, scores_at, scores_of_part, sum_small}
use Rattle.fq_trim.proofs.KeptLemmas.{kept_survives}
use Rattle.fq_report_reads.specs.declared.bases.BaseTally.{BaseTally}
use Rattle.fq_report_reads.specs.declared.side.SideTally.{SideTally}
use Rattle.fq_report_reads.specs.Rows.{counted}
use Rattle.fq_report_reads.specs.Courses.{Part, part_at, whole, survives}
use Rattle.fq_report_reads.specs.SideColumns.{with_columns}
use Rattle.fq_report_reads.specs.SideTallies.{bases_of, bases_plus, with_part, with_left}
use Rattle.fq_report_reads.proofs.CourseLemmas.{part, cut}
use Rattle.fq_report_reads.proofs.LeftLaws.{at, not_empty}
use Rattle.std.proofs.lemmas.Grind.{common_steps}

-- a sum over a list is that over its front, its middle and its end
three : (f : ℕ → ℕ) (xs : List ℕ) (a b n : ℕ) → a ≤ b → n ≡ length xs →
    sum_by f (take a xs) + sum_by f (take (b - a) (drop a xs)) + sum_by f (take (n - b) (drop b xs))
    ≡ sum_by f xs
three f xs a b n order size = grind (arith, common_steps, sum_by-take-drop, drop-drop, take_rest)

-- sums of so little are exact
exact : (front left behind all : ℕ) → front + left + behind ≡ all → all ≤ 132120576 →
    capped_sum (capped_sum left front) behind ≡ all
exact front left behind all is few = omega arith

-- the bases before a place
abbrev pub part_before : Encoding → List ℕ → List ℕ → ℕ → Part
part_before e seq qual a = part e (take a seq) (take a qual)

-- the bases from a place on
abbrev pub part_from : Encoding → List ℕ → List ℕ → ℕ → Part
part_from e seq qual b = part e (take (length seq - b) (drop b seq))
    (take (length qual - b) (drop b qual))

module _ (e : Encoding) (seq qual : List ℕ) (a b : ℕ) (order : a ≤ b) (within : b ≤ length seq)
    (same : length qual ≡ length seq) (few : length seq ≤ 1048576) where
  abbrev left_part : Part
  left_part = cut a (b - a) (part e seq qual)

  letters : (test : ℕ → Bool) →
      capped_sum (capped_sum (count_by test left_part.seq) (count_by test
      (part_before e seq qual a).seq)) (count_by test (part_from e seq qual b).seq)
      ≡ count_by test seq
  letters test = grind (arith, common_steps, three, count_by-le-length, exact)

  in_scores : (f : ℕ → ℕ) → sum_by f (scores e (part_before e seq qual a).qual) + sum_by f
      (scores e left_part.qual) + sum_by f (scores e (part_from e seq qual b).qual)
      ≡ sum_by f (scores e qual)
  in_scores f =
      let size = length-scores e qual in
      let front = ap (sum_by f) (scores_of_part e qual 0 a) in
      let left = ap (sum_by f) (scores_of_part e qual a (b - a)) in
      let behind = ap (sum_by f) (scores_of_part e qual b (length qual - b)) in
      let parts = three f (scores e qual) a b (length qual) order (sym size) in
      omega arith

  over : (least : ℕ) →
      capped_sum (capped_sum (count_by (nat_le least) (scores e left_part.qual)) (count_by
      (nat_le least) (scores e (part_before e seq qual a).qual)))
      (count_by (nat_le least) (scores e (part_from e seq qual b).qual))
      ≡ count_by (nat_le least) (scores e qual)
  over least = grind (arith, common_steps, length-scores, count_by-le-length, in_scores, exact)

  -- what is counted before what is left, of it, and after it is what is counted of all
  pub counted_in_parts : list_all (is_scored e) qual ≡ true →
      bases_plus (bases_plus (bases_of left_part) (bases_of (part_before e seq qual a)))
      (bases_of (part_from e seq qual b)) ≡ bases_of (part e seq qual)
  counted_in_parts scored =
      grind (
        arith,
        common_steps,
        sum_small,
        length-take-le,
        length-drop,
        exact,
        over,
        in_scores,
        letters,
      )

-- the bases G or C of a read are among its bases, of which there are few
pub few_bases : (p : Part) (b : BaseTally) → b ≡ bases_of p → length p.seq ≤ 1048576 →
    (b.bases ≤ 1048576) × (b.gc ≤ b.bases)
few_bases p b is few = grind (arith, common_steps, count_by-le-length)

-- what is kept of a read, as the part between two places
pub kept_part : (read : Read) (k : Kept) (e : Encoding) (seq qual : List ℕ) → e ≡ read.encoding →
    seq ≡ read.seq → qual ≡ read.qual → k.stop ≤ length read.seq →
    length read.qual ≡ length read.seq →
    cut k.start (k.stop - k.start) (part e seq qual) ≡ part_at (places_of (Some k)) (whole read)
kept_part read k e seq qual e_is seq_is qual_is within same =
    grind (arith, common_steps, scores_at, cut, part)

-- what is left of a read has as many bases as there are places from start up to stop
pub kept_length : (k : Kept) (p : Part) → length (part_at (places_of (Some k)) p).seq ≡ k.stop -
    k.start
kept_length k p = grind (arith, common_steps, length-map, at, length-places)

-- the counts of what is kept of a read are those of so many bases
pub kept_counts : (read : Read) (k : Kept) (b : BaseTally) →
    b ≡ bases_of (part_at (places_of (Some k)) (whole read)) → k.stop ≤ length read.seq →
    length read.seq ≤ 1048576 →
    (k.stop - k.start ≡ b.bases) × ((b.bases ≤ 1048576) × (b.gc ≤ b.bases))
kept_counts read k b is within few =
    let size = kept_length k (whole read) in (
      sym (ap (λ (t : BaseTally). t.bases) is ∙ size),
      few_bases (part_at (places_of (Some k)) (whole read)) b is (omega arith),
    )

-- a read of which places are kept survives
pub kept_is_left : (read : Read) (k : Kept) →
    survives (part_at (places_of (Some k)) (whole read)) ≡ true
kept_is_left read k = grind (arith, common_steps, not_empty, at, kept_survives)

-- a read of which bases are kept
pub survivor : (read : Read) (k : Kept) (mate_survives : Bool) (t : SideTally) →
    with_left read (part_at (places_of (Some k)) (whole read)) k.start mate_survives t ≡ record {
      before = with_part (whole read) t.before;
      paired = cond mate_survives (with_part (part_at (places_of (Some k)) (whole read)) t.paired)
          t.paired;
      unpaired =
          cond (not mate_survives) (with_part (part_at (places_of (Some k)) (whole read))
          t.unpaired)
          t.unpaired;
      front = capped_sum t.front k.start;
      behind = capped_sum t.behind (length read.seq - k.stop);
      removed_front = counted k.start t.removed_front;
      removed_behind = counted (length read.seq - k.stop) t.removed_behind;
      positions = with_columns read (part_at (places_of (Some k)) (whole read)) mate_survives
          t.positions;
      steps = t.steps;
    }
survivor read k mate_survives t =
    let left = part_at (places_of (Some k)) (whole read) in
    let order = k.some in
    let size = kept_length k (whole read) in
    let is = kept_is_left read k in
    let removed : length read.seq - k.start - length left.seq ≡ length read.seq - k.stop =
    omega arith in
    simp (is, removed)
