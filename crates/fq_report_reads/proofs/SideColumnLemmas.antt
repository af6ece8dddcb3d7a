-- The bases of a side by their position, as they are counted once each.
use Rattle.std.proofs.Common.{◌≡◌, ℕ, ◌+◌, ◌-◌, ◌≤◌, Bool, true, false, Some, List, length, take, drop, ap, ap₂, sym, ◌∙◌, arith}
use Rattle.std.specs.List.{list_all}
use Rattle.std.proofs.lemmas.List.{take_all, take_rest, take-append-drop, length-drop, length-take-le}
use Rattle.fq_text.specs.declared.encoding.Encoding.{Encoding}
use Rattle.fq_text.specs.Grammar.{Read, IsLawful}
use Rattle.fq_text.specs.Scores.{is_scored}
use Rattle.fq_trim.specs.declared.trimming.Kept.{Kept}
use Rattle.fq_trim.specs.KeptPlaces.{places_of}
use Rattle.fq_trim.proofs.PlaceLemmas.{all_taken, all_dropped}
use Rattle.fq_report_reads.specs.declared.columns.Columns.{Columns}
use Rattle.fq_report_reads.specs.declared.side_positions.SidePositions.TheInside.{Inside}
use Rattle.fq_report_reads.specs.Courses.{part_at, whole}
use Rattle.fq_report_reads.specs.Columns.{no_columns, columns_from, columns_of, columns_plus}
use Rattle.fq_report_reads.proofs.ColumnLemmas.{columns_assoc, columns_four, columns_joined, columns_swap}
use Rattle.fq_report_reads.specs.Parts.{AreBases}
use Rattle.fq_report_reads.specs.SideColumns.{SideColumns, with_before, with_after, with_columns, side_columns_plus}
use Rattle.fq_report_reads.proofs.CourseLemmas.{part}
use Rattle.fq_report_reads.proofs.SideLemmas.{kept_is_left, kept_part}
use Rattle.std.proofs.lemmas.Grind.{common_steps}

-- the columns of a side, from the five that are counted
abbrev pub side_of : Columns → Columns → Columns → Columns → Columns → SideColumns
side_of paired unpaired rest paired_moved unpaired_moved = record {
  before = columns_plus rest (columns_plus paired unpaired);
  paired = columns_plus paired paired_moved;
  unpaired = columns_plus unpaired unpaired_moved;
}

-- the columns of a side with these five counters
abbrev pub side_in : Inside → SideColumns
side_in p = side_of p.paired.value p.unpaired.value p.rest.value p.paired_moved.value
    p.unpaired_moved.value

-- One counter of a side counts more: what it counted, y, and the columns x.
module _ (p : Inside) (x : Columns) {y now : Columns} {t : SideColumns} (view : side_in p ≡ t)
    (more : now ≡ columns_plus y x) where
  -- bases counted in the rest are counted as they were read, and not after trimming
  pub rest_more : y ≡ p.rest.value → side_of p.paired.value p.unpaired.value now
      p.paired_moved.value p.unpaired_moved.value ≡ with_before x t
  rest_more was =
      let before = columns_swap p.rest.value x (columns_plus p.paired.value p.unpaired.value) in cc

  module _ {survives : Bool} where
    -- bases counted as moved and paired are left of a read that survives with its mate
    pub paired_moved_more : y ≡ p.paired_moved.value → survives ≡ true →
        side_of p.paired.value p.unpaired.value p.rest.value now p.unpaired_moved.value
        ≡ with_after x survives t
    paired_moved_more was is = grind (arith, common_steps, columns_assoc)

    -- bases counted as moved and unpaired are left of a read that survives alone
    pub unpaired_moved_more : y ≡ p.unpaired_moved.value → survives ≡ false →
        side_of p.paired.value p.unpaired.value p.rest.value p.paired_moved.value now
        ≡ with_after x survives t
    unpaired_moved_more was is = grind (arith, common_steps, columns_assoc)

    -- bases counted as paired are counted both as they were read and as left with a mate
    pub paired_more : y ≡ p.paired.value → survives ≡ true →
        side_of now p.unpaired.value p.rest.value p.paired_moved.value p.unpaired_moved.value
        ≡ with_before x (with_after x survives t)
    paired_more was is =
        let both = columns_swap p.paired.value x p.unpaired.value in
        let before = columns_assoc p.rest.value (columns_plus p.paired.value p.unpaired.value) x in
        let paired = columns_swap p.paired.value x p.paired_moved.value in
        grind (arith, common_steps)

    -- bases counted as unpaired are counted both as they were read and as left alone
    pub unpaired_more : y ≡ p.unpaired.value → survives ≡ false →
        side_of p.paired.value now p.rest.value p.paired_moved.value p.unpaired_moved.value
        ≡ with_before x (with_after x survives t)
    unpaired_more was is =
        let both = columns_assoc p.paired.value p.unpaired.value x in
        let before = columns_assoc p.rest.value (columns_plus p.paired.value p.unpaired.value) x in
        let unpaired = columns_swap p.unpaired.value x p.unpaired_moved.value in
        grind (arith, common_steps)

-- columns of two counters, added in turn to none
pub both_added : {none first both x y a b : Columns} → none ≡ no_columns →
    first ≡ columns_plus none x → x ≡ a → both ≡ columns_plus first y → y ≡ b →
    both ≡ columns_plus a b
both_added {x = x} {y = y} {a = a} none_is first_is x_is both_is y_is = grind (arith, common_steps)

-- sides added up
pub side_of_both : (p u r v w p' u' r' v' w' : Columns) →
    side_of (columns_plus p p') (columns_plus u u') (columns_plus r r') (columns_plus v v')
    (columns_plus w w') ≡ side_columns_plus (side_of p u r v w) (side_of p' u' r' v' w')
side_of_both p u r v w p' u' r' v' w' =
    let both = columns_four p p' u u' in
    let before = columns_four r r' (columns_plus p u) (columns_plus p' u') in
    let paired = columns_four p p' v v' in
    let unpaired = columns_four u u' w w' in cc

-- a base that is counted in place is one of those before
pub in_place : (x rest all : Columns) (mate_survives : Bool) (t : SideColumns) →
    columns_plus x rest ≡ all →
    with_before x (with_after x mate_survives (with_before rest t))
    ≡ with_before all (with_after x mate_survives t)
in_place x rest all mate_survives t is = grind (arith, common_steps, columns_swap, columns_assoc)

-- a read of which bases are kept
survivor_columns : (read : Read) (k : Kept) (mate_survives : Bool) (t : SideColumns) →
    with_columns read (part_at (places_of (Some k)) (whole read)) mate_survives t
    ≡ with_before (columns_of (whole read))
    (with_after (columns_of (part_at (places_of (Some k)) (whole read))) mate_survives t)
survivor_columns read k mate_survives t = grind (arith, common_steps, kept_is_left)

-- all bases of a read, and those that are left, are what is counted of it
pub left_counted : (read : Read) (k : Kept) (mate_survives : Bool) (t : SideColumns) (e : Encoding)
    (seq qual : List ℕ) → e ≡ read.encoding → seq ≡ read.seq → qual ≡ read.qual →
    k.stop ≤ length read.seq → length read.qual ≡ length read.seq →
    with_before (columns_of (whole read)) (with_after
    (columns_from 0 e (take (k.stop - k.start) (drop k.start seq))
    (take (k.stop - k.start) (drop k.start qual))) mate_survives t)
    ≡ with_columns read (part_at (places_of (Some k)) (whole read)) mate_survives t
left_counted read k mate_survives t e seq qual e_is seq_is qual_is within same =
    ap (λ (x : Columns). with_before (columns_of (whole read)) (with_after x mate_survives t))
    (ap columns_of (kept_part read k e seq qual e_is seq_is qual_is within same))
    ∙ sym (survivor_columns read k mate_survives t)

-- a read that lost nothing at its start, and is cut after what is left
pub cut_columns : (read : Read) (k : Kept) (e : Encoding) (seq qual : List ℕ) → e ≡ read.encoding →
    seq ≡ read.seq → qual ≡ read.qual →
    k.stop ≤ length read.seq → length read.qual ≡ length read.seq → length read.seq ≤ 1048576 →
    list_all (is_scored read.encoding) read.qual ≡ true → k.start ≡ 0 →
    columns_plus
    (columns_from 0 e (take (k.stop - k.start) (drop k.start seq))
    (take (k.stop - k.start) (drop k.start qual)))
    (columns_from k.stop e (take (length seq - k.stop) (drop k.stop seq))
    (take (length qual - k.stop) (drop k.stop qual))) ≡ columns_of (whole read)
cut_columns read k e seq qual e_is seq_is qual_is within same few scored start =
    let seq_len = ap length seq_is in
    let qual_len = ap length qual_is in
    let size : k.stop - k.start ≡ k.stop = omega arith in
    let seq_front = length-take-le k.stop seq (omega arith) in
    let qual_front = length-take-le k.stop qual (omega arith) in
    let seq_behind = length-drop k.stop seq in
    let qual_behind = length-drop k.stop qual in
    let all : list_all (is_scored e) qual ≡ true = rw (e_is, qual_is) scored in
    let read_is : part e seq qual ≡ whole read = cc in
    rw (
      ap₂ (λ n m. take n (drop m seq)) size start,
      ap₂ (λ n m. take n (drop m qual)) size start,
      take_rest seq k.stop,
      take_rest qual k.stop,
    ) (columns_joined 0 k.stop e (take k.stop seq) (take k.stop qual) (drop k.stop seq)
    (drop k.stop qual) (omega arith) (omega arith) (omega arith) (omega arith) (omega arith)
    (all_taken (is_scored e) qual k.stop all) (all_dropped (is_scored e) qual k.stop all)
    ∙ ap₂ (columns_from 0 e) (take-append-drop k.stop seq) (take-append-drop k.stop qual)
    ∙ ap columns_of read_is)

-- a read that lost nothing
pub all_columns : (read : Read) (k : Kept) (e : Encoding) (seq qual : List ℕ) → e ≡ read.encoding →
    seq ≡ read.seq → qual ≡ read.qual →
    length read.seq ≤ k.stop → length read.qual ≡ length read.seq → k.start ≡ 0 →
    columns_from 0 e (take (k.stop - k.start) (drop k.start seq))
    (take (k.stop - k.start) (drop k.start qual)) ≡ columns_of (whole read)
all_columns read k e seq qual e_is seq_is qual_is all same start =
    grind (arith, common_steps, part, take_all)

-- The bases of a read between two places.
pub between_are_bases : (read : Read) (e : Encoding) (seq qual : List ℕ) (from n at : ℕ) →
    IsLawful read → e ≡ read.encoding → seq ≡ read.seq → qual ≡ read.qual →
    from + n ≤ length read.seq → at ≤ from →
    AreBases e (take n (drop from seq)) (take n (drop from qual)) at
between_are_bases read e seq qual from n at lawful e_is seq_is qual_is within order =
    grind (arith, common_steps, length-drop, length-take-le, all_taken, all_dropped)

-- what is kept of a read
pub kept_are_bases : (read : Read) (k : Kept) (e : Encoding) (seq qual : List ℕ) →
    IsLawful read → e ≡ read.encoding → seq ≡ read.seq → qual ≡ read.qual →
    k.stop ≤ length read.seq →
    AreBases e (take (k.stop - k.start) (drop k.start seq))
    (take (k.stop - k.start) (drop k.start qual)) 0
kept_are_bases read k e seq qual lawful e_is seq_is qual_is within =
    grind (arith, common_steps, between_are_bases read e seq qual)
