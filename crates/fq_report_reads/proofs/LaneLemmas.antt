-- Bases that are counted by vectors, one after the other.
use Rattle.std.proofs.Common.{◌≡◌, ℕ, ◌+◌, ◌<◌, ◌≤◌, Bool, true, List, [], ◌∷◌, ◌++◌, length, take, drop, map, set, get_or, refl, ap, ap₂, sym, ◌∙◌, arith, max, ◌-◌, ◌||◌, subst}
use Rattle.std.specs.List.{list_all}
use Rattle.std.proofs.lemmas.List.{append_assoc, length-take-le, length-map, take_all, length-drop, drop_more, get_or_at, set_at, map_more}
use Rattle.std.proofs.lemmas.Bool.{and_parts, and_from}
use Rattle.fq_text.specs.declared.encoding.Encoding.{Encoding}
use Rattle.fq_text.specs.Scores.{is_scored}
use Rattle.fq_trim.specs.Keeping.{scores}
use Rattle.fq_trim.proofs.PlaceLemmas.{all_taken, all_dropped}
use Rattle.fq_report_reads.specs.declared.columns.Columns.{Columns}
use Rattle.std.proofs.lemmas.Simd.{length-chunk}
use lib.Lanes.{chunk}
use Rattle.fq_report_reads.specs.Counting.{is_lane, most_reads}
use Rattle.fq_report_reads.specs.Columns.{AreFew, HoldsFew, columns_from, columns_plus, first_rows, lanes_at}
use Rattle.fq_report_reads.proofs.ColumnLemmas.{columns_assoc, more_counted, few_weaker, lanes_are_columns, lanes_cut, lanes_more, lanes_nothing}
use Rattle.std.proofs.lemmas.Grind.{common_steps}

-- Lanes that hold scored bytes, and zeros beside them.

or_true : (a b : Bool) → b ≡ true → a || b ≡ true
or_true a b is = grind (arith, common_steps)

-- bytes that have scores are valid lanes
pub scored_lanes : (e : Encoding) (q : List ℕ) → list_all (is_scored e) q ≡ true →
    list_all (is_lane e) q ≡ true
scored_lanes e [] all = refl
scored_lanes e (b ∷ bs) all =
    grind (arith, common_steps, and_parts, and_from, or_true, scored_lanes e bs)

-- counting no bases in the rows of a few reads changes nothing
pub nothing_counted : (x : Columns) (rows len reads at : ℕ) (e : Encoding) →
    AreFew rows len reads x → reads ≤ 254 → at ≤ 10000 → at ≤ rows →
    x ≡ columns_plus x (columns_from at e [] [])
nothing_counted x rows len reads at e few bound near within =
    lanes_nothing x rows len reads at e few bound within
    ∙ ap (columns_plus x) (lanes_are_columns at e [] [] refl refl (omega arith))

-- What is counted of one read.
module _ (start now : Columns) (at from : ℕ) (e : Encoding) (seq qual : List ℕ)
    (so_far : now ≡ columns_plus start (columns_from at e (take from seq) (take from qual)))
    (same : length qual ≡ length seq) (near : at + length qual ≤ 10000)
    (scored : list_all (is_scored e) qual ≡ true) (within : from ≤ length seq) where
  front_s : length (take from seq) ≡ from
  front_s = length-take-le from seq within

  front_q : length (take from qual) ≡ from
  front_q = length-take-le from qual (omega arith)

  front_scored : list_all (is_scored e) (take from qual) ≡ true
  front_scored = all_taken (is_scored e) qual from scored

  -- after one more full vector, the bases up to its end are counted
  pub vector_next : (new : Columns) → from + 32 ≤ length seq →
      new ≡ columns_plus now (lanes_at (at + from) e (chunk from 32 seq) (chunk from 32 qual)) →
      new ≡ columns_plus start (columns_from at e (take (from + 32) seq) (take (from + 32) qual))
  vector_next new room here =
      let s = length-chunk from 32 seq room in
      let q = length-chunk from 32 qual (omega arith) in
      more_counted start now new at from 32 e seq qual so_far same (omega arith) scored room (here
      ∙ ap (columns_plus now) (lanes_are_columns (at + from) e (chunk from 32 seq)
      (chunk from 32 qual)
      (all_taken (is_scored e) (drop from qual) 32 (all_dropped (is_scored e) qual from scored))
      (omega arith) (omega arith)))

  -- after the bases that were left, all are counted
  pub rest_next : (new : Columns) →
      new ≡ columns_plus now (columns_from (at + from) e (drop from seq) (drop from qual)) →
      new ≡ columns_plus start (columns_from at e seq qual)
  rest_next new here =
      let n = length seq - from in
      let s = take_all n (drop from seq) (omega (arith, length-drop from seq)) in
      let q = take_all n (drop from qual) (omega (arith, length-drop from qual)) in
      more_counted start now new at from n e seq qual so_far same (omega arith) scored (omega arith)
      (here ∙ ap₂ (λ x y. columns_plus now (columns_from (at + from) e x y)) (sym s) (sym q))
      ∙ ap₂ (λ x y. columns_plus start (columns_from at e x y))
      (take_all (from + n) seq (omega arith)) (take_all (from + n) qual (omega arith))

  -- if no bases are left, all are counted
  pub all_counted : length seq ≤ from → now ≡ columns_plus start (columns_from at e seq qual)
  all_counted done =
      grind (arith, common_steps, take_all)

  -- while a read is counted, the rows are such as 254 reads can give
  pub still_few : (rows : ℕ) → at + length qual ≤ rows → AreFew rows 10032 253 start →
      AreFew rows 10032 254 now
  still_few rows room few =
      let fs = front_s in
      let fq = front_q in
      let more = lanes_more start rows 10032 10032 253 at e (take from seq) (take from qual) few
      front_scored (omega arith) (omega arith) (omega arith) (omega arith) in
      subst (λ x. AreFew rows 10032 254 x) (ap (columns_plus start) (lanes_are_columns at e
      (take from seq) (take from qual) front_scored (omega arith) (omega arith))
      ∙ sym so_far) more

-- One more read among a few, in rows that reach as far as it does.
module _ (at : ℕ) (e : Encoding) (seq qual : List ℕ) {x y : Columns}
    {last reached reached' reads : ℕ} (holds : HoldsFew last reached reads x)
    (reach : reached' ≡ max reached (at + length seq)) (fits : at + length seq ≤ last)
    (here : y ≡ columns_plus x (columns_from at e seq qual)) (same : length qual ≡ length seq)
    (scored : list_all (is_scored e) qual ≡ true) where
  as_lanes : lanes_at at e seq qual ≡ columns_from at e seq qual
  as_lanes = let near = holds.near in lanes_are_columns at e seq qual scored same (omega arith)

  -- with totals and the rows that were reached, it is counted besides what these were
  pub read_added : (totals : Columns) {t : Columns} →
      columns_plus totals (first_rows reached x) ≡ t →
      columns_plus totals (first_rows reached' y) ≡ columns_plus t (columns_from at e seq qual)
  read_added totals view =
      let within = holds.within in
      ap (λ z. columns_plus totals (first_rows reached' z)) (here ∙ ap (columns_plus x)
      (sym as_lanes))
      ∙ ap (columns_plus totals) (lanes_cut x (last + 32) reached reached' reads at e seq qual
      holds.few scored same reach (omega arith))
      ∙ ap (λ z. columns_plus totals (columns_plus (first_rows reached x) z)) as_lanes
      ∙ sym (columns_assoc totals (first_rows reached x) (columns_from at e seq qual))
      ∙ ap (λ z. columns_plus z (columns_from at e seq qual)) view

  -- the rows are such as one more read can give
  read_few : AreFew (last + 32) reached' (reads + 1) y
  read_few =
      let near = holds.near in
      let room = holds.room in
      subst (λ z. AreFew (last + 32) reached' (reads + 1) z) (ap (columns_plus x) as_lanes
      ∙ sym here)
      (lanes_more x (last + 32) reached reached' reads at e seq qual holds.few scored same
      (omega arith) (omega arith) (omega arith))

  -- if there is room for a further read, these are again a few
  pub read_held : reads + 1 < most_reads → HoldsFew last reached' (reads + 1) y
  read_held more = grind (arith, common_steps, read_few)

  -- the rows that were reached are such as the most reads that a counter holds can give
  pub read_full : AreFew reached' reached' most_reads y
  read_full = grind (arith, few_weaker, read_few)

  -- after all were moved, the counter holds none
  pub read_moved : (z : Columns) →
      ((rows : ℕ) → AreFew rows reached' most_reads y → AreFew rows 0 0 z) → HoldsFew last 0 0 z
  read_moved z none =
      let room = holds.room in
      let rows = last + 32 in
      record {
        few = none rows (few_weaker y rows rows reached' reached' (reads + 1) most_reads read_few
            (omega arith) (omega arith) (omega arith));
        within = omega arith;
        near = holds.near;
        room = omega arith;
      }

-- One more byte is converted.
pub converted_next : (f : ℕ → ℕ) (bytes scores : List ℕ) (i r : ℕ) →
    scores ≡ map f (take i bytes) ++ drop i bytes → i < length bytes → r ≡ f (get_or scores i 0) →
    set scores i r ≡ map f (take (i + 1) bytes) ++ drop (i + 1) bytes
converted_next f bytes scores i r so_far within here =
    grind (
      arith,
      common_steps,
      length-map,
      length-take-le,
      drop_more,
      get_or_at,
      set_at,
      append_assoc,
      map_more,
    )
