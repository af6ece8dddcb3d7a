-- Facts that name the columns one by one. Those of the rows of one column are in PositionLemmas and
-- FewLemmas.
use Rattle.std.proofs.Common.{◌≡◌, ℕ, ◌+◌, ◌*◌, ◌<◌, ◌≤◌, Bool, true, nat_le, List, [], ◌∷◌, ◌++◌, length, take, take-add, drop, map, get_or, min, ap, ap₂, sym, ◌∙◌, arith, max}
use Rattle.std.specs.List.{All, list_all}
use Rattle.std.proofs.lemmas.List.{drop_more, length-drop, length-take-le, length-map, map-append}
use Rattle.fq_text.specs.declared.encoding.Encoding.{Encoding}
use Rattle.fq_text.specs.Scores.{is_scored, value_of}
use Rattle.fq_trim.specs.Keeping.{scores}
use Rattle.fq_trim.proofs.PlaceLemmas.{all_taken, all_dropped}
use Rattle.fq_report_reads.specs.declared.columns.Columns.{Columns}
use Rattle.fq_report_reads.specs.Rows.{rows_plus}
use Rattle.fq_report_reads.specs.Courses.{Part}
use Rattle.fq_report_reads.specs.Letters.{is_a, is_c, is_g, is_t, is_n}
use Rattle.fq_report_reads.proofs.RowLemmas.{plus_none}
use Rattle.fq_report_reads.specs.Counting.{AtMost, IsFew, by_position, lane_score, one_if, placed}
use Rattle.fq_report_reads.specs.Columns.{AreFew, columns_from, columns_of, columns_plus, columns_tables, empty_rows, first_rows, lanes_at, no_columns, one_in}
use Rattle.fq_report_reads.proofs.PositionLemmas.{one_if_small, ones_joined, placed_joined, placed_none, placed_one, rows_assoc, rows_comm, scores_small}
use Rattle.fq_report_reads.proofs.FewLemmas.{lanes_bases, lanes_scores, mapped_at_most, placed_short, row_cut, row_more, row_nothing, row_weaker, scores_at_most}
use Rattle.std.proofs.lemmas.Grind.{common_steps}

-- columns are the same if each of them is
pub columns_same : (x y : Columns) → x.bases ≡ y.bases → x.score_sum ≡ y.score_sum →
    x.q30_bases ≡ y.q30_bases → x.a ≡ y.a → x.c ≡ y.c → x.g ≡ y.g → x.t ≡ y.t → x.n ≡ y.n → x ≡ y
columns_same x y bases score_sum q30_bases a c g t n = grind (arith, common_steps)

-- of three sets of columns, it makes no difference which two are added first
pub columns_assoc : (x y z : Columns) → columns_plus (columns_plus x y) z ≡ columns_plus x
    (columns_plus y z)
columns_assoc x y z = simp rows_assoc

-- two sets of columns can be added in either order
pub columns_comm : (x y : Columns) → columns_plus x y ≡ columns_plus y x
columns_comm x y = simp rows_comm

-- adding the columns of no bases changes nothing
pub columns_none : (x : Columns) → columns_plus x no_columns ≡ x
columns_none x = simp plus_none

-- of three sets of columns, the last can be added before the second
pub columns_swap : (x y z : Columns) → columns_plus (columns_plus x y) z ≡ columns_plus
    (columns_plus x z) y
columns_swap x y z = grind (arith, common_steps, columns_assoc, columns_comm)

-- sums of two, added up
pub columns_four : (w x y z : Columns) → columns_plus (columns_plus w x) (columns_plus y z)
    ≡ columns_plus (columns_plus w y) (columns_plus x z)
columns_four w x y z =
    sym (columns_assoc (columns_plus w x) y z)
    ∙ ap (λ v. columns_plus v z) (columns_swap w x y)
    ∙ columns_assoc (columns_plus w y) x z

-- The columns of bases are those of the first of them and of the others together.
pub columns_joined : (at k : ℕ) (e : Encoding) (seq qual others bytes : List ℕ) →
    k ≡ at + length seq →
    length qual ≡ length seq → length bytes ≡ length others → length seq ≤ 1048576 →
    length others ≤ 1048576 →
    list_all (is_scored e) qual ≡ true → list_all (is_scored e) bytes ≡ true →
    columns_plus (columns_from at e seq qual) (columns_from k e others bytes)
    ≡ columns_from at e (seq ++ others) (qual ++ bytes)
columns_joined at k e seq qual others bytes behind same alike few less scored all =
    let first = scores_small e qual scored in
    let second = scores_small e bytes all in
    let long : k ≡ at + length (scores e qual) = omega (arith, length-map qual (value_of e)) in
    let some : length (scores e qual) ≤ 1048576 = omega (arith, length-map qual (value_of e)) in
    let more : length (scores e bytes) ≤ 1048576 = omega (arith, length-map bytes (value_of e)) in
    let whole = sym (map-append (value_of e) qual bytes) in
    let letters = λ (p : ℕ → Bool). ones_joined (one_if p) (one_if_small p) at k seq others behind
    few less in
    columns_same (columns_plus (columns_from at e seq qual) (columns_from k e others bytes))
    (columns_from at e (seq ++ others) (qual ++ bytes))
    (ones_joined (λ _. 1) (λ _. omega arith) at k seq others behind few less)
    (placed_joined at k (scores e qual) (scores e bytes) long (omega arith) ∙ ap (placed at) whole)
    (ones_joined (one_if (nat_le 30)) (one_if_small (nat_le 30)) at k (scores e qual)
    (scores e bytes) long some more ∙ ap (λ q. placed at (map (one_if (nat_le 30)) q)) whole)
    (letters is_a) (letters is_c) (letters is_g) (letters is_t) (letters is_n)

-- no bases, after a place
pub columns_empty : (at rows : ℕ) (e : Encoding) → rows ≡ min at 10001 →
    empty_rows rows ≡ columns_from at e [] []
columns_empty at rows e is = simp (placed_none at rows is)

-- one base
pub columns_one : (at row base byte : ℕ) (e : Encoding) → row ≡ min at 10000 →
    one_in row base (value_of e byte) ≡ columns_from at e (base ∷ []) (byte ∷ [])
columns_one at row base byte e is = simp (λ (a : ℕ). placed_one at row a is)

-- the next n of several bases are counted
pub more_counted : (start now new : Columns) (at from n : ℕ) (e : Encoding) (seq qual : List ℕ) →
    now ≡ columns_plus start (columns_from at e (take from seq) (take from qual)) →
    length qual ≡ length seq → length seq ≤ 1048576 → list_all (is_scored e) qual ≡ true →
    from + n ≤ length seq →
    new ≡ columns_plus now (columns_from (at + from) e (take n (drop from seq))
    (take n (drop from qual))) →
    new ≡ columns_plus start (columns_from at e (take (from + n) seq) (take (from + n) qual))
more_counted start now new at from n e seq qual so_far same few scored within here =
    let fs = length-take-le from seq (omega arith) in
    let fq = length-take-le from qual (omega arith) in
    let s = length-take-le n (drop from seq) (omega (arith, length-drop from seq)) in
    let q = length-take-le n (drop from qual) (omega (arith, length-drop from qual)) in
    let more = columns_from (at + from) e (take n (drop from seq)) (take n (drop from qual)) in
    here ∙ ap (λ x. columns_plus x more) so_far
    ∙ columns_assoc start (columns_from at e (take from seq) (take from qual)) more
    ∙ ap (columns_plus start) (columns_joined at (at + from) e (take from seq) (take from qual)
    (take n (drop from seq)) (take n (drop from qual)) (omega arith) (omega arith) (omega arith)
    (omega arith) (omega arith) (all_taken (is_scored e) qual from scored)
    (all_taken (is_scored e) (drop from qual) n (all_dropped (is_scored e) qual from scored)))
    ∙ ap₂ (λ x y. columns_plus start (columns_from at e x y)) (sym (take-add from n seq))
    (sym (take-add from n qual))

-- one more of several bases is counted
pub counted_next : (start now new : Columns) (at i row score : ℕ) (e : Encoding)
    (seq qual : List ℕ) →
    now ≡ columns_plus start (columns_from at e (take i seq) (take i qual)) →
    row ≡ min (at + i) 10000 →
    score ≡ value_of e (get_or qual i 0) → i < length seq → length qual ≡ length seq →
    length seq ≤ 1048576 →
    list_all (is_scored e) qual ≡ true → new ≡ columns_plus now
    (one_in row (get_or seq i 0) score) →
    new ≡ columns_plus start (columns_from at e (take (i + 1) seq) (take (i + 1) qual))
counted_next start now new at i row score e seq qual so_far row_is score_is within same few scored
    here =
    let long : i < length qual = omega arith in
    more_counted start now new at i 1 e seq qual so_far same few scored (omega arith) (here
    ∙ ap (λ x. columns_plus now (one_in row (get_or seq i 0) x)) score_is
    ∙ ap (columns_plus now) (columns_one (at + i) row (get_or seq i 0) (get_or qual i 0) e row_is)
    ∙ ap₂ (λ s t. columns_plus now (columns_from (at + i) e (take 1 s) (take 1 t)))
    (sym (drop_more seq i 0 within)) (sym (drop_more qual i 0 long)))

-- What is counted of vectors.

-- lanes with a base each, up to position 10,000, count as the columns of these bases
pub lanes_are_columns : (at : ℕ) (e : Encoding) (s q : List ℕ) → list_all (is_scored e) q ≡ true →
    length q ≡ length s → at + length s ≤ 10000 →
    lanes_at at e s q ≡ columns_from at e s q
lanes_are_columns at e s q all same near =
    grind (arith, common_steps, lanes_scores, placed_short, length-map, columns_same, lanes_bases)

-- rows such as some reads can give are such as more reads can give that reach further
pub few_weaker : (x : Columns) (rows rows' len len' reads reads' : ℕ) → AreFew rows len reads x →
    rows' ≤ rows → len ≤ len' → reads ≤ reads' → AreFew rows' len' reads' x
few_weaker x rows rows' len len' reads reads' few less order bound =
    grind (arith, common_steps, row_weaker)

-- no lanes add nothing to the rows of a few reads
pub lanes_nothing : (x : Columns) (rows len reads at : ℕ) (e : Encoding) → AreFew rows len reads x →
    reads ≤ 254 → at ≤ rows → x ≡ columns_plus x (lanes_at at e [] [])
lanes_nothing x rows len reads at e few bound within =
    columns_same x (columns_plus x (lanes_at at e [] []))
    (row_nothing rows len reads at x.bases few.bases (omega arith) within)
    (row_nothing rows len (93 * reads) at x.score_sum few.score_sum (omega arith) within)
    (row_nothing rows len reads at x.q30_bases few.q30_bases (omega arith) within)
    (row_nothing rows len reads at x.a few.a (omega arith) within)
    (row_nothing rows len reads at x.c few.c (omega arith) within)
    (row_nothing rows len reads at x.g few.g (omega arith) within)
    (row_nothing rows len reads at x.t few.t (omega arith) within)
    (row_nothing rows len reads at x.n few.n (omega arith) within)

-- One more read among a few.
module _ (x : Columns) (rows len len' reads at : ℕ) (e : Encoding) (s q : List ℕ)
    (few : AreFew rows len reads x) (all : list_all (is_scored e) q ≡ true)
    (same : length q ≡ length s) where
  ones : (p : ℕ → Bool) (xs : List ℕ) → AtMost 1 (map (one_if p) xs)
  ones p xs = mapped_at_most (one_if p) 1 (one_if_small p) xs

  size_q : length (map (lane_score e) q) ≡ length s
  size_q = length-map q (lane_score e) ∙ same

  -- with the lanes of one more read, the rows are such as one more read can give
  pub lanes_more : len ≤ len' → at + length s ≤ len' → at + length s ≤ rows →
      AreFew rows len' (reads + 1) (columns_plus x (lanes_at at e s q))
  lanes_more order within room =
      let letter = λ (p : ℕ → Bool) (xs : List ℕ) (old : IsFew rows len reads xs). row_more rows len
      len' reads 1 (reads + 1) at (length s) xs (map (one_if p) s) old (ones p s)
      (length-map s (one_if p)) order within room (omega arith) in
      record {
        bases = row_more rows len len' reads 1 (reads + 1) at (length s) x.bases
            (map (one_if (nat_le 1)) q) few.bases (ones (nat_le 1) q)
            (length-map q (one_if (nat_le 1)) ∙ same) order within room (omega arith);
        score_sum = row_more rows len len' (93 * reads) 93 (93 * (reads + 1)) at (length s)
            x.score_sum (map (lane_score e) q) few.score_sum (scores_at_most e q all) size_q order
            within room (omega arith);
        q30_bases = row_more rows len len' reads 1 (reads + 1) at (length s) x.q30_bases
            (map (one_if (nat_le 30)) (map (lane_score e) q)) few.q30_bases
            (ones (nat_le 30) (map (lane_score e) q))
            (length-map (map (lane_score e) q) (one_if (nat_le 30))
            ∙ size_q) order within room (omega arith);
        a = letter is_a x.a few.a;
        c = letter is_c x.c few.c;
        g = letter is_g x.g few.g;
        t = letter is_t x.t few.t;
        n = letter is_n x.n few.n;
      }

  -- lanes can be added before or after the rows are cut to those that were reached
  pub lanes_cut : len' ≡ max len (at + length s) → len' ≤ rows →
      first_rows len' (columns_plus x (lanes_at at e s q))
      ≡ columns_plus (first_rows len x) (lanes_at at e s q)
  lanes_cut is room =
      let letter = λ (p : ℕ → Bool) (xs : List ℕ) (old : IsFew rows len reads xs). row_cut rows len
      len' reads 1 at (length s) xs (map (one_if p) s) old (ones p s) (length-map s (one_if p))
      (omega arith) is room in
      columns_same (first_rows len' (columns_plus x (lanes_at at e s q)))
      (columns_plus (first_rows len x) (lanes_at at e s q))
      (row_cut rows len len' reads 1 at (length s) x.bases (map (one_if (nat_le 1)) q) few.bases
      (ones (nat_le 1) q) (length-map q (one_if (nat_le 1)) ∙ same) (omega arith) is room)
      (row_cut rows len len' (93 * reads) 93 at (length s) x.score_sum (map (lane_score e) q)
      few.score_sum (scores_at_most e q all) size_q (omega arith) is room)
      (row_cut rows len len' reads 1 at (length s) x.q30_bases
      (map (one_if (nat_le 30)) (map (lane_score e) q)) few.q30_bases
      (ones (nat_le 30) (map (lane_score e) q))
      (length-map (map (lane_score e) q) (one_if (nat_le 30)) ∙ size_q) (omega arith) is room)
      (letter is_a x.a few.a) (letter is_c x.c few.c) (letter is_g x.g few.g)
      (letter is_t x.t few.t) (letter is_n x.n few.n)

-- A property of each column.

pub record OfEach (P : List ℕ → Type 0) (x : Columns) : Type 0 where
  pub bases : P x.bases
  pub score_sum : P x.score_sum
  pub q30_bases : P x.q30_bases
  pub a : P x.a
  pub c : P x.c
  pub g : P x.g
  pub t : P x.t
  pub n : P x.n

-- what holds of no rows holds of the columns of no bases
pub each_of_none : (P : List ℕ → Type 0) → P [] → OfEach P no_columns
each_of_none P none = grind (arith, common_steps)

-- if one number for each base of a read turns P into Q in any column, it does in each
pub each_with_read : (P Q : List ℕ → Type 0) (x : Columns) (part : Part) →
    length part.qual ≡ length part.seq →
    ((xs ns : List ℕ) → P xs → length ns ≡ length part.seq → Q (rows_plus xs (by_position ns))) →
    OfEach P x → OfEach Q (columns_plus x (columns_of part))
each_with_read P Q x part same more each = grind (arith, common_steps, length-map)

-- what holds of each column holds of all their tables
pub each_listed : (P : List ℕ → Type 0) (x : Columns) → OfEach P x → All P (columns_tables x)
each_listed P x each = grind (arith, common_steps)
