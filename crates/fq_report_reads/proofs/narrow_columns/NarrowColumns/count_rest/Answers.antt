use Rattle.std.proofs.Common.{◌+◌, ◌-◌, List, ℕ, ◌++◌, length, drop, replicate, refl, ap, ◌∙◌, arith, ◌≡◌, ◌*◌, ◌≤◌, nat_le, map, zero, suc, [], ◌∷◌, ap₂, sym, true}
use Rattle.std.proofs.lemmas.List.{take_rest, length-map, map-append, append_assoc, replicate-append-replicate, length-drop, drop-drop}
use Rattle.fq_trim.proofs.PlaceLemmas.{all_dropped}
use Rattle.fq_report_reads.proofs.LaneLemmas.{scored_lanes}
use Rattle.fq_report_reads.proofs.narrow_columns.NarrowColumns.count_rest.Goals as goal
use Rattle.std.proofs.lemmas.Grind.{common_steps}
use Rattle.fq_text.specs.declared.encoding.Encoding.{Encoding}
use Rattle.fq_report_reads.specs.declared.columns.Columns.{Columns}
use Rattle.fq_report_reads.specs.Rows.{rows_plus}
use Rattle.fq_report_reads.specs.Letters.{is_a, is_c, is_g, is_t, is_n}
use Rattle.fq_report_reads.specs.Counting.{lane_score, one_if, IsFew, is_lane}
use Rattle.fq_report_reads.specs.Columns.{AreFew, columns_plus, lanes_at, columns_from}
use Rattle.fq_report_reads.proofs.ColumnLemmas.{columns_same, lanes_are_columns}
use Rattle.fq_trim.specs.Sums.{capped_sum}
use Rattle.fq_report_reads.proofs.RowLemmas.{plus_none}
use Rattle.fq_report_reads.proofs.PositionLemmas.{Small, grown_within}
use Rattle.fq_report_reads.proofs.FewLemmas.{length-shifted}
use Rattle.std.specs.List.{list_all}
use Rattle.std.proofs.lemmas.List.Folds.{list_all-append}
use Rattle.std.proofs.lemmas.Bool.{and_from}
use Rattle.fq_text.specs.Scores.{is_scored}

-- of lanes without a base nothing is counted
zeros_mapped : (f : ℕ → ℕ) → f 0 ≡ 0 → (k : ℕ) → map f (replicate k 0) ≡ replicate k 0
zeros_mapped f none zero = refl
zeros_mapped f none (suc k) = ap₂ (λ n ns. n ∷ ns) none (zeros_mapped f none k)

-- numbers behind k zeros are the same numbers, k places further on
zeros_in_front : (f : ℕ → ℕ) → f 0 ≡ 0 → (at k : ℕ) (xs : List ℕ) →
    replicate at 0 ++ map f (replicate k 0 ++ xs) ≡ replicate (at + k) 0 ++ map f xs
zeros_in_front f none at k xs =
    ap (λ ns. replicate at 0 ++ ns) (map-append f (replicate k 0) xs
    ∙ ap (λ ns. ns ++ map f xs) (zeros_mapped f none k))
    ∙ sym (append_assoc (replicate at 0) (replicate k 0) (map f xs))
    ∙ ap (λ ns. ns ++ map f xs) (replicate-append-replicate at k 0)

-- lanes after k zeros are the same lanes, k places further on
lanes_moved : (at k : ℕ) (e : Encoding) (s q : List ℕ) →
    lanes_at at e (replicate k 0 ++ s) (replicate k 0 ++ q) ≡ lanes_at (at + k) e s q
lanes_moved at k e s q =
    grind (arith, common_steps, zeros_in_front, map-append, zeros_mapped, columns_same)

-- zeros after a vector change nothing
plus_zeros_behind : (xs ys : List ℕ) (k : ℕ) → Small xs → length ys + k ≤ length xs →
    rows_plus xs (ys ++ replicate k 0) ≡ rows_plus xs ys
plus_zeros_behind xs [] k small room = grind (arith, common_steps, grown_within, plus_none)
plus_zeros_behind [] (y ∷ ys) k small room = absurd (omega arith)
plus_zeros_behind (x ∷ xs) (y ∷ ys) k small room =
    ap (λ ns. capped_sum x y ∷ ns) (plus_zeros_behind xs ys k (λ j. small (suc j)) (omega arith))

-- What is counted of vectors.

-- zeros after some numbers add nothing to a row
row_behind : (f : ℕ → ℕ) → f 0 ≡ 0 → (rows len most at k : ℕ) (xs ys : List ℕ) →
    IsFew rows len most xs → most ≤ 65535 → at + (length ys + k) ≤ rows →
    rows_plus xs (replicate at 0 ++ map f (ys ++ replicate k 0))
    ≡ rows_plus xs (replicate at 0 ++ map f ys)
row_behind f none rows len most at k xs ys few bound room =
    let cut = map-append f ys (replicate k 0) in let long = length-map ys f in
    grind (arith, common_steps, zeros_mapped, append_assoc, plus_zeros_behind, length-shifted)

-- zeros after the lanes of a vector add nothing to the rows of a few reads
lanes_behind : (x : Columns) (rows len reads at k : ℕ) (e : Encoding) (s q : List ℕ) →
    AreFew rows len reads x → reads ≤ 254 → length q ≡ length s → at + (length s + k) ≤ rows →
    columns_plus x (lanes_at at e (s ++ replicate k 0) (q ++ replicate k 0))
    ≡ columns_plus x (lanes_at at e s q)
lanes_behind x rows len reads at k e s q few bound same room =
    let wide : at + (length q + k) ≤ rows = omega arith in
    let scored : at + (length (map (lane_score e) q) + k) ≤ rows =
    omega (arith, length-map q (lane_score e)) in
    let first = map-append (lane_score e) q (replicate k 0)
    ∙ ap (λ ns. map (lane_score e) q ++ ns) (zeros_mapped (lane_score e) refl k) in
    columns_same (columns_plus x (lanes_at at e (s ++ replicate k 0) (q ++ replicate k 0)))
    (columns_plus x (lanes_at at e s q))
    (row_behind (one_if (nat_le 1)) refl rows len reads at k x.bases q few.bases (omega arith) wide)
    (row_behind (lane_score e) refl rows len (93 * reads) at k x.score_sum q few.score_sum
    (omega arith) wide)
    (ap (λ ns. rows_plus x.q30_bases (replicate at 0 ++ map (one_if (nat_le 30)) ns)) first
    ∙ row_behind (one_if (nat_le 30)) refl rows len reads at k x.q30_bases
    (map (lane_score e) q) few.q30_bases (omega arith) scored)
    (row_behind (one_if is_a) refl rows len reads at k x.a s few.a (omega arith) room)
    (row_behind (one_if is_c) refl rows len reads at k x.c s few.c (omega arith) room)
    (row_behind (one_if is_g) refl rows len reads at k x.g s few.g (omega arith) room)
    (row_behind (one_if is_t) refl rows len reads at k x.t s few.t (omega arith) room)
    (row_behind (one_if is_n) refl rows len reads at k x.n s few.n (omega arith) room)

-- zeros, and then bytes that have scores, are valid lanes
lanes_in_front : (e : Encoding) (k : ℕ) (q : List ℕ) → list_all (is_scored e) q ≡ true →
    list_all (is_lane e) (replicate k 0 ++ q) ≡ true
lanes_in_front e zero q all = scored_lanes e q all
lanes_in_front e (suc k) q all = lanes_in_front e k q all

no_lanes : (e : Encoding) (k : ℕ) → list_all (is_lane e) (replicate k 0) ≡ true
no_lanes e zero = refl
no_lanes e (suc k) = no_lanes e k

-- bytes that have scores, and then zeros, are valid lanes
lanes_then_none : (e : Encoding) (k : ℕ) (q : List ℕ) → list_all (is_scored e) q ≡ true →
    list_all (is_lane e) (q ++ replicate k 0) ≡ true
lanes_then_none e k q all = list_all-append (is_lane e) q (replicate k 0)
    ∙ and_from _ _ (scored_lanes e q all) (no_lanes e k)

-- The last bases of a read, in the last lanes of a vector and in the first.
rest_in_last : (old new : Columns) (at from start k : ℕ) (e : Encoding)
    (seq qual bases bytes : List ℕ) → start + k ≡ from →
    bases ≡ replicate k 0 ++ drop k (drop start seq) →
    bytes ≡ replicate k 0 ++ drop k (drop start qual) →
    length qual ≡ length seq → at + length qual ≤ 10000 → from ≤ length seq →
    list_all (is_scored e) qual ≡ true →
    new ≡ columns_plus old (lanes_at (at + start) e bases bytes) →
    new ≡ columns_plus old (columns_from (at + from) e (drop from seq) (drop from qual))
rest_in_last old new at from start k e seq qual bases bytes place s q same near within scored here =
    grind (arith, length-drop, lanes_moved, drop-drop, lanes_are_columns, all_dropped)

-- the last bases of a read are counted from the first lanes of a vector, with zeros after them
rest_in_first : (old new : Columns) (rows at from k m : ℕ) (e : Encoding)
    (seq qual bases bytes : List ℕ) →
    bases ≡ drop from seq ++ replicate k 0 → bytes ≡ drop from qual ++ replicate m 0 →
    k ≡ 32 - length (drop from seq) → m ≡ 32 - length (drop from qual) →
    length qual ≡ length seq → at + length qual ≤ 10000 → from ≤ length seq →
    length seq ≤ from + 32 → list_all (is_scored e) qual ≡ true → at + (from + 32) ≤ rows →
    AreFew rows 10032 254 old →
    new ≡ columns_plus old (lanes_at (at + from) e bases bytes) →
    new ≡ columns_plus old (columns_from (at + from) e (drop from seq) (drop from qual))
rest_in_first old new rows at from k m e seq qual bases bytes s q k_is m_is same near within less
    scored room few here =
    let ls = length-drop from seq in
    let lq = length-drop from qual in
    let equal : m ≡ k = omega arith in
    here
    ∙ ap₂ (λ x y. columns_plus old (lanes_at (at + from) e x y)) s (q
    ∙ ap (λ n. drop from qual ++ replicate n 0) equal)
    ∙ lanes_behind old rows 10032 254 (at + from) k e (drop from seq) (drop from qual) few
    (omega arith) (omega arith) (omega arith)
    ∙ ap (columns_plus old) (lanes_are_columns (at + from) e (drop from seq) (drop from qual)
    (all_dropped (is_scored e) qual from scored) (omega arith) (omega arith))

-- zeros, and then the last quality bytes, are valid lanes
pub add_vector-requires-clause-lanes : goal.add_vector-requires-clause-lanes
add_vector-requires-clause-lanes c =
    grind (arith, common_steps, all_dropped, take_rest, lanes_in_front)

-- the last quality bytes, and then zeros, are valid lanes
pub add_vector-requires-else-seq-ge-WIDTH-clause-lanes : goal.add_vector-requires-else-seq-ge-WIDTH-clause-lanes
add_vector-requires-else-seq-ge-WIDTH-clause-lanes c =
    grind (arith, common_steps, all_dropped, take_rest, lanes_then_none)

-- of bases that fill a vector or more, the rest is counted from its last lanes
pub returns-then-seq-ge-WIDTH : goal.returns-then-seq-ge-WIDTH
returns-then-seq-ge-WIDTH c =
    let seq = c.args.seq.now in
    let qual = c.args.qual.now in
    let from = c.args.from in
    let start = length seq - 32 in
    let k = 32 - (length seq - from) in
    let wide = c.if-seq-ge-WIDTH.true in
    let some = c.requires.some in
    let less = c.requires.less in
    rest_in_last c.args.self.now c.add_vector.new.self c.args.at from start k c.args.encoding seq
    qual c.last_of-bases.result c.last_of-bytes.result (omega arith)
    (c.last_of-bases.ensures ∙ ap (λ xs. replicate k 0 ++ drop k xs) (take_rest seq start))
    (c.last_of-bytes.ensures ∙ ap (λ xs. replicate k 0 ++ drop k xs) (take_rest qual start))
    c.requires.same c.requires.near some c.requires.scored c.add_vector.ensures

-- of fewer bases, the rest is counted from the first lanes
pub returns-else-seq-ge-WIDTH : goal.returns-else-seq-ge-WIDTH
returns-else-seq-ge-WIDTH c =
    let seq = c.args.seq.now in
    let qual = c.args.qual.now in
    let from = c.args.from in
    let some = c.requires.some in
    let less = c.requires.less in
    let same = c.requires.same in
    let filled = λ (xs : List ℕ). xs ++ replicate (32 - length xs) 0 in
    rest_in_first c.args.self.now c.add_vector-else-seq-ge-WIDTH.new.self
    (c.args.at + length qual + 32) c.args.at from (32 - length (drop from seq))
    (32 - length (drop from qual)) c.args.encoding seq qual c.all_of-bases.result
    c.all_of-bytes.result
    (c.all_of-bases.ensures ∙ ap filled (take_rest seq from))
    (c.all_of-bytes.ensures ∙ ap filled (take_rest qual from))
    refl refl c.requires.same c.requires.near some (omega arith) c.requires.scored (omega arith)
    c.requires.few c.add_vector-else-seq-ge-WIDTH.ensures
