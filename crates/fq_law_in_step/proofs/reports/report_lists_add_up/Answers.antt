use Rattle.std.proofs.Common.{◌≡◌, ℕ, ◌+◌, List, [], ◌∷◌, sum, arith, ◌++◌, length, take, drop, nat_le, ap, ◌∙◌, min, map, refl, Bool, count_by, cond, false, max, true, not, ◌&&◌}
use Rattle.std.proofs.lemmas.Bool.{cases_Bool, eqb-true}
use Rattle.std.proofs.lemmas.List.{take-append-drop, length-append, length-take, length-map}
use Rattle.std.proofs.lemmas.List.Sums.{sum_by-append, sum_by-cons}
use Rattle.std.specs.List.{sum_by, All}
use Rattle.std.proofs.lemmas.List.Elements.{All-head, All-tail}
use Rattle.fq_trim.specs.Sums.{capped_sum}
use Rattle.fq_report_reads.specs.Rows.{rows_plus, with_one, row_of}
use Rattle.fq_law_in_step.specs.ReportLists.{AddUpTo, ListsAddUp, SideListsAddUp, AreAsLong, SideListsAreAsLong}
use Rattle.fq_report_reads.specs.Counting.{by_position, one_if}
use Rattle.fq_report_reads.specs.Letters.{is_c, is_g, is_gc, is_n}
use Rattle.fq_report_reads.specs.Courses.{Part, alone, course, whole, survives}
use Rattle.fq_trim.specs.Keeping.{scores}
use Rattle.fq_report_reads.specs.declared.columns.Columns.{Columns}
use Rattle.fq_report_reads.specs.declared.reads.ReadsTally.{ReadsTally}
use Rattle.fq_report_reads.specs.Columns.{columns_of, columns_plus, no_columns}
use Rattle.fq_report_reads.specs.SideTallies.{with_part, with_read, no_reads, no_side}
use Rattle.fq_report_reads.specs.SideColumns.{SideColumns, with_before, with_after}
use Rattle.fq_report_reads.specs.declared.side.SideTally.{SideTally}
use Rattle.fq_text.specs.Grammar.{Read}
use Rattle.fq_trim.specs.declared.step.Step.{Step}
use Rattle.fq_pair.specs.Mates.{Mates}
use Rattle.fq_law_in_step.proofs.ReportLemmas.{sum-cons, sum_one, sum_plus, side_of, Fits, both_sides}
use Rattle.fq_report_reads.proofs.RowLemmas.{length-rows_plus}
use Rattle.fq_report_reads.proofs.ColumnLemmas.{OfEach, each_with_read, each_of_none, each_listed}
use Rattle.fq_report_reads.proofs.LeftLaws.{left_as_kept}
use Rattle.fq_law_in_step.proofs.reports.report_lists_add_up.Goals as goal
use Rattle.std.proofs.lemmas.Grind.{common_steps}

-- Lists of numbers by position: their sums and lengths.

-- a total to which numbers add up, and one more number
added : (total x : ℕ) (xs ys : List ℕ) → AddUpTo total (sum xs) → sum ys ≡ x →
    AddUpTo (capped_sum total x) (sum (rows_plus xs ys))
added total x xs ys up is = grind (arith, common_steps, sum_plus)

-- and of two lists that share a total
added_two : (total x : ℕ) (xs ys us vs : List ℕ) → AddUpTo total (sum xs + sum ys) →
    sum us + sum vs ≡ x →
    AddUpTo (capped_sum total x) (sum (rows_plus xs us) + sum (rows_plus ys vs))
added_two total x xs ys us vs up is = grind (arith, common_steps, sum_plus)

-- a list by position has the same sum as the numbers that it is made of
sum_placed : (ns : List ℕ) → sum (by_position ns) ≡ sum ns
sum_placed ns =
    let few = nat_le (length ns) 10000 in
    let cut = take 10000 ns ++ (sum (drop 10000 ns) ∷ []) in
    let id : ℕ → ℕ = λ n. n in
    let last = sum-cons (sum (drop 10000 ns)) [] in
    let parts = sum_by-append id (take 10000 ns) (sum (drop 10000 ns) ∷ []) in
    let whole = sum_by-append id (take 10000 ns) (drop 10000 ns) in
    let same : sum (take 10000 ns ++ drop 10000 ns) ≡ sum ns = ap sum (take-append-drop 10000 ns) in
    grind (arith, common_steps, cases_Bool)

-- a list by position has as many items as there are numbers, but at most 10,001
length_placed : (ns : List ℕ) → length (by_position ns) ≡ min (length ns) 10001
length_placed ns =
    let few = nat_le (length ns) 10000 in
    let cut = take 10000 ns ++ (sum (drop 10000 ns) ∷ []) in
    let front = length-take 10000 ns in
    let all = length-append (take 10000 ns) (sum (drop 10000 ns) ∷ []) in
    grind (arith, common_steps, cases_Bool)

sum_map : (f : ℕ → ℕ) (xs : List ℕ) → sum (map f xs) ≡ sum_by f xs
sum_map f [] = refl
sum_map f (x ∷ xs) = grind (arith, common_steps, sum-cons, sum_by-cons, sum_map f xs)

-- a one for each number adds up to how many numbers there are
sum_ones : (xs : List ℕ) → sum (map (λ _. 1) xs) ≡ length xs
sum_ones [] = refl
sum_ones (x ∷ xs) = grind (arith, common_steps, sum-cons, sum_ones xs)

-- a one for each number that passes a test adds up to how many pass
sum_of_those : (p : ℕ → Bool) (xs : List ℕ) → sum (map (one_if p) xs) ≡ count_by p xs
sum_of_those p xs = sum_map (one_if p) xs

-- a base is C or G, but not both
abbrev IsOneLetter : ℕ → Type 0
IsOneLetter b = one_if is_c b + one_if is_g b ≡ one_if is_gc b

one_letter : (b : ℕ) → IsOneLetter b
one_letter b = grind (arith, common_steps, eqb-true, cases_Bool)

-- the bases that are C and those that are G add up to those that are either
sum_of_gc : (xs : List ℕ) →
    sum (map (one_if is_c) xs) + sum (map (one_if is_g) xs) ≡ count_by is_gc xs
sum_of_gc [] = refl
sum_of_gc (x ∷ xs) = grind (arith, common_steps, one_letter, sum-cons, sum_by-cons, sum_of_gc xs)

one_counted : (reads n : ℕ) (rows : List ℕ) → AddUpTo reads (sum rows) →
    AddUpTo (capped_sum reads 1) (sum (with_one (row_of n) rows))
one_counted reads n rows up = grind (arith, common_steps, sum_one)

-- as many quality bytes as bases
abbrev Matches : Part → Type 0
Matches part = length part.qual ≡ length part.seq

list_added : (total x : ℕ) (xs ns : List ℕ) → AddUpTo total (sum xs) → sum ns ≡ x →
    AddUpTo (capped_sum total x) (sum (rows_plus xs (by_position ns)))
list_added total x xs ns up is = added total x xs (by_position ns) up (sum_placed ns ∙ is)

sums_more : (part : Part) (t : ReadsTally) (cs : Columns) → ListsAddUp t cs →
    ListsAddUp (with_part part t) (columns_plus cs (columns_of part))
sums_more part t cs up =
    let q = scores part.encoding part.qual in
    let c = map (one_if is_c) part.seq in
    let g = map (one_if is_g) part.seq in
    let gc : sum (by_position c) + sum (by_position g) ≡ count_by is_gc part.seq =
    grind (arith, common_steps, sum_placed, sum_of_gc) in
    record {
      lengths = one_counted t.reads (length part.seq) t.lengths up.lengths;
      bases = list_added t.bases.bases _ cs.bases (map (λ _. 1) part.seq) up.bases
          (sum_ones part.seq);
      score_sum = list_added t.bases.score_sum _ cs.score_sum q up.score_sum refl;
      q30_bases = list_added t.bases.at_least_30 _ cs.q30_bases (map (one_if (nat_le 30)) q)
          up.q30_bases (sum_of_those (nat_le 30) q);
      gc_bases = added_two t.bases.gc _ cs.c cs.g (by_position c) (by_position g) up.gc_bases gc;
      n_bases = list_added t.bases.n _ cs.n (map (one_if is_n) part.seq) up.n_bases
          (sum_of_those is_n part.seq);
    }

list_longer : (longest n : ℕ) (xs ns : List ℕ) → length xs ≡ min longest 10001 → length ns ≡ n →
    length (rows_plus xs (by_position ns)) ≡ min (max longest n) 10001
list_longer longest n xs ns is size = grind (arith, common_steps, length-rows_plus, length_placed)

-- each list by position is as long as the longest read, but has at most 10,001 items
abbrev Lengths : ℕ → Columns → Type 0
Lengths longest cs = OfEach (λ list. length list ≡ min longest 10001) cs

lengths_more : (part : Part) (t : ReadsTally) (cs : Columns) → Matches part → Lengths t.longest cs →
    Lengths (max t.longest (length part.seq)) (columns_plus cs (columns_of part))
lengths_more part t cs same are = grind (arith, common_steps, each_with_read, list_longer)

-- One side.

-- the sums hold, and the lengths
record Both (t : ReadsTally) (cs : Columns) : Type 0 where
  sums : ListsAddUp t cs
  lengths : Lengths t.longest cs

both_more : (part : Part) (t : ReadsTally) (cs : Columns) → Matches part → Both t cs →
    Both (with_part part t) (columns_plus cs (columns_of part))
both_more part t cs same both = record {
  sums = sums_more part t cs both.sums;
  lengths = lengths_more part t cs same both.lengths;
}

record Side (before paired unpaired : ReadsTally) (cs : SideColumns) : Type 0 where
  before_both : Both before cs.before
  paired_both : Both paired cs.paired
  unpaired_both : Both unpaired cs.unpaired

-- what is counted of a read, if it survives (`s`) and if its mate does (`m`)
side_more : (s m : Bool) (all left : Part) (before paired unpaired : ReadsTally)
    (cs : SideColumns) →
    Matches all → Matches left → Side before paired unpaired cs →
    Side (with_part all before)
    (cond (s && m) (with_part left paired) paired)
    (cond (s && not m) (with_part left unpaired) unpaired)
    (with_before (columns_of all) (cond s (with_after (columns_of left) m cs) cs))
side_more true true all left b p u cs same_all same_left side = record {
  before_both = both_more all b cs.before same_all side.before_both;
  paired_both = both_more left p cs.paired same_left side.paired_both;
  unpaired_both = side.unpaired_both;
}
side_more true false all left b p u cs same_all same_left side = record {
  before_both = both_more all b cs.before same_all side.before_both;
  paired_both = side.paired_both;
  unpaired_both = both_more left u cs.unpaired same_left side.unpaired_both;
}
side_more false m all left b p u cs same_all same_left side = record {
  before_both = both_more all b cs.before same_all side.before_both;
  paired_both = side.paired_both;
  unpaired_both = side.unpaired_both;
}

abbrev SideOf : SideTally → Type 0
SideOf t = Side t.before t.paired t.unpaired t.positions

left_matches : (steps : List Step) (read : Read) → length read.qual ≡ length read.seq →
    Matches (course (alone steps) read).left
left_matches steps read same = grind (arith, common_steps, left_as_kept, length-map)

read_more : (steps : List Step) (read : Read) (m : Bool) (t : SideTally) →
    length read.qual ≡ length read.seq → SideOf t →
    SideOf (with_read read (course (alone steps) read) m t)
read_more steps read m t same side =
    let left = (course (alone steps) read).left in
    side_more (survives left) m (whole read) left t.before t.paired t.unpaired t.positions same
    (left_matches steps read same) side

all_more : (steps : List Step) (mine other : Mates → Read) (ms : List Mates) (t : SideTally) →
    All (Fits mine) ms → SideOf t → SideOf (side_of mine other steps t ms)
all_more steps mine other [] t fit side = side
all_more steps mine other (m ∷ ms) t fit side =
    let mate = survives (course (alone steps) (other m)).left in
    all_more steps mine other ms (with_read (mine m) (course (alone steps) (mine m)) mate t)
    (All-tail (Fits mine) m ms fit)
    (read_more steps (mine m) mate t (All-head (Fits mine) m ms fit) side)

none : Both no_reads no_columns
none = grind (arith, common_steps, each_of_none)

none_yet : SideOf no_side
none_yet = grind (arith, common_steps, none)

listed : (t : ReadsTally) (cs : Columns) → Lengths t.longest cs → AreAsLong t cs
listed t cs are = each_listed (λ list. length list ≡ min t.longest 10001) cs are

-- each list of a report adds up to its total, if that is below the largest number of 64 bits
pub returns-clause-sums : goal.returns-clause-sums
returns-clause-sums c check e steps ms are =
    both_sides check e steps ms (λ mine other t. SideListsAddUp t)
    (λ mine other fit others. let side = all_more steps mine other ms no_side fit none_yet in
    grind (arith, common_steps)) are

-- each list by position is as long as the longest read, but has at most 10,001 items
pub returns-clause-sizes : goal.returns-clause-sizes
returns-clause-sizes c check e steps ms are =
    both_sides check e steps ms (λ mine other t. SideListsAreAsLong t)
    (λ mine other fit others. let side = all_more steps mine other ms no_side fit none_yet in
    grind (arith, common_steps, listed)) are
