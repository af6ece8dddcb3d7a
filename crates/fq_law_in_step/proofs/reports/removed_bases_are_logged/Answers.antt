use Rattle.std.proofs.Common.{ℕ, List, get_or, ◌≡◌, ◌<◌, zero, suc, refl, arith, ◌+◌, ◌∙◌, [], ◌∷◌, length, ◌-◌, map, ap₂, sym, ap, ◌++◌, subst, true, not, Bool, false, cond}
use Rattle.std.proofs.lemmas.List.{get_or-map, length-map}
use Rattle.std.specs.List.{All}
use Rattle.std.proofs.lemmas.List.Elements.{All-head, All-tail}
use Rattle.fq_trim.specs.Keeping.{places, kept, scores}
use Rattle.fq_trim.specs.declared.step.Step.{Step}
use Rattle.fq_report_reads.specs.Courses.{Part, Course, after, one_list, course_of, part_at, survives, alone, course}
use Rattle.fq_text.specs.Scores.{value_of}
use Rattle.fq_pair.specs.Outputs.{log_numbers}
use Rattle.fq_trim.specs.KeptPlaces.{is_empty, kept_places}
use Rattle.fq_text.specs.Grammar.{Read}
use Rattle.fq_report_reads.specs.SideTallies.{behind_of, no_side, with_read}
use Rattle.fq_report_reads.specs.Rows.{counted, counted_if, counted_all}
use Rattle.fq_report_reads.specs.declared.side.SideTally.{SideTally}
use Rattle.fq_law_in_step.specs.ReportLists.{logged, RemovedAsLogged}
use Rattle.fq_pair.specs.Mates.{Mates}
use Rattle.fq_trim.proofs.PlaceLemmas.{length-places}
use Rattle.fq_trim.proofs.KeptLemmas.{Below, kept_below, places_below}
use Rattle.fq_report_reads.proofs.LeftLaws.{at, kept_within, kept_append, alone_are_all, left_as_kept, survives_as_kept}
use Rattle.fq_law_in_step.proofs.PieceLemmas.{whole_span}
use Rattle.fq_law_in_step.proofs.ReportLemmas.{Fits, side_of, both_sides}
use Rattle.fq_trim.specs.KeptPlaces as of_steps
use Rattle.fq_law_in_step.proofs.reports.removed_bases_are_logged.Goals as goal
use Rattle.std.proofs.lemmas.Grind.{common_steps}

-- The bases removed at each end of a read are counted as the log has them.

-- the first of the kept places
abbrev first : List ℕ → ℕ
first ps = get_or ps 0 0

place_at : (a n k : ℕ) → k < n → get_or (places a n) k 0 ≡ a + k
place_at a zero k lt = absurd (omega arith)
place_at a (suc n) zero lt = omega arith
place_at a (suc n) (suc k) lt = place_at (suc a) n k (omega arith) ∙ omega arith

all_kept : (q : List ℕ) → first (places 0 (length q)) ≡ 0
all_kept q = grind (arith, common_steps)

-- members at places, turned
values_at : (f : ℕ → ℕ) (xs is : List ℕ) → Below (length xs) is →
    map f (map (at xs) is) ≡ map (at (map f xs)) is
values_at f xs [] below = refl
values_at f xs (i ∷ is) below =
    ap₂ (λ n ns. n ∷ ns) (sym (get_or-map f xs i 0 0 below.0)) (values_at f xs is below.1)

first_below : (n : ℕ) (ps : List ℕ) → 0 < length ps → Below n ps → first ps < n
first_below n ps some below = grind (arith, common_steps)

first_of : (f : ℕ → ℕ) (ps : List ℕ) → 0 < length ps → first (map f ps) ≡ f (first ps)
first_of f ps some = grind (arith, common_steps)

front_after : (n : ℕ) (ps : List ℕ) (p : Part) (c : Course) → 0 < length ps →
    (after n ps p c).front ≡ first ps + c.front
front_after n ps p c some = grind (arith, common_steps)

-- the bases that lists of steps remove before what is left are those before its first place
front_in_turn : (lists : List (List Step)) (n : ℕ) (p : Part) →
    0 < length (kept (one_list lists) (scores p.encoding p.qual)) →
    (course_of n lists p).front ≡ first (kept (one_list lists) (scores p.encoding p.qual))
front_in_turn [] n p some = sym (all_kept (scores p.encoding p.qual))
front_in_turn (steps ∷ lists) n p some =
    let e = p.encoding in
    let q = scores e p.qual in
    let size = length-map p.qual (value_of e) in
    let ps = kept steps q in
    let rest = one_list lists in
    let next = part_at ps p in
    let K = kept rest (map (at q) ps) in
    let below = kept_below steps q (length q) (places 0 (length q))
    (places_below (length q) 0 (length q) (omega arith)) in
    let in_qual : Below (length p.qual) ps = subst (λ (m : ℕ). Below m ps) size below in
    let values : scores e next.qual ≡ map (at q) ps = values_at (value_of e) p.qual ps in_qual in
    let all : kept (steps ++ rest) q ≡ map (at ps) K =
    kept_append steps rest q (places 0 (length q)) ∙ kept_within rest q ps in
    let some_K : 0 < length K =
    let long = ap length all in
    let same = length-map K (at ps) in
    omega arith in
    let ks = length-map ps (at q) in
    let K_below : Below (length ps) K =
    kept_below rest (map (at q) ps) (length ps) (places 0 (length (map (at q) ps)))
    (places_below (length ps) 0 (length (map (at q) ps)) (omega arith)) in
    let k = first K in
    let k_in : k < length ps = first_below (length ps) K some_K K_below in
    let run = whole_span steps q in
    let len = run.stop - run.start in
    let long : length ps ≡ len = ap length run.places_are ∙ length-places run.start len in
    let c = course_of (suc n) lists next in
    let later : c.front ≡ k =
    let some_next : 0 < length (kept rest (scores e next.qual)) =
    subst (λ (ns : List ℕ). 0 < length (kept rest ns)) (sym values) some_K in
    front_in_turn lists (suc n) next some_next
    ∙ ap (λ (ns : List ℕ). first (kept rest ns)) values in
    let begins : first ps ≡ run.start + 0 =
    ap first run.places_are ∙ place_at run.start len 0 (omega arith) in
    let there : at ps k ≡ run.start + k =
    ap (λ (xs : List ℕ). get_or xs k 0) run.places_are ∙ place_at run.start len k (omega arith) in
    let sum : first ps + c.front ≡ at ps k = omega arith in
    front_after n ps p c (omega arith) ∙ sum ∙ sym (first_of (at ps) K some_K) ∙ ap first (sym all)

-- The numbers of a log line.

second_of : (n : ℕ) (ps : List ℕ) → 0 < length ps → get_or (log_numbers n ps) 1 0 ≡ first ps
second_of n ps some = grind (arith, common_steps)

fourth_of : (n : ℕ) (ps : List ℕ) → 0 < length ps →
    get_or (log_numbers n ps) 3 0 ≡ n - first ps - length ps
fourth_of n ps some = grind (arith, common_steps)

some_kept : (ps : List ℕ) → not (is_empty ps) ≡ true → 0 < length ps
some_kept ps is = grind (arith, common_steps)

module _ (steps : List Step) (read : Read) (same : length read.qual ≡ length read.seq)
    (survived : of_steps.survives steps read ≡ true) where
  abbrev places_kept : List ℕ
  places_kept = kept_places steps read

  abbrev taken : Course
  taken = course (alone steps) read

  some_places : 0 < length places_kept
  some_places = some_kept places_kept survived

  front_is : taken.front ≡ first places_kept
  front_is = grind (arith, common_steps, alone_are_all, some_places, front_in_turn)

  left_is : length taken.left.seq ≡ length places_kept
  left_is =
      ap (λ (p : Part). length p.seq) (left_as_kept steps read same) ∙ length-map places_kept _

  front_logged : taken.front ≡ get_or (log_numbers (length read.seq) places_kept) 1 0
  front_logged = front_is ∙ sym (second_of (length read.seq) places_kept some_places)

  behind_logged : behind_of read taken.left taken.front
      ≡ get_or (log_numbers (length read.seq) places_kept) 3 0
  behind_logged = grind (arith, common_steps, front_is, left_is, fourth_of, some_places)

-- Counted, read after read.

counted_same : (s b : Bool) (x y : ℕ) (rows : List ℕ) → s ≡ b → (b ≡ true → x ≡ y) →
    counted_if s x rows ≡ counted_if b y rows
counted_same s true x y rows is same =
    ap (λ v. counted_if v x rows) is ∙ ap (λ (z : ℕ). counted z rows) (same refl)
counted_same s false x y rows is same = ap (λ v. counted_if v x rows) is

picked : {A : Type 0} (f : A → ℕ) (b : Bool) (x : A) (xs : List A) (rows : List ℕ) →
    counted_all (map f (cond b (x ∷ xs) xs)) rows ≡ counted_all (map f xs) (counted_if b (f x) rows)
picked f true x xs rows = refl
picked f false x xs rows = refl

-- after these reads the rows of the second tally are those of the first, and what the log has
record IsCounted (steps : List Step) (reads : List Read) (old new : SideTally) : Type 0 where
  front : new.removed_front ≡ counted_all (logged 1 steps reads) old.removed_front
  behind : new.removed_behind ≡ counted_all (logged 3 steps reads) old.removed_behind

one_more : (steps : List Step) (read : Read) (reads : List Read) (m : Bool) (t end : SideTally) →
    length read.qual ≡ length read.seq →
    IsCounted steps reads (with_read read (course (alone steps) read) m t) end →
    IsCounted steps (read ∷ reads) t end
one_more steps read reads m t end same rest =
    grind (arith, common_steps, survives_as_kept, counted_same, front_logged, behind_logged, picked)

all_counted : (steps : List Step) (mine other : Mates → Read) (ms : List Mates) (t : SideTally) →
    All (Fits mine) ms → IsCounted steps (map mine ms) t (side_of mine other steps t ms)
all_counted steps mine other [] t fit = record { front = refl; behind = refl }
all_counted steps mine other (m ∷ ms) t fit =
    let mate = survives (course (alone steps) (other m)).left in
    one_more steps (mine m) (map mine ms) mate t _ (All-head (Fits mine) m ms fit)
    (all_counted steps mine other ms (with_read (mine m) (course (alone steps) (mine m)) mate t)
    (All-tail (Fits mine) m ms fit))

-- the bases removed at each end are counted as the log lines have them
pub returns : goal.returns
returns c check e steps ms are =
    both_sides check e steps ms (λ mine other t. RemovedAsLogged steps (map mine ms) t)
    (λ mine other fit others. let counted = all_counted steps mine other ms no_side fit in
    record { front = counted.front; behind = counted.behind }) are
