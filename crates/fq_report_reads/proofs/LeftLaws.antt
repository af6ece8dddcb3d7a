-- Lists of steps, taken in turn and as one list.
use Rattle.std.proofs.Common.{◌≡◌, ℕ, zero, suc, ◌<◌, Bool, not, List, [], ◌∷◌, ◌++◌, length, get_or, map, refl, ap, sym, subst, ◌∙◌, arith}
use Rattle.std.proofs.lemmas.List.{take_all, length-map}
use Rattle.std.proofs.lemmas.Bool.{cases_Bool}
use Rattle.fq_text.specs.Scores.{value_of}
use Rattle.fq_text.specs.Grammar.{Read}
use Rattle.fq_trim.specs.declared.step.Step.{Step}
use Rattle.fq_trim.specs.Keeping.{scores, places, select, keeps, kept_of, kept}
use Rattle.fq_trim.specs.KeptPlaces as of_steps
use Rattle.fq_trim.specs.KeptPlaces.{is_empty, kept_places}
use Rattle.fq_trim.proofs.PlaceLemmas.{scores_at}
use Rattle.fq_trim.proofs.KeptLemmas.{Below, select_below, kept_below, places_below}
use Rattle.fq_report_reads.specs.Courses.{Part, alone, one_list, part_at, whole, Course, after, course_of, course, survives}
use Rattle.std.proofs.lemmas.Grind.{common_steps}

-- steps, each in a list of its own, are the same steps as one list
pub alone_are_all : (steps : List Step) → one_list (alone steps) ≡ steps
alone_are_all [] = refl
alone_are_all (step ∷ steps) = ap (λ ss. step ∷ ss) (alone_are_all steps)

-- the member at a place
abbrev pub at : List ℕ → ℕ → ℕ
at xs i = get_or xs i 0

got : (f : ℕ → ℕ) (xs : List ℕ) (i : ℕ) → i < length xs → get_or (map f xs) i 0 ≡ f (get_or xs i 0)
got f [] i lt = absurd (omega arith)
got f (x ∷ xs) zero lt = refl
got f (x ∷ xs) (suc i) lt = got f xs i (omega arith)

-- members at places, turned
map_at : (f : ℕ → ℕ) (xs is : List ℕ) → Below (length xs) is →
    map f (map (at xs) is) ≡ map (at (map f xs)) is
map_at f xs [] below = refl
map_at f xs (i ∷ is) below = grind (arith, common_steps, got, map_at f xs is)

select_map : (test : ℕ → Bool) (j : ℕ) (f : ℕ → ℕ) (is : List ℕ) →
    select test j (map f is) ≡ map f (select test j is)
select_map test j f [] = refl
select_map test j f (i ∷ is) = grind (arith, common_steps, cases_Bool, select_map test (suc j) f is)

all_places : (xs : List ℕ) (n : ℕ) → n ≡ length xs → map (at xs) (places 0 n) ≡ xs
all_places xs n is = scores_at xs 0 n (omega arith) ∙ take_all n xs (omega arith)

-- steps on the places of places
kept_map : (steps : List Step) (q ps is : List ℕ) → Below (length ps) is →
    kept_of steps q (map (at ps) is) ≡ map (at ps) (kept_of steps (map (at q) ps) is)
kept_map [] q ps is below = refl
kept_map (step ∷ steps) q ps is below =
    let test : ℕ → Bool = keeps step (map (at (map (at q) ps)) is) in
    ap (λ (ns : List ℕ). kept_of steps q (select (keeps step ns) 0 (map (at ps) is)))
    (map_at (at q) ps is below)
    ∙ ap (kept_of steps q) (select_map test 0 (at ps) is)
    ∙ kept_map steps q ps (select test 0 is) (select_below test 0 (length ps) is below)

-- steps on what is left at places are the steps on what is left, as places of these
pub kept_within : (steps : List Step) (q ps : List ℕ) →
    kept_of steps q ps ≡ map (at ps) (kept steps (map (at q) ps))
kept_within steps q ps =
    let size = length-map ps (at q) in
    ap (kept_of steps q) (sym (all_places ps (length ps) refl))
    ∙ kept_map steps q ps (places 0 (length ps))
    (places_below (length ps) 0 (length ps) (omega arith))
    ∙ ap (λ (n : ℕ). map (at ps) (kept_of steps (map (at q) ps) (places 0 n))) (sym size)

-- steps with others after them keep what the others keep of what the first ones keep
pub kept_append : (steps others : List Step) (q ps : List ℕ) →
    kept_of (steps ++ others) q ps ≡ kept_of others q (kept_of steps q ps)
kept_append [] others q ps = refl
kept_append (step ∷ steps) others q ps = kept_append steps others q
    (select (keeps step (map (at q) ps)) 0 ps)

-- of no places, steps keep none
pub kept_none : (steps : List Step) (q : List ℕ) → kept_of steps q [] ≡ []
kept_none [] q = refl
kept_none (step ∷ steps) q = kept_none steps q

-- a part of a part
part_of_part : (p : Part) (ps is : List ℕ) → Below (length ps) is →
    part_at is (part_at ps p) ≡ part_at (map (at ps) is) p
part_of_part p ps is below = grind (arith, common_steps, map_at)

left_after : (n : ℕ) (ps : List ℕ) (p : Part) (c : Course) (r : List ℕ → Part) → c.left ≡ r ps →
    r [] ≡ part_at [] p → (after n ps p c).left ≡ r ps
left_after n ps p c r left none = grind (arith, common_steps)

-- what lists of steps leave of a part in turn is what they leave of it as one list
pub left_in_turn : (lists : List (List Step)) (n : ℕ) (p : Part) → length p.qual ≡ length p.seq →
    (course_of n lists p).left ≡ part_at (kept (one_list lists) (scores p.encoding p.qual)) p
left_in_turn [] n p same = grind (arith, common_steps, length-map, all_places)
left_in_turn (steps ∷ lists) n p same =
    let e = p.encoding in
    let q = scores e p.qual in
    let size = length-map p.qual (value_of e) in
    let ps = kept steps q in
    let below = kept_below steps q (length q) (places 0 (length q))
    (places_below (length q) 0 (length q) (omega arith)) in
    let in_qual : Below (length p.qual) ps = subst (λ (m : ℕ). Below m ps) size below in
    let rest = one_list lists in
    let next = part_at ps p in
    let r : List ℕ → Part = λ xs. part_at (kept_of rest q xs) p in
    let next_size : length next.qual ≡ length next.seq = length-map ps (at p.qual)
    ∙ sym (length-map ps (at p.seq)) in
    let values : scores e next.qual ≡ map (at q) ps = map_at (value_of e) p.qual ps in_qual in
    let k_size = length-map ps (at q) in
    let k_below : Below (length ps) (kept rest (map (at q) ps)) =
    kept_below rest (map (at q) ps) (length ps) _
    (places_below (length ps) 0 (length (map (at q) ps)) (omega arith)) in
    let left : (course_of (suc n) lists next).left ≡ r ps =
    left_in_turn lists (suc n) next next_size
    ∙ ap (λ (ns : List ℕ). part_at (kept rest ns) next) values
    ∙ part_of_part p ps (kept rest (map (at q) ps)) k_below
    ∙ ap (λ (ns : List ℕ). part_at ns p) (sym (kept_within rest q ps)) in
    left_after n ps p (course_of (suc n) lists next) r left
    (ap (λ (ns : List ℕ). part_at ns p) (kept_none rest q))
    ∙ ap (λ (ns : List ℕ). part_at ns p) (sym (kept_append steps rest q (places 0 (length q))))

-- a list in which each member is replaced is empty just if the list is
pub not_empty : (f : ℕ → ℕ) (xs : List ℕ) → is_empty (map f xs) ≡ is_empty xs
not_empty f xs = grind (arith, common_steps)

-- a read survives lists of steps in turn just if it survives them as one list
pub survives_in_turn : (lists : List (List Step)) (read : Read) →
    length read.qual ≡ length read.seq → survives (course lists read).left ≡ of_steps.survives
    (one_list lists) read
survives_in_turn lists read same = grind (arith, common_steps, left_in_turn, not_empty)

-- the same of steps, each in a list of its own
pub left_as_kept : (steps : List Step) (read : Read) → length read.qual ≡ length read.seq →
    (course (alone steps) read).left ≡ part_at (kept_places steps read) (whole read)
left_as_kept steps read same = grind (arith, common_steps, left_in_turn, alone_are_all)

-- a read survives steps in turn just if they keep a place of it
pub survives_as_kept : (steps : List Step) (read : Read) → length read.qual ≡ length read.seq →
    survives (course (alone steps) read).left ≡ not (is_empty (kept_places steps read))
survives_as_kept steps read same = grind (arith, common_steps, left_as_kept, not_empty)
