use Rattle.std.proofs.Common.{◌≡◌, ◌-◌, ◌<◌, ◌≤◌, length, drop, append_assoc, ap, sym, ◌∙◌, arith, ℕ, zero, suc, ◌+◌, cond, nat_lt, List, [], ◌∷◌, ◌++◌, take, get_or, map, refl, add-one}
use Rattle.std.proofs.lemmas.Bool.{lt-ltb, le-ltb}
use Rattle.std.proofs.lemmas.List.{append-nil, drop_all, length-set, length-take-le, length-drop, take_more_set, drop_more, drop-drop, drop-take, take-take, take-append-drop}
use Rattle.fq_trim.specs.Keeping.{scores, places, only, kept, kept_of}
use Rattle.fq_trim.proofs.PlaceLemmas.{all_taken, all_dropped, length-places, length-scores, scores_at, scores_of_part}
use Rattle.fq_report_reads.specs.Courses.{whole, Part, Course, alone, after, course_of}
use Rattle.fq_report_reads.proofs.CourseLemmas.{cut, alone_length, part}
use Rattle.fq_report_reads.proofs.trimmed.Trimmed.new.Goals as goal
use Rattle.std.proofs.lemmas.Grind.{common_steps}
use Rattle.fq_text.specs.declared.encoding.Encoding.{Encoding}
use Rattle.fq_text.specs.Grammar.{Read}
use Rattle.fq_trim.specs.declared.step.Step.{Step}
use Rattle.fq_trim.specs.declared.trimming.Kept.{Kept}
use Rattle.fq_report_reads.proofs.LeftLaws.{at, kept_within, kept_append, kept_none}

-- list number `number` keeps n places of a part from start on, and what is left takes this course
abbrev kept_course : ℕ → ℕ → ℕ → Part → Course → Course
kept_course number start n p course = record {
  left = course.left;
  front = start + course.front;
  shortened = cond (nat_lt n (length p.qual)) (number ∷ course.shortened) course.shortened;
  dropped = course.dropped;
}

after_places : (number start n : ℕ) (p : Part) (course : Course) → 0 < n →
    after number (places start n) p course ≡ kept_course number start n p course
after_places number start zero p course some = absurd (omega arith)
after_places number start (suc n) p course some = grind (arith, common_steps, length-places)

-- a list of steps that keeps something
course_kept : (number : ℕ) (steps : List Step) (others : List (List Step)) (p : Part)
    (k : Kept) →
    kept steps (scores p.encoding p.qual) ≡ places k.start (k.stop - k.start) →
    k.stop ≤ length p.qual → length p.qual ≡ length p.seq →
    course_of number (steps ∷ others) p ≡ kept_course number k.start (k.stop - k.start) p (course_of
    (suc number) others (cut k.start (k.stop - k.start) p))
course_kept number steps others p k is within same =
    grind (arith, common_steps, scores_at, at, after_places)

-- a list of steps that keeps nothing
course_dropped : (number : ℕ) (steps : List Step) (others : List (List Step)) (p : Part) →
    kept steps (scores p.encoding p.qual) ≡ [] →
    course_of number (steps ∷ others) p ≡ record {
      left = part p.encoding [] [];
      front =
          0;
      shortened = [];
      dropped = number ∷ [];
    }
course_dropped number steps others p is = grind (arith, common_steps, at)

-- the same in turn, if the list is at its number
next_kept : (number : ℕ) (lists : List (List Step)) (encoding : Encoding) (seq qual : List ℕ)
    (k : Kept) → number < length lists →
    kept (get_or lists number []) (scores encoding qual) ≡ places k.start (k.stop - k.start) →
    k.stop ≤ length qual → length qual ≡ length seq →
    course_of number (drop number lists) (part encoding seq qual)
    ≡ kept_course number k.start (k.stop - k.start) (part encoding seq qual)
    (course_of (number + 1) (drop (number + 1) lists)
    (cut k.start (k.stop - k.start) (part encoding seq qual)))
next_kept number lists encoding seq qual k lt is within same =
    grind (arith, drop_more, course_kept, add-one)

-- a list that is taken in turn and keeps no place drops what is left of the read
next_dropped : (number : ℕ) (lists : List (List Step)) (encoding : Encoding)
    (seq qual : List ℕ) → number < length lists →
    kept (get_or lists number []) (scores encoding qual) ≡ [] →
    course_of number (drop number lists) (part encoding seq qual) ≡ record {
      left =
          part encoding [] [];
      front = 0;
      shortened = [];
      dropped = number ∷ [];
    }
next_dropped number lists encoding seq qual lt is =
    grind (arith, common_steps, drop_more, course_dropped)

-- after the last list
none_next : (number : ℕ) (lists : List (List Step)) (p : Part) → length lists ≤ number →
    course_of number (drop number lists) p ≡ record {
      left = p;
      front = 0;
      shortened = [];
      dropped =
          [];
    }
none_next number lists p all = grind (arith, common_steps, drop_all)

-- the list with the number of a step is that step alone
alone_at : (steps : List Step) (number : ℕ) → number < length steps →
    get_or (alone steps) number [] ≡ only number steps
alone_at [] number lt = absurd (omega arith)
alone_at (step ∷ steps) zero lt = refl
alone_at (step ∷ steps) (suc n) lt = alone_at steps n (omega arith)

-- The walk over steps, by the places that are still left.

at_places : (s m a : ℕ) → a < m → get_or (places s m) a 0 ≡ s + a
at_places s zero a lt = absurd (omega arith)
at_places s (suc m) zero lt = omega arith
at_places s (suc m) (suc a) lt = let rest = at_places (suc s) m a (omega arith) in omega arith

-- places of places
places_at : (s m a n : ℕ) → a + n ≤ m → map (at (places s m)) (places a n) ≡ places (s + a) n
places_at s m a zero le = refl
places_at s m a (suc n) le = grind (arith, common_steps, at, at_places, places_at s m (suc a) n)

-- a part of a part
part_again : {X : Type 0} (xs : List X) (s m a n : ℕ) → a + n ≤ m →
    take n (drop a (take m (drop s xs))) ≡ take n (drop (s + a) xs)
part_again xs s m a n le =
    let size : m ≡ a + (m - a) = omega arith in
    ap (λ i. take n (drop a (take i (drop s xs)))) size
    ∙ ap (take n) (drop-take a (m - a) (drop s xs))
    ∙ take-take n (m - a) (drop a (drop s xs)) (omega arith)
    ∙ ap (take n) (drop-drop a s xs)

-- the steps to come, with the first of them split off
steps_split : (number : ℕ) (steps : List Step) →
    drop number steps ≡ only number steps ++ drop (number + 1) steps
steps_split number steps = sym (take-append-drop 1 (drop number steps))
    ∙ ap (λ (ss : List Step). only number steps ++ ss) (drop-drop 1 number steps)

module _ (steps : List Step) (read : Read) (number start stop : ℕ)
    (in_steps : number < length steps) (order : start ≤ stop) (within : stop ≤ length read.qual)
    (same : length read.qual ≡ length read.seq) where
  abbrev at_hand : Part
  at_hand = cut start (stop - start) (whole read)

  abbrev read_scores : List ℕ
  read_scores = scores read.encoding read.qual

  hand_scores : scores read.encoding at_hand.qual
      ≡ map (at read_scores) (places start (stop - start))
  hand_scores = grind (arith, common_steps, length-scores, scores_of_part, scores_at)

  one_more : (ns : List ℕ) → kept (only number steps) (scores read.encoding at_hand.qual) ≡ ns →
      kept_of (drop number steps) read_scores (places start (stop - start))
      ≡ kept_of (drop (number + 1) steps) read_scores
      (map (at (places start (stop - start))) ns)
  one_more ns is =
      grind (arith, common_steps, steps_split, kept_append, kept_within, at, hand_scores)

  -- a step that keeps something
  places_kept : (k : Kept) → kept (only number steps) (scores read.encoding at_hand.qual)
      ≡ places k.start (k.stop - k.start) → k.stop ≤ length at_hand.qual →
      kept_of (drop number steps) read_scores (places start (stop - start))
      ≡ kept_of (drop (number + 1) steps) read_scores
      (places (start + k.start) (start + k.stop - (start + k.start)))
  places_kept k is fits =
      let some = k.some in
      let size : length at_hand.qual ≡ stop - start =
      length-take-le (stop - start) (drop start read.qual)
      (omega (arith, length-drop start read.qual)) in
      let n : k.stop - k.start ≡ start + k.stop - (start + k.start) = omega arith in
      one_more (places k.start (k.stop - k.start)) is
      ∙ ap (kept_of (drop (number + 1) steps) read_scores)
      (places_at start (stop - start) k.start (k.stop - k.start) (omega arith)
      ∙ ap (places (start + k.start)) n)

  -- a step that keeps nothing
  places_dropped : kept (only number steps) (scores read.encoding at_hand.qual) ≡ [] →
      kept_of (drop number steps) read_scores (places start (stop - start)) ≡ []
  places_dropped is = one_more [] is ∙ kept_none (drop (number + 1) steps) read_scores

  -- the same of the course
  cut_kept : (k : Kept) → kept (only number steps) (scores read.encoding at_hand.qual) ≡ places
      k.start (k.stop - k.start) → k.stop ≤ length at_hand.qual →
      course_of number (drop number (alone steps)) at_hand
      ≡ kept_course number k.start (k.stop - k.start) at_hand
      (course_of (number + 1) (drop (number + 1) (alone steps))
      (cut (start + k.start) (start + k.stop - (start + k.start)) (whole read)))
  cut_kept k is fits =
      let some = k.some in
      let m = stop - start in
      let count = k.stop - k.start in
      let size : length at_hand.qual ≡ m = length-take-le m (drop start read.qual)
      (omega (arith, length-drop start read.qual)) in
      let seq_size : length at_hand.seq ≡ m =
      length-take-le m (drop start read.seq) (omega (arith, length-drop start read.seq)) in
      let all = alone_length steps in
      let n : count ≡ start + k.stop - (start + k.start) = omega arith in
      let seq = part_again read.seq start m k.start count (omega arith) in
      let qual = part_again read.qual start m k.start count (omega arith) in
      let at_number = alone_at steps number in_steps in
      let next = next_kept number (alone steps) read.encoding at_hand.seq at_hand.qual k
      (omega arith)
      (ap (λ (s : List Step). kept s (scores read.encoding at_hand.qual)) at_number ∙ is) fits
      (omega arith) in cc

  -- a step that keeps no place of what is left drops the read
  cut_dropped : kept (only number steps) (scores read.encoding at_hand.qual) ≡ [] →
      course_of number (drop number (alone steps)) at_hand ≡ record {
        left =
            part read.encoding [] [];
        front = 0;
        shortened = [];
        dropped = number ∷ [];
      }
  cut_dropped is = grind (arith, common_steps, alone_length, next_dropped, alone_at)

-- each quality byte of what is left has a score
pub trim_at-requires-clause-scored : goal.trim_at-requires-clause-scored
trim_at-requires-clause-scored c = grind (arith, common_steps, all_taken, all_dropped)

-- after a step that keeps bases, the steps to come complete what all do to the whole
pub loop-number-preserved : goal.loop-number-preserved
loop-number-preserved c =
    let read = c.args.read.now in
    let steps = c.args.steps.now in
    let number = c.loop-number.number in
    let start = c.loop-number.start in
    let stop = c.loop-number.stop in
    let k = c.in-Some.kept in
    let old = c.loop-number.invariant in
    let order = old.order in
    let within = old.within in
    let few = old.few in
    let room = old.room in
    let some = k.some in
    let same = c.title.ensures.lawful.same_len in
    let all = ap length c.as_slice-number-end.ensures.steps in
    let most = c.as_slice-number-end.ensures.few in
    let in_steps : number < length steps = omega arith in
    let hand = cut start (stop - start) (whole read) in
    let size : length hand.qual ≡ stop - start =
    length-take-le (stop - start) (drop start read.qual)
    (omega (arith, length-drop start read.qual)) in
    let is : kept (only number steps) (scores read.encoding hand.qual)
    ≡ places k.start (k.stop - k.start) =
    grind (arith, c.in-Some.ensures, c.encoding-encoding.ensures, c.qual-qual.ensures) in
    let fits : k.stop ≤ length hand.qual = grind (arith, c.in-Some.ensures, c.qual-qual.ensures) in
    let next = cut_kept steps read number start stop in_steps order within same k is fits in
    record {
      order = omega arith;
      within = omega arith;
      few = grind arith;
      room = grind (arith, length-set);
      kept = sym (places_kept steps read number start stop in_steps order within same k is fits)
          ∙ old.kept;
      course = grind (
        arith,
        common_steps,
        take_more_set,
        append_assoc,
        lt-ltb,
        le-ltb,
        next,
        old.course,
      );
    }

-- what the step that drops the rest does
pub returns-in-None : goal.returns-in-None
returns-in-None c = grind (arith, common_steps, cut, cut_dropped, places_dropped, append-nil)

-- after the last step nothing more is done
pub returns : goal.returns
returns c = grind (arith, common_steps, alone_length, none_next, cut, drop_all, append-nil)
