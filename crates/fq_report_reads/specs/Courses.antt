-- What becomes of a read if lists of steps are taken in turn, each on what the list before left.
use Rattle.std.specs.Prelude.{ℕ, suc, ◌+◌, Bool, not, nat_lt, Option, Some, None, if◌then◌else◌}
use Rattle.std.specs.Prelude.{List, [], ◌∷◌, ◌++◌, length}
use Rattle.fq_text.specs.declared.encoding.Encoding.{Encoding}
use Rattle.fq_text.specs.Grammar.{Read}
use Rattle.fq_trim.specs.declared.step.Step.{Step}
use Rattle.fq_trim.specs.Keeping.{kept, scores}
use Rattle.fq_trim.specs.KeptPlaces.{bytes_at, is_empty, kept_places}

-- bases of a read and their quality bytes
pub record Part : Type 0 where
  pub encoding : Encoding
  pub seq : List ℕ
  pub qual : List ℕ

-- all of a read
abbrev pub whole : Read → Part
whole read = record { encoding = read.encoding; seq = read.seq; qual = read.qual }

-- the bases at these places
abbrev pub part_at : List ℕ → Part → Part
part_at at part = record {
  encoding = part.encoding;
  seq = bytes_at at part.seq;
  qual = bytes_at at part.qual;
}

-- what became of a read: what is left of it, how many bases were removed before that, the numbers
-- of the lists of steps that shortened it, and the number of the list that dropped it
pub record Course : Type 0 where
  pub left : Part
  pub front : ℕ
  pub shortened : List ℕ
  pub dropped : List ℕ

-- list n keeps these places of a part, and what is left of it takes this course. The list drops a
-- part of which it keeps no place, and shortens one of which it keeps some places but not all.
abbrev pub after : ℕ → List ℕ → Part → Course → Course
after n [] part course = record {
  left = part_at [] part;
  front = 0;
  shortened = [];
  dropped = n ∷ [];
}
after n (start ∷ others) part course = record {
  left = course.left;
  front = start + course.front;
  shortened =
      if nat_lt (length (start ∷ others)) (length part.qual) then n ∷ course.shortened
      else course.shortened;
  dropped = course.dropped;
}

-- the course of a part by lists of steps, of which the first has number n
abbrev pub course_of : ℕ → List (List Step) → Part → Course
course_of n [] part = record { left = part; front = 0; shortened = []; dropped = [] }
course_of n (steps ∷ others) part =
    let at = kept steps (scores part.encoding part.qual) in
    after n at part (course_of (suc n) others (part_at at part))

-- steps, each in a list of its own
abbrev pub alone : List Step → List (List Step)
alone [] = []
alone (step ∷ steps) = (step ∷ []) ∷ alone steps

-- lists of steps, one after the other
abbrev pub one_list : List (List Step) → List Step
one_list [] = []
one_list (steps ∷ others) = steps ++ one_list others

-- the course of a read, by lists of steps that are counted from 0
abbrev pub course : List (List Step) → Read → Course
course lists read = course_of 0 lists (whole read)

-- a base is left
abbrev pub survives : Part → Bool
survives left = not (is_empty left.seq)

-- what steps do to a read: the places of it that they keep, how many bases they remove before
-- these, the numbers of the steps that shortened it, and the number of the step that dropped it
pub record Passage : Type 0 where
  pub kept : List ℕ
  pub front : ℕ
  pub shortened : List ℕ
  pub dropped : List ℕ

-- by steps that are counted from 0
abbrev pub passage : List Step → Read → Passage
passage steps read = record {
  kept = kept_places steps read;
  front = (course (alone steps) read).front;
  shortened = (course (alone steps) read).shortened;
  dropped = (course (alone steps) read).dropped;
}

-- a number, if there is one
abbrev pub numbers_of : Option ℕ → List ℕ
numbers_of None = []
numbers_of (Some n) = n ∷ []
