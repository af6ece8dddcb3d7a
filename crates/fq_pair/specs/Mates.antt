-- Mates, and the names by which they are matched: titles up to the first blank or tab, without the
-- marks /1 and /2 of paired reads.
use Rattle.std.specs.Prelude.{ℕ, ◌-◌, Bool, ◌||◌, ◌==◌, nat_eq, List, ◌∷◌, [], length, take, if◌then◌else◌}
use Rattle.std.specs.List.{before_first, ends_with}
use Rattle.std.specs.Str.{bytes_eq}
use Rattle.fq_text.specs.Grammar.{Read}
use Rattle.fq_pair.specs.declared.name.NameLengths.{NameLengths}
use Rattle.fq_pair.specs.declared.side.Side.{Side}
use Rattle.fq_pair.specs.declared.side.Side.TheVariants.{Forward, Reverse}

-- the two reads of a pair
pub record Mates : Type 0 where
  pub forward : Read
  pub reverse : Read

abbrev pub mates_in : Read → Read → Mates
mates_in forward reverse = record { forward = forward; reverse = reverse }

-- a blank or a tab
abbrev pub is_gap : ℕ → Bool
is_gap byte = byte == 32 || byte == 9

-- the mark at the end of a name: /1 or /2
abbrev pub mark_of : Side → List ℕ
mark_of Forward = 47 ∷ 49 ∷ []
mark_of Reverse = 47 ∷ 50 ∷ []

-- a text, with this ending removed if it has it
abbrev pub without_end : List ℕ → List ℕ → List ℕ
without_end ending text =
    if ends_with nat_eq text ending then take (length text - length ending) text else text

-- the title up to its first blank or tab, without the mark of its side
abbrev pub name_of : Side → List ℕ → List ℕ
name_of side title = without_end (mark_of side) (before_first is_gap title)

-- whether two titles have the same name
abbrev pub names_match : List ℕ → List ℕ → Bool
names_match forward reverse = bytes_eq (name_of Forward forward) (name_of Reverse reverse)

-- the names of two mates
pub record MateNames : Type 0 where
  pub forward : List ℕ
  pub reverse : List ℕ

-- the names in two titles
abbrev pub names_in : List ℕ → List ℕ → MateNames
names_in forward reverse =
    record { forward = name_of Forward forward; reverse = name_of Reverse reverse }

-- the names of a pair
abbrev pub mate_names : Mates → MateNames
mate_names m = names_in m.forward.title m.reverse.title

-- the lengths of the names in two titles
abbrev pub lengths_of : List ℕ → List ℕ → NameLengths
lengths_of forward reverse = record {
  forward = length (name_of Forward forward);
  reverse = length (name_of Reverse reverse);
}

-- the lengths of the names of two mates
abbrev pub name_lengths : Mates → NameLengths
name_lengths m = lengths_of m.forward.title m.reverse.title
