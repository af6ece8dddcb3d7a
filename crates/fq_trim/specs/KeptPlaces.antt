-- What steps keep of a read, as the places of its bases.
use Rattle.std.specs.Prelude.{ℕ, ◌-◌, ◌≤◌, Bool, true, false, not, Option, Some, None, List, [], ◌∷◌, map, slice_index}
use Rattle.fq_text.specs.Grammar.{Read}
use Rattle.fq_trim.specs.declared.step.Step.{Step}
use Rattle.fq_trim.specs.declared.trimming.Kept.{Kept}
use Rattle.fq_trim.specs.Keeping.{scores, kept, places}

-- the places of a read that are kept, in rising order
abbrev pub kept_places : List Step → Read → List ℕ
kept_places steps read = kept steps (scores read.encoding read.qual)

abbrev pub is_empty : List ℕ → Bool
is_empty [] = true
is_empty (p ∷ ps) = false

-- whether a base of the read is kept
abbrev pub survives : List Step → Read → Bool
survives steps read = not (is_empty (kept_places steps read))

-- the bytes at these places
abbrev pub bytes_at : List ℕ → List ℕ → List ℕ
bytes_at at bytes = map (slice_index bytes) at

-- the places that a result of trimming keeps
abbrev pub places_of : Option Kept → List ℕ
places_of None = []
places_of (Some k) = places k.start (k.stop - k.start)

-- the kept places are places of n bases
abbrev pub IsWithin : ℕ → Option Kept → Type 0
IsWithin n None = Unit {0}
IsWithin n (Some k) = k.stop ≤ n
