-- What a file system holds: for each file, by its key, its bytes, if it is there.
use Rattle.std.specs.Prelude.{◌≡◌, ◌≢◌, ℕ, Option, IsSome, List}

-- the bytes of each file
abbrev pub Holding : Type 0
Holding = List ℕ → Option (List ℕ)

-- nothing has changed
abbrev pub IsUnchanged : Holding → Holding → Type 0
IsUnchanged old new = (file : List ℕ) → new file ≡ old file

-- every file but this one has what it had
abbrev pub KeepsOthers : Holding → Holding → List ℕ → Type 0
KeepsOthers old new file = (other : List ℕ) → other ≢ file → new other ≡ old other

-- no file is removed
abbrev pub KeepsFiles : Holding → Holding → Type 0
KeepsFiles old new = (file : List ℕ) → IsSome (old file) → IsSome (new file)
