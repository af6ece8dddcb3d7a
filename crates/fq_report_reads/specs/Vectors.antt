-- Bytes in a vector.
use Rattle.std.specs.Prelude.{◌≡◌, ℕ, List}
use Rattle.std.specs.List.{sum_by}

-- The vector holds these bytes, and zeros beside them: each sum over it in which a zero counts
-- nothing is the sum over the bytes.
abbrev pub Holds : List ℕ → List ℕ → Type 0
Holds bytes vector = (f : ℕ → ℕ) → f 0 ≡ 0 → sum_by f vector ≡ sum_by f bytes
