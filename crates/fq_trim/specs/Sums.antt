-- Sums of counts.
use Rattle.std.specs.Prelude.{ℕ, ◌+◌, min}

-- a sum, saturated at the largest count
abbrev pub capped_sum : ℕ → ℕ → ℕ
capped_sum a b = min (a + b) 18446744073709551615
