-- The ranges of the numeric settings of a run.
use Rattle.std.specs.Prelude.{ℕ, Bool, ◌&&◌, nat_le}

-- from 1 to `most`
abbrev pub within : ℕ → ℕ → Bool
within most number = nat_le 1 number && nat_le number most
