-- Letters of bases, in either case.
use Rattle.std.specs.Prelude.{ℕ, Bool, ◌||◌, ◌==◌}

abbrev pub is_a : ℕ → Bool
is_a base = base == 65 || base == 97

abbrev pub is_c : ℕ → Bool
is_c base = base == 67 || base == 99

abbrev pub is_g : ℕ → Bool
is_g base = base == 71 || base == 103

abbrev pub is_t : ℕ → Bool
is_t base = base == 84 || base == 116

abbrev pub is_n : ℕ → Bool
is_n base = base == 78 || base == 110

-- G or C
abbrev pub is_gc : ℕ → Bool
is_gc base = (base == 71 || base == 67) || (base == 103 || base == 99)
