-- How Linux numbers devices.
use Rattle.std.specs.Prelude.{ℕ, ◌+◌, ◌*◌, ◌/◌, ◌%◌, ◌^◌}

-- the device number of a major and a minor number: from the low end 8 bits of the minor number, 12
-- bits of the major number, and the other bits of both
abbrev pub device_of : ℕ → ℕ → ℕ
device_of major minor =
    minor % 2 ^ 8 + 2 ^ 8 * (major % 2 ^ 12) + 2 ^ 20 * (minor / 2 ^ 8) + 2 ^ 44 * (major / 2 ^ 12)
