-- The two formats of IEEE 754-2019, 3.4, table 3.5, and what a raw unit is in them.
use Rattle.std.specs.Prelude.{ℕ, ◌+◌, ◌-◌, ◌^◌}
use Rattle.float_bounds.specs.declared.format.Format.{Format}

-- binary32, an engine's `float`
abbrev pub binary32 : Format
binary32 = record { exponent_bits = 8; fraction_bits = 23; bias = 127 }

-- binary64, an engine's `double`
abbrev pub binary64 : Format
binary64 = record { exponent_bits = 11; fraction_bits = 52; bias = 1023 }

-- The least positive number of a format is 2 ^ (1 - bias - fraction_bits), and a raw unit is 2 ^ -16, so that a raw unit has
-- 2 ^ step_bits least numbers.
abbrev pub step_bits : Format → ℕ
step_bits f = f.bias + f.fraction_bits - 17

-- how many least numbers a raw unit has
abbrev pub raw_step : Format → ℕ
raw_step f = 2 ^ step_bits f
