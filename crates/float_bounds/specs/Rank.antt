-- Serves proofs alone: by what the code compares floats.
use Rattle.std.specs.Prelude.{ℕ, ◌+◌, ◌%◌, ◌^◌, ℤ}
use Rattle.float_bounds.specs.declared.format.Format.{Format}
use Rattle.float_bounds.specs.Value.{signed, is_negative}

-- A float's bits below the sign, as a whole number behind it. Finite floats are ordered as these are.
abbrev pub rank : Format → ℕ → ℤ
rank f bits = signed (is_negative f bits) (bits % 2 ^ (f.exponent_bits + f.fraction_bits))
