-- Serves proofs alone: which formats the code takes.
use Rattle.std.specs.Prelude.{◌+◌, ◌≤◌}
use Rattle.float_bounds.specs.declared.format.Format.{Format}

-- the bits fit 64, and a raw unit is a whole number of least numbers
pub record IsNarrow (f : Format) : Type 0 where
  pub bits : f.exponent_bits + f.fraction_bits ≤ 63
  pub exponent : f.exponent_bits ≤ 31
  pub fraction : f.fraction_bits ≤ 62
  pub coarse : 17 ≤ f.bias + f.fraction_bits
  pub bias : f.bias ≤ 1023
