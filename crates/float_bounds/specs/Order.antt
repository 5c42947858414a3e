-- Floats against each other, by their values.
use Rattle.std.specs.Prelude.{ℕ, Bool, false, ◌&&◌, ℤ, int_le, Result, Ok, Err, List, slice_index}
use Rattle.float_bounds.specs.declared.float_fault.FloatFault.{FloatFault}
use Rattle.float_bounds.specs.declared.format.Format.{Format}
use Rattle.float_bounds.specs.Value.{value}

-- one value is at most another, and a fault is at most nothing and nothing at most it
abbrev pub value_le : Result ℤ FloatFault → Result ℤ FloatFault → Bool
value_le (Ok v) (Ok w) = int_le v w
value_le (Ok v) (Err _) = false
value_le (Err _) w = false

-- One finite float is at most another (IEEE 754-2019, 5.11). The two zeros are equal.
abbrev pub float_le : Format → ℕ → ℕ → Bool
float_le f a b = value_le (value f a) (value f b)

-- three floats are each at most those of another point
abbrev pub corner_le : Format → List ℕ → List ℕ → Bool
corner_le f p q =
    float_le f (slice_index p 0) (slice_index q 0) && float_le f (slice_index p 1) (slice_index q 1) && float_le f (slice_index p 2) (slice_index q 2)

-- closed boxes of floats have a common point exactly where their intervals overlap on each axis
abbrev pub floats_meet : Format → List ℕ → List ℕ → List ℕ → List ℕ → Bool
floats_meet f lo hi other_lo other_hi = corner_le f lo other_hi && corner_le f other_lo hi
