-- Floats rounded to raw numbers.
use Rattle.std.specs.Prelude.{ℕ, ◌&&◌, ℤ, pos, negsuc, neg_ℤ, int_le, Result, Ok, Err, if◌then◌else◌}
use Rattle.fixed_box.specs.Fix.{floor_div}
use Rattle.float_bounds.specs.declared.float_fault.FloatFault.{FloatFault}
use Rattle.float_bounds.specs.declared.float_fault.FloatFault.TheVariants.{OutOfRange}
use Rattle.float_bounds.specs.declared.format.Format.{Format}
use Rattle.float_bounds.specs.Format.{raw_step}
use Rattle.float_bounds.specs.Value.{and_then, value}

-- an integer divided by a positive number, rounded up
abbrev pub ceil_div : ℤ → ℕ → ℤ
ceil_div z d = neg_ℤ (floor_div (neg_ℤ z) d)

-- a raw number of 32 bits with a sign
abbrev pub within_range : ℤ → Result ℤ FloatFault
within_range r = if int_le (negsuc 2147483647) r && int_le r (pos 2147483647) then Ok r else Err OutOfRange

-- The greatest raw number that is at most the float: it is rounded toward the lower side.
abbrev pub fix_below : Format → ℕ → Result ℤ FloatFault
fix_below f bits = and_then (λ v. within_range (floor_div v (raw_step f))) (value f bits)

-- The least raw number that is at least the float: it is rounded toward the upper side.
abbrev pub fix_above : Format → ℕ → Result ℤ FloatFault
fix_above f bits = and_then (λ v. within_range (ceil_div v (raw_step f))) (value f bits)
