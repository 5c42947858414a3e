-- What the bits of a float stand for (IEEE 754-2019, 3.4). Each finite number of a format is a whole multiple of its least
-- positive number, so values are whole numbers here: so many least numbers.
use Rattle.std.specs.Prelude.{ℕ, ◌+◌, ◌-◌, ◌*◌, ◌/◌, ◌%◌, ◌^◌, Bool, ◌==◌, ℤ, pos, neg_ℤ, Result, Ok, Err}
use Rattle.std.specs.Prelude.{if◌then◌else◌}
use Rattle.float_bounds.specs.declared.float_fault.FloatFault.{FloatFault}
use Rattle.float_bounds.specs.declared.float_fault.FloatFault.TheVariants.{NotANumber, OutOfRange}
use Rattle.float_bounds.specs.declared.format.Format.{Format}
use Rattle.float_bounds.specs.declared.parts.FloatParts.{FloatParts}

-- the lowest bits, the trailing significand
abbrev pub fraction_of : Format → ℕ → ℕ
fraction_of f bits = bits % 2 ^ f.fraction_bits

-- the bits above them, the biased exponent
abbrev pub biased_exponent : Format → ℕ → ℕ
biased_exponent f bits = bits / 2 ^ f.fraction_bits % 2 ^ f.exponent_bits

-- the bit above these, the sign
abbrev pub is_negative : Format → ℕ → Bool
is_negative f bits = bits / 2 ^ (f.exponent_bits + f.fraction_bits) % 2 == 1

-- The significand: under the biased exponent 0 it is the trailing one (the number is zero or subnormal), else a bit that is not
-- stored stands above that.
abbrev pub significand_of : Format → ℕ → ℕ
significand_of f bits = if biased_exponent f bits == 0 then fraction_of f bits else 2 ^ f.fraction_bits + fraction_of f bits

-- The exponent over that of the least number. The biased exponents 0 and 1 have the same, since a difference stops at 0.
abbrev pub exponent_of : Format → ℕ → ℕ
exponent_of f bits = biased_exponent f bits - 1

-- what is done next with an outcome that is no fault
abbrev pub and_then : {A B : Type 0} → (A → Result B FloatFault) → Result A FloatFault → Result B FloatFault
and_then next (Ok a) = next a
and_then next (Err fault) = Err fault

-- The parts of a finite number. Under the greatest biased exponent there is none: an infinity, or a NaN where the trailing significand isn't 0.
abbrev pub parts_of : Format → ℕ → Result FloatParts FloatFault
parts_of f bits =
    if biased_exponent f bits == 2 ^ f.exponent_bits - 1 then Err (if fraction_of f bits == 0 then OutOfRange else NotANumber)
    else Ok (record { negative = is_negative f bits; significand = significand_of f bits; exponent = exponent_of f bits })

-- a magnitude behind its sign
abbrev pub signed : Bool → ℕ → ℤ
signed negative n = if negative then neg_ℤ (pos n) else pos n

-- so many least numbers as parts say
abbrev pub value_of : FloatParts → ℤ
value_of p = signed p.negative (p.significand * 2 ^ p.exponent)

-- The value of a float in least numbers of its format: a whole number, or the fault where the float has none.
abbrev pub value : Format → ℕ → Result ℤ FloatFault
value f bits = and_then (λ p. Ok (value_of p)) (parts_of f bits)
