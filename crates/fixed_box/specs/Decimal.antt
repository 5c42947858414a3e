-- Serves proofs alone: numbers without a sign, as `read_fix` holds them while it reads.
use Rattle.std.specs.Prelude.{ℕ, ◌+◌, ◌*◌, ◌/◌, ◌^◌, ◌<◌, ◌≤◌, List, length, Option, Some, None, if◌then◌else◌}
use Rattle.std.specs.Str.Parse.{digits_value}
use Rattle.fixed_box.specs.declared.parsing.Decimal.{Decimal}
use Rattle.fixed_box.specs.Fix.{Digits, is_numeral}

-- the number that digits form
abbrev pub decimal_of : Digits → Decimal
decimal_of d = record { whole = digits_value 10 d.whole; fraction = digits_value 10 d.fraction; scale = 10 ^ length d.fraction }

-- a whole part with the digits behind its point, of which there are one to nine
abbrev pub with_fraction : ℕ → List ℕ → Option Decimal
with_fraction whole ds = if is_numeral 9 ds then Some (record { whole = whole; fraction = digits_value 10 ds; scale = 10 ^ length ds }) else None

-- the nearest raw magnitude
abbrev pub magnitude_of : Decimal → ℕ
magnitude_of d = d.whole * 65536 + (d.fraction * 131072 + d.scale) / (2 * d.scale)

-- at most ten digits before the point, and nine behind it
pub record IsSized (d : Decimal) : Type 0 where
  pub whole : d.whole < 10 ^ 10
  pub fraction : d.fraction < d.scale
  pub scale : d.scale ≤ 10 ^ 9
