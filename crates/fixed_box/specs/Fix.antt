-- Coordinates and their text. A raw number r stands for r / 65,536.
use Rattle.std.specs.Prelude.{ℕ, zero, suc, ◌+◌, ◌*◌, ◌/◌, ◌%◌, ◌^◌, Bool, true, false, ◌&&◌, nat_le, ◌==◌, List, [], ◌∷◌, ◌++◌, length, ℤ, pos}
use Rattle.std.specs.Prelude.{negsuc, ◌+ℤ◌, ◌*ℤ◌, neg_ℤ, int_le, Option, Some, None, Result, Ok, Err, if◌then◌else◌, decimal}
use Rattle.std.specs.List.{slice_split}
use Rattle.std.specs.Str.{all_ascii_digits}
use Rattle.std.specs.Str.Parse.{digits_value}
use Rattle.fixed_box.specs.declared.fix_fault.FixFault.{FixFault}
use Rattle.fixed_box.specs.declared.fix_fault.FixFault.TheVariants.{Form, Range}

-- one to `most` decimal digits, and nothing else
abbrev pub is_numeral : ℕ → List ℕ → Bool
is_numeral most ds = nat_le 1 (length ds) && nat_le (length ds) most && all_ascii_digits ds

-- the digits before the point and those behind it
pub record Digits : Type 0 where
  pub whole : List ℕ
  pub fraction : List ℕ

-- One to ten digits, and after a point one to nine. None of any other parts between points.
abbrev pub digits_of_parts : List (List ℕ) → Option Digits
digits_of_parts [] = None
digits_of_parts (whole ∷ []) = if is_numeral 10 whole then Some (record { whole = whole; fraction = [] }) else None
digits_of_parts (whole ∷ fraction ∷ []) = if is_numeral 10 whole && is_numeral 9 fraction then Some (record { whole = whole; fraction = fraction }) else None
digits_of_parts (whole ∷ fraction ∷ _ ∷ _) = None

-- the digits of a text without a sign, which is cut at each point
abbrev pub digits_of_text : List ℕ → Option Digits
digits_of_text text = digits_of_parts (slice_split (λ b. b == 46) text)

-- an integer divided by a positive number, rounded down
abbrev pub floor_div : ℤ → ℕ → ℤ
floor_div (pos a) d = pos (a / d)
floor_div (negsuc a) d = negsuc (a / d)

-- The raw number that is nearest to n / 10 ^ places: floor(65536 x + 1/2) of that number x. No tie arises with up to
-- 16 places, since an odd multiple of 1/131072 needs 17.
abbrev pub nearest_raw : ℤ → ℕ → ℤ
nearest_raw n places = floor_div (pos 131072 *ℤ n +ℤ pos (10 ^ places)) (2 * 10 ^ places)

-- the number that all digits form
abbrev pub number_of : Digits → ℕ
number_of d = digits_value 10 (d.whole ++ d.fraction)

-- a raw number of 32 bits with a sign
abbrev pub within_range : ℤ → Result ℤ FixFault
within_range r = if int_le (negsuc 2147483647) r && int_le r (pos 2147483647) then Ok r else Err Range

-- what the digits say, behind a minus sign or with none
abbrev pub fix_of_digits : Bool → Option Digits → Result ℤ FixFault
fix_of_digits negative None = Err Form
fix_of_digits negative (Some d) = within_range (nearest_raw (if negative then neg_ℤ (pos (number_of d)) else pos (number_of d)) (length d.fraction))

-- What a coordinate's text means: an optional minus sign, one to ten digits, and optionally a point and one to nine digits.
abbrev pub fix : List ℕ → Result ℤ FixFault
fix [] = Err Form
fix (b ∷ rest) = if b == 45 then fix_of_digits true (digits_of_text rest) else fix_of_digits false (digits_of_text (b ∷ rest))

-- the last digits of a number, so many, with leading zeros
abbrev pub last_digits : ℕ → ℕ → List ℕ
last_digits zero n = []
last_digits (suc count) n = last_digits count (n / 10) ++ (48 + n % 10) ∷ []

-- a raw magnitude in hundred-thousandths of a unit, to the nearest
abbrev pub hundred_thousandths : ℕ → ℕ
hundred_thousandths a = (a * 100000 + 32768) / 65536

-- so many hundred-thousandths, with five digits behind the point
abbrev pub show_magnitude : ℕ → List ℕ
show_magnitude q = decimal (q / 100000) ++ 46 ∷ last_digits 5 (q % 100000)

-- The text of a raw number. It reads back as that number.
abbrev pub show : ℤ → List ℕ
show (pos a) = show_magnitude (hundred_thousandths a)
show (negsuc a) = 45 ∷ show_magnitude (hundred_thousandths (suc a))
