-- Serves proofs alone: parts of a number, at the front of a text.
use Rattle.std.specs.Prelude.{◌≡◌, ℕ, ◌≤◌, ◌<◌, ◌^◌, ◌+◌, ◌-◌, ◌*◌, ◌/◌, ◌%◌, Bool, true, false, List, length, take, slice_index, pos, neg_ℤ, Ok, All}
use Rattle.std.specs.Prelude.{if◌then◌else◌}
use Rattle.std.specs.Char.{is_ascii_digit, is_digit, digit_value}
use Rattle.std.specs.Str.{all_ascii_digits}
use Rattle.std.specs.Str.Parse.{digits_value}
use Rattle.fixed_box.specs.Fix.{fix_of_digits, digits_of_text}

-- the first digits, so many and no more, form a whole number that is well within range
pub record IsWholeFront (text : List ℕ) (whole len : ℕ) : Type 0 where
  pub some : 0 < len
  pub few : len ≤ 9
  pub within : len ≤ length text
  pub digits : all_ascii_digits (take len text) ≡ true
  pub value : whole ≡ digits_value 10 (take len text)
  pub longest : len < length text → is_ascii_digit (slice_index text len) ≡ false
  pub small : whole < 32767

-- the first digits, so many and no more, are a fraction with this nearest raw number
pub record IsFractionFront (text : List ℕ) (raw len : ℕ) : Type 0 where
  pub some : 0 < len
  pub few : len ≤ 9
  pub within : len ≤ length text
  pub digits : all_ascii_digits (take len text) ≡ true
  pub nearest : raw ≡ (digits_value 10 (take len text) * 131072 + 10 ^ len) / (2 * 10 ^ len)
  pub longest : len < length text → is_ascii_digit (slice_index text len) ≡ false
  pub small : raw ≤ 65536

-- the first bytes, so many, are the text of a raw magnitude
pub record IsMagnitude (text : List ℕ) (magnitude len : ℕ) : Type 0 where
  pub within : len ≤ length text
  pub value : (negative : Bool) → fix_of_digits negative (digits_of_text (take len text)) ≡ Ok (if negative then neg_ℤ (pos magnitude) else pos magnitude)
  pub plain : All (λ b. (46 ≤ b) × (b ≤ 57)) (take len text)
  pub small : magnitude < 2 ^ 31

-- the same where no digit follows
pub record IsMagnitudeFront (text : List ℕ) (magnitude len : ℕ) : Type 0 where
  pub is : IsMagnitude text magnitude len
  pub longest : len < length text → is_ascii_digit (slice_index text len) ≡ false

-- the word of four bytes, the first of which is the lowest
abbrev pub four_of : (a b c d : ℕ) → ℕ
four_of a b c d = ((d * 256 + c) * 256 + b) * 256 + a

-- the bytes of a word are the values of digits
pub record AreDigits (values : ℕ) : Type 0 where
  pub a : ℕ
  pub b : ℕ
  pub c : ℕ
  pub d : ℕ
  pub small : (a ≤ 9) × (b ≤ 9) × (c ≤ 9) × (d ≤ 9)
  pub is : values ≡ four_of a b c d

-- a word less four zeros as digits, and the same moved up so far that so many of its first bytes stand last
abbrev pub values_of : ℕ → ℕ
values_of word = (word + (2 ^ 32 - 0x30303030)) % 2 ^ 32

abbrev pub aligned : ℕ → ℕ → ℕ
aligned word len = values_of word * 2 ^ (32 - 8 * len) % 2 ^ 32

-- four bytes are hexadecimal digits, which form a number
pub record AreHexadecimal (p q r s number : ℕ) : Type 0 where
  pub first : is_digit p 16 ≡ true
  pub second : is_digit q 16 ≡ true
  pub third : is_digit r 16 ≡ true
  pub fourth : is_digit s 16 ≡ true
  pub value : number ≡ ((digit_value p * 16 + digit_value q) * 16 + digit_value r) * 16 + digit_value s
