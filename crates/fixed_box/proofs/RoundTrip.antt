-- What is printed reads back.
use Rattle.std.proofs.Common.{◌≡◌, ℕ, zero, suc, ◌+◌, ◌*◌, ◌/◌, ◌%◌, ◌^◌, ◌<◌, ◌≤◌, Bool, true, false, cond, ◌&&◌, ◌==◌, ℤ, pos, negsuc}
use Rattle.std.proofs.Common.{neg_ℤ, ◌≤ℤ◌, List, [], ◌∷◌, ◌++◌, length, decimal, Some, None, Ok, refl, ap, ◌∙◌, arith}
use Rattle.std.specs.List.{All}
use Rattle.std.specs.Char.{is_ascii_digit, digit_value}
use Rattle.std.specs.Str.{all_ascii_digits}
use Rattle.std.specs.Str.Parse.{digits_value}
use Rattle.std.proofs.lemmas.Bool.{and_parts}
use Rattle.std.proofs.lemmas.List.{length-append}
use Rattle.std.proofs.lemmas.List.Elements.{All-nil, All-cons, All-append}
use Rattle.std.proofs.lemmas.Bool.Decides.{nat_tests}
use Rattle.std.proofs.lemmas.Int.{ints}
use Rattle.std.proofs.lemmas.Int.Digits.{digits_value_push}
use Rattle.std.proofs.lemmas.Fmt.{digits_decimal, digits_value-decimal, decimal_nonempty, length-decimal-le}
use Rattle.std.proofs.lemmas.Str.Parse.{IsNumeralModel, numerals_by_value, tells_all_ascii_digits}
use Rattle.std.proofs.Math.Nat.{pow-suc}
use Rattle.fixed_box.specs.Fix.{Digits, is_numeral, digits_of_text, digits_of_parts, nearest_raw, number_of, within_range, fix_of_digits, fix, show}
use Rattle.fixed_box.specs.Fix.{show_magnitude, last_digits, hundred_thousandths}
use Rattle.fixed_box.specs.DigitLaws.{digits_push, is_numeral_from, within, split_digits, split_alone}
use Rattle.fixed_box.specs.MagnitudeLaws.{number_of-digits}
use Rattle.fixed_box.specs.RoundingLaws.{nearest_negative}
use Rattle.fixed_box.proofs.Shown.{length-last_digits, length_units}

last_digit : (n : ℕ) → is_ascii_digit (48 + n % 10) ≡ true
last_digit n = let small : n % 10 < 10 = omega arith in grind (arith, nat_tests)

last_value : (n : ℕ) → digit_value (48 + n % 10) ≡ n % 10
last_value n = let small : n % 10 < 10 = omega arith in grind (arith, nat_tests)

last_digits_all : (count n : ℕ) → all_ascii_digits (last_digits count n) ≡ true
last_digits_all zero n = refl
last_digits_all (suc count) n = digits_push (last_digits count (n / 10)) (48 + n % 10) (last_digits_all count (n / 10)) (last_digit n)

last_digits_value : (count n : ℕ) → n < 10 ^ count → digits_value 10 (last_digits count n) ≡ n
last_digits_value zero n small = omega arith
last_digits_value (suc count) n small =
    digits_value_push 10 (last_digits count (n / 10)) (48 + n % 10)
    ∙ omega (arith, last_digits_value count (n / 10) (omega (arith, pow-suc 10 count)), last_value n)

own : IsNumeralModel (λ ds. all_ascii_digits ds ≡ true) (digits_value 10)
own = numerals_by_value (λ ds. all_ascii_digits ds ≡ true) tells_all_ascii_digits

abbrev shown_digits : ℕ → Digits
shown_digits q = record { whole = decimal (q / 100000); fraction = last_digits 5 (q % 100000) }

-- the digits of a printed magnitude are found again
digits_shown : (q : ℕ) → q < 2 ^ 32 → digits_of_text (show_magnitude q) ≡ Some (shown_digits q)
digits_shown q small =
    let units : q / 100000 < 10 ^ 5 = omega arith in
    let whole : is_numeral 10 (decimal (q / 100000)) ≡ true = is_numeral_from 10 (decimal (q / 100000)) (decimal_nonempty (q / 100000) (omega arith))
    (omega (arith, length-decimal-le 5 (q / 100000) (omega arith) units (omega arith))) (digits_decimal own (q / 100000) (omega arith)) in
    let fraction : is_numeral 9 (last_digits 5 (q % 100000)) ≡ true =
    is_numeral_from 9 (last_digits 5 (q % 100000)) (omega (arith, length-last_digits 5 (q % 100000))) (omega (arith, length-last_digits 5 (q % 100000)))
    (last_digits_all 5 (q % 100000)) in
    ap digits_of_parts (split_digits (decimal (q / 100000)) (last_digits 5 (q % 100000)) (digits_decimal own (q / 100000) (omega arith))
    ∙ ap (λ ps. decimal (q / 100000) ∷ ps) (split_alone (last_digits 5 (q % 100000)) (last_digits_all 5 (q % 100000))))
    ∙ ap (λ t. cond (t && is_numeral 9 (last_digits 5 (q % 100000))) (Some (shown_digits q)) None) whole
    ∙ ap (λ t. cond t (Some (shown_digits q)) None) fraction

number_shown : (q : ℕ) → q < 2 ^ 32 → number_of (shown_digits q) ≡ q
number_shown q small =
    let units : digits_value 10 (decimal (q / 100000)) ≡ q / 100000 = digits_value-decimal own (q / 100000) (omega arith) in
    let rest : digits_value 10 (last_digits 5 (q % 100000)) ≡ q % 100000 = last_digits_value 5 (q % 100000) (omega arith) in
    number_of-digits (shown_digits q) ∙ ap (λ u. u * 100000 + digits_value 10 (last_digits 5 (q % 100000))) units ∙ ap (λ f. q / 100000 * 100000 + f) rest
    ∙ omega arith

-- hundred-thousandths are fine enough to tell raw numbers apart
rounds_back : (a : ℕ) → (131072 * hundred_thousandths a + 100000) / 200000 ≡ a
rounds_back a = omega arith

-- a text that begins with a digit has no sign
unsigned_fix : (ds text : List ℕ) → 0 < length ds → all_ascii_digits ds ≡ true → fix (ds ++ text) ≡ fix_of_digits false (digits_of_text (ds ++ text))
unsigned_fix [] text some h = absurd (omega arith)
unsigned_fix (d ∷ ds) text some h =
    let digit = (and_parts (is_ascii_digit d) (all_ascii_digits ds) h).0 in
    let no_sign : (d == 45) ≡ false = grind (arith, nat_tests) in
    ap (λ t. cond t (fix_of_digits true (digits_of_text (ds ++ text))) (fix_of_digits false (digits_of_text (d ∷ (ds ++ text))))) no_sign

back : (negative : Bool) (a : ℕ) → a ≤ 2 ^ 31 → fix_of_digits negative (digits_of_text (show_magnitude (hundred_thousandths a)))
    ≡ within_range (cond negative (neg_ℤ (pos a)) (pos a))
back true a small =
    let q = hundred_thousandths a in
    ap (fix_of_digits true) (digits_shown (hundred_thousandths a) (omega arith))
    ∙ ap within_range (ap (λ n. nearest_raw (neg_ℤ (pos n)) 5) (number_shown (hundred_thousandths a) (omega arith))
    ∙ nearest_negative (hundred_thousandths a) 5 (omega arith) ∙ ap (λ n. neg_ℤ (pos n)) (rounds_back a))
back false a small =
    ap (fix_of_digits false) (digits_shown (hundred_thousandths a) (omega arith))
    ∙ ap within_range (ap (λ n. nearest_raw (pos n) 5) (number_shown (hundred_thousandths a) (omega arith)) ∙ ap pos (rounds_back a))

pub round_trip : (r : ℤ) → negsuc 2147483647 ≤ℤ r → r ≤ℤ pos 2147483647 → fix (show r) ≡ Ok r
round_trip (pos a) low high =
    let size : a ≤ 2147483647 = omega (arith, ints) in
    let units : hundred_thousandths a / 100000 < 2 ^ 64 = omega arith in
    unsigned_fix (decimal (hundred_thousandths a / 100000)) (46 ∷ last_digits 5 (hundred_thousandths a % 100000)) (decimal_nonempty _ units)
    (digits_decimal own _ units)
    ∙ back false a (omega arith) ∙ within (pos a) low high
round_trip (negsuc a) low high =
    let size : a ≤ 2147483647 = omega (arith, ints) in
    back true (suc a) (omega arith) ∙ within (negsuc a) low high

abbrev IsPlain : ℕ → Type 0
IsPlain b = (45 ≤ b) × (b ≤ 57)

plain_digits : (ds : List ℕ) → all_ascii_digits ds ≡ true → All IsPlain ds
plain_digits [] h = All-nil IsPlain
plain_digits (d ∷ ds) h =
    let parts = and_parts (is_ascii_digit d) (all_ascii_digits ds) h in
    let low : 45 ≤ d = (let digit = parts.0 in grind (arith, nat_tests)) in
    let high : d ≤ 57 = (let digit = parts.0 in grind (arith, nat_tests)) in
    All-cons IsPlain d ds (low, high) (plain_digits ds parts.1)

plain_magnitude : (q : ℕ) → q < 2 ^ 32 → All IsPlain (show_magnitude q)
plain_magnitude q small =
    All-append IsPlain (decimal (q / 100000)) (46 ∷ last_digits 5 (q % 100000))
    (plain_digits (decimal (q / 100000)) (digits_decimal own (q / 100000) (omega arith)))
    (All-cons IsPlain 46 (last_digits 5 (q % 100000)) (omega arith, omega arith) (plain_digits (last_digits 5 (q % 100000)) (last_digits_all 5 (q % 100000))))

-- a printed number has no other bytes
pub shown_bytes : (r : ℤ) → negsuc 2147483647 ≤ℤ r → r ≤ℤ pos 2147483647 → All (λ b. (45 ≤ b) × (b ≤ 57)) (show r)
shown_bytes (pos a) low high = let size : a ≤ 2147483647 = omega (arith, ints) in plain_magnitude (hundred_thousandths a) (omega arith)
shown_bytes (negsuc a) low high =
    let size : a ≤ 2147483647 = omega (arith, ints) in
    All-cons IsPlain 45 (show_magnitude (hundred_thousandths (suc a))) (omega arith, omega arith) (plain_magnitude (hundred_thousandths (suc a)) (omega arith))

-- a magnitude of 32 bits is printed in at most five digits, the point and five digits more
magnitude_short : (a : ℕ) → a ≤ 2 ^ 31 → length (show_magnitude (hundred_thousandths a)) ≤ 11
magnitude_short a small =
    omega (
      arith,
      length-append (decimal (hundred_thousandths a / 100000)) (46 ∷ last_digits 5 (hundred_thousandths a % 100000)),
      length_units a small,
      length-last_digits 5 (hundred_thousandths a % 100000),
    )

-- a printed number is short
pub shown_short : (r : ℤ) → negsuc 2147483647 ≤ℤ r → r ≤ℤ pos 2147483647 → length (show r) ≤ 12
shown_short (pos a) low high = let size : a ≤ 2147483647 = omega (arith, ints) in omega (arith, magnitude_short a (omega arith))
shown_short (negsuc a) low high = let size : a ≤ 2147483647 = omega (arith, ints) in omega (arith, magnitude_short (suc a) (omega arith))
