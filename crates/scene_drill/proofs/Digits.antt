-- The value of decimal digits, digit by digit, and how large it is.
use Rattle.std.proofs.Common.{◌≡◌, ℕ, ◌+◌, ◌-◌, ◌*◌, ◌^◌, ◌<◌, ◌≤◌, ◌&&◌, true, false, cond, nat_le, List, [], ◌∷◌, length, take}
use Rattle.std.proofs.Common.{get_or, lit<, arith, add-one, refl, sym, ap, ◌∙◌, ⊎_elim}
use Rattle.std.specs.Char.{is_ascii_digit, digit_value}
use Rattle.std.specs.List.{list_all}
use Rattle.std.specs.Str.Parse.{digits_value, AllDigits}
use Rattle.std.proofs.Math.Nat.{pow-le-pow_right, pow-succ'}
use Rattle.std.proofs.lemmas.Bool.{cases_lt}
use Rattle.std.proofs.lemmas.Bool.Decides.{nat_tests}
use Rattle.std.proofs.lemmas.Int.Digits.{digits_value_more, digits_value-lt}
use Rattle.std.proofs.lemmas.List.Folds.{list_all_more}
use Rattle.std.proofs.lemmas.Str.{digit_value_digit}
use Rattle.scene_drill.specs.Summary.{number}

-- a decimal digit stands 48 above its value, which is below ten
is_value : (b : ℕ) → is_ascii_digit b ≡ true → (digit_value b + 48 ≡ b) × (digit_value b < 10)
is_value b h =
    let low : 48 ≤ b = grind (arith, nat_tests) in
    let high : b ≤ 57 = grind (arith, nat_tests) in
    let value : digit_value b + 48 ≡ b = digit_value_digit b (low, high) in
    (value, omega arith)

-- the value of the first digits of a word
pub record IsValue (sum n : ℕ) (word : List ℕ) : Type 0 where
  pub value : sum ≡ digits_value 10 (take n word)
  pub digits : list_all is_ascii_digit (take n word) ≡ true
  pub small : sum < 10 ^ n

-- one digit more
pub one_more : (value digit b n : ℕ) (word : List ℕ) → IsValue value n word → n < length word → b ≡ get_or word n 0 → is_ascii_digit b ≡ true
    → digit ≡ b - 48 → IsValue (value * 10 + digit) (n + 1) word
one_more value digit b n word so_far within is_b ascii is_digit =
    let known = is_value b ascii in
    let same : digit ≡ digit_value (get_or word n 0) = omega (arith, known.0, is_digit) ∙ ap digit_value is_b in
    let power : 10 ^ (n + 1) ≡ 10 * 10 ^ n = ap (λ k. 10 ^ k) (add-one n) ∙ pow-succ' 10 n in
    record {
      value = ap (λ v. v * 10 + digit) so_far.value ∙ ap (λ d. digits_value 10 (take n word) * 10 + d) same ∙ sym (digits_value_more 10 word n within);
      digits = list_all_more is_ascii_digit word n 0 within ∙ ap (λ t. t && is_ascii_digit (get_or word n 0)) so_far.digits
          ∙ ap is_ascii_digit (sym is_b) ∙ ascii;
      small = omega (arith, so_far.small, power, known.0, known.1, is_digit);
    }

digits_from : (word : List ℕ) → list_all is_ascii_digit word ≡ true → AllDigits 10 word
digits_from [] h = tt
digits_from (b ∷ bs) h =
    elim (is_ascii_digit b) as (λ t. is_ascii_digit b ≡ t → (t && list_all is_ascii_digit bs) ≡ true → AllDigits 10 (b ∷ bs)) [
      | true ↦ λ here h. ((is_value b here).1, digits_from bs h)
      | false ↦ λ here h. absurd (cc)
    ] refl h

at_most : (n most : ℕ) → n ≤ most → 10 ^ n ≤ 10 ^ most
at_most n most h = pow-le-pow_right (lit< tt) h

-- a number is one that its digits leave room for
pub number-le : (word : List ℕ) → number word ≤ (length word + 1) * 2 ^ 64
number-le word =
    elim (nat_le (length word) 20) as (λ t. nat_le (length word) 20 ≡ t
    → cond (t && list_all is_ascii_digit word) (digits_value 10 word) 0 ≤ (length word + 1) * 2 ^ 64) [
      | false ↦ λ _. omega arith
      | true ↦ λ short.
          elim (list_all is_ascii_digit word) as (λ t. list_all is_ascii_digit word ≡ t → cond t (digits_value 10 word) 0 ≤ (length word + 1) * 2 ^ 64) [
            | false ↦ λ _. omega arith
            | true ↦ λ all.
                let few : length word ≤ 20 = grind (arith, nat_tests) in
                let below : digits_value 10 word < 10 ^ length word = digits_value-lt 10 word (digits_from word all) in
                ⊎_elim
                (λ less. omega (arith, below, at_most (length word) 19 (omega arith)))
                (λ more. omega (arith, below, at_most (length word) 20 few))
                (cases_lt (length word) 20)
          ] refl
    ] refl
