-- Serves proofs alone: the raw number of the digits of a text.
use Rattle.std.proofs.Common.{◌≡◌, ℕ, suc, ◌+◌, ◌*◌, ◌/◌, ◌^◌, ◌≤◌, Bool, true, false, cond, ◌&&◌, pos, neg_ℤ, List, [], ◌∷◌, ◌++◌, length, Some}
use Rattle.std.proofs.Common.{None, option_map, refl, sym, ap, ◌∙◌, arith}
use Rattle.std.specs.Char.{digit_value}
use Rattle.std.specs.Str.Parse.{digits_value, digits_value_after}
use Rattle.std.proofs.lemmas.Bool.{and_parts, leb-true}
use Rattle.std.proofs.Math.Nat.{pow-succ', add-mul, mul_assoc}
use Rattle.fixed_box.specs.declared.parsing.Decimal.{Decimal}
use Rattle.fixed_box.specs.Fix.{Digits, is_numeral, digits_of_parts, nearest_raw, number_of, within_range, fix_of_digits}
use Rattle.fixed_box.specs.Decimal.{decimal_of, magnitude_of}
use Rattle.fixed_box.specs.RoundingLaws.{rounded_parts, nearest_negative, power_positive}

pub value_append : (n : ℕ) (xs ys : List ℕ) → digits_value_after 10 n (xs ++ ys) ≡ digits_value_after 10 (digits_value_after 10 n xs) ys
value_append n [] ys = refl
value_append n (x ∷ xs) ys = value_append (n * 10 + digit_value x) xs ys

pub value_shift : (n : ℕ) (ds : List ℕ) → digits_value_after 10 n ds ≡ n * 10 ^ length ds + digits_value 10 ds
value_shift n [] = omega arith
value_shift n (d ∷ ds) =
    let after_n : digits_value_after 10 n (d ∷ ds) ≡ (n * 10 + digit_value d) * 10 ^ length ds + digits_value 10 ds = value_shift (n * 10 + digit_value d) ds in
    let after_zero : digits_value 10 (d ∷ ds) ≡ (0 * 10 + digit_value d) * 10 ^ length ds + digits_value 10 ds = value_shift (0 * 10 + digit_value d) ds in
    shifted n (digit_value d) (length ds) (digits_value 10 ds) _ _ after_n after_zero
  where
    shifted : (n d k v x y : ℕ) → x ≡ (n * 10 + d) * 10 ^ k + v → y ≡ (0 * 10 + d) * 10 ^ k + v → x ≡ n * 10 ^ suc k + y
    shifted n d k v x y e f = omega (arith, e, f, add-mul (n * 10) d (10 ^ k), mul_assoc n 10 (10 ^ k), ap (λ p. n * p) (pow-succ' 10 k))

pub number_of-digits : (d : Digits) → number_of d ≡ digits_value 10 d.whole * 10 ^ length d.fraction + digits_value 10 d.fraction
number_of-digits d = value_append 0 d.whole d.fraction ∙ value_shift (digits_value 10 d.whole) d.fraction

-- the magnitude is that of the number which all digits form
pub magnitude_is : (d : Digits) → (131072 * number_of d + 10 ^ length d.fraction) / (2 * 10 ^ length d.fraction) ≡ magnitude_of (decimal_of d)
magnitude_is d =
    ap (λ n. (131072 * n + 10 ^ length d.fraction) / (2 * 10 ^ length d.fraction)) (number_of-digits d)
    ∙ rounded_parts (digits_value 10 d.whole) (digits_value 10 d.fraction) (10 ^ length d.fraction) (power_positive (length d.fraction))

few_alone : (ds : List ℕ) (b : Bool) (d : Digits) → cond b (Some (record { whole = ds; fraction = [] })) None ≡ Some d → length d.fraction ≤ 9
few_alone ds true d e = let same : record { whole = ds; fraction = [] } ≡ d = cc in omega (arith, ap (λ d. length d.fraction) same)
few_alone ds false d e = absurd (cc)

numeral_few : (fs : List ℕ) → is_numeral 9 fs ≡ true → length fs ≤ 9
numeral_few fs t = leb-true (length fs) 9 (and_parts _ _ (and_parts _ _ t).0).1

few_behind : (ds fs : List ℕ) (b : Bool) (d : Digits) → (t : Bool) → is_numeral 9 fs ≡ t → cond (b && t) (Some (record { whole = ds; fraction = fs })) None
    ≡ Some d → length d.fraction ≤ 9
few_behind ds fs true d true t e = let same : record { whole = ds; fraction = fs } ≡ d = cc in omega (arith, numeral_few fs t, ap (λ d. length d.fraction) same)
few_behind ds fs true d false t e = absurd (cc)
few_behind ds fs false d b t e = absurd (cc)

-- at most nine digits stand behind the point
pub places_few : (parts : List (List ℕ)) (d : Digits) → digits_of_parts parts ≡ Some d → length d.fraction ≤ 9
places_few [] d e = absurd (cc)
places_few (ds ∷ []) d e = few_alone ds (is_numeral 10 ds) d e
places_few (ds ∷ fs ∷ []) d e = few_behind ds fs (is_numeral 10 ds) d (is_numeral 9 fs) refl e
places_few (ds ∷ fs ∷ gs ∷ more) d e = absurd (cc)

nearest_of_sign : (negative : Bool) (n k : ℕ) → k ≤ 9 → nearest_raw (cond negative (neg_ℤ (pos n)) (pos n)) k
    ≡ cond negative (neg_ℤ (pos ((131072 * n + 10 ^ k) / (2 * 10 ^ k)))) (pos ((131072 * n + 10 ^ k) / (2 * 10 ^ k)))
nearest_of_sign true n k few = nearest_negative n k few
nearest_of_sign false n k few = refl

pub signed_fix : (negative : Bool) (parts : List (List ℕ)) (number : Decimal) (m : ℕ) → Some number ≡ option_map decimal_of (digits_of_parts parts)
    → m ≡ magnitude_of number
    → within_range (cond negative (neg_ℤ (pos m)) (pos m)) ≡ fix_of_digits negative (digits_of_parts parts)
signed_fix negative parts number m e is =
    elim (digits_of_parts parts) as (λ o. digits_of_parts parts ≡ o → Some number ≡ option_map decimal_of o
    → within_range (cond negative (neg_ℤ (pos m)) (pos m)) ≡ fix_of_digits negative o) [
      | None ↦ λ _ none. absurd (cc)
      | Some d ↦ λ found some.
          let same : number ≡ decimal_of d = cc in
          let size : m ≡ (131072 * number_of d + 10 ^ length d.fraction) / (2 * 10 ^ length d.fraction) = is ∙ ap magnitude_of same ∙ sym (magnitude_is d) in
          ap within_range (ap (λ m. cond negative (neg_ℤ (pos m)) (pos m)) size
          ∙ sym (nearest_of_sign negative (number_of d) (length d.fraction) (places_few parts d found)))
    ] refl e
