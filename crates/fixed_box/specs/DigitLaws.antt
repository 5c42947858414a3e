-- Serves proofs alone: digits in a text, and what a text of digits around a point is cut into.
use Rattle.std.proofs.Common.{◌≡◌, ℕ, ◌-◌, ◌<◌, ◌≤◌, Bool, true, false, cond, T, ◌&&◌, ◌==◌, nat_le, ℤ, pos, negsuc, ◌≤ℤ◌, int_le, List, [], ◌∷◌, ◌++◌, length}
use Rattle.std.proofs.Common.{Result, Ok, Err, refl, ap, ◌∙◌, arith}
use Rattle.std.specs.List.{slice_split, onto_first}
use Rattle.std.specs.Char.{is_ascii_digit, digit_value}
use Rattle.std.specs.Str.{all_ascii_digits}
use Rattle.std.proofs.lemmas.Bool.{and_parts}
use Rattle.std.proofs.lemmas.Bool.Decides.{nat_tests}
use Rattle.fixed_box.specs.declared.fix_fault.FixFault.{FixFault}
use Rattle.fixed_box.specs.declared.fix_fault.FixFault.TheVariants.{Range}
use Rattle.fixed_box.specs.Fix.{is_numeral, within_range}

pub digit_value_is : (b : ℕ) → is_ascii_digit b ≡ true → digit_value b ≡ b - 48
digit_value_is b h = grind (arith, nat_tests)

pub digit_small : (b : ℕ) → is_ascii_digit b ≡ true → b - 48 ≤ 9
digit_small b h = grind (arith, nat_tests)

pub digits_push : (ds : List ℕ) (d : ℕ) → all_ascii_digits ds ≡ true → is_ascii_digit d ≡ true → all_ascii_digits (ds ++ d ∷ []) ≡ true
digits_push [] d h last = ap (λ t. t && true) last
digits_push (c ∷ ds) d h last = let parts = and_parts (is_ascii_digit c) (all_ascii_digits ds) h in ap (λ t. t && all_ascii_digits (ds ++ d ∷ [])) parts.0
    ∙ digits_push ds d parts.1 last

abbrev is_point : ℕ → Bool
is_point b = b == 46

pub digit_no_point : (b : ℕ) → is_ascii_digit b ≡ true → is_point b ≡ false
digit_no_point b h = grind (arith, nat_tests)

-- digits up to a point are a part, and digits alone are the one part
pub split_digits : (ds text : List ℕ) → all_ascii_digits ds ≡ true → slice_split is_point (ds ++ 46 ∷ text) ≡ ds ∷ slice_split is_point text
split_digits [] text h = refl
split_digits (d ∷ ds) text h =
    let parts = and_parts (is_ascii_digit d) (all_ascii_digits ds) h in
    ap (λ t. cond t ([] ∷ slice_split is_point (ds ++ 46 ∷ text)) (onto_first d (slice_split is_point (ds ++ 46 ∷ text)))) (digit_no_point d parts.0)
    ∙ ap (onto_first d) (split_digits ds text parts.1)

pub split_alone : (ds : List ℕ) → all_ascii_digits ds ≡ true → slice_split is_point ds ≡ ds ∷ []
split_alone [] h = refl
split_alone (d ∷ ds) h =
    let parts = and_parts (is_ascii_digit d) (all_ascii_digits ds) h in
    ap (λ t. cond t ([] ∷ slice_split is_point ds) (onto_first d (slice_split is_point ds))) (digit_no_point d parts.0)
    ∙ ap (onto_first d) (split_alone ds parts.1)

-- so many digits are a number
pub is_numeral_from : (most : ℕ) (ds : List ℕ) → 0 < length ds → length ds ≤ most → all_ascii_digits ds ≡ true → is_numeral most ds ≡ true
is_numeral_from most ds low high h =
    let some : nat_le 1 (length ds) ≡ true = grind (arith, nat_tests) in
    let few : nat_le (length ds) most ≡ true = grind (arith, nat_tests) in
    ap (λ t. t && nat_le (length ds) most && all_ascii_digits ds) some ∙ ap (λ t. t && all_ascii_digits ds) few ∙ h

pub within : (r : ℤ) → negsuc 2147483647 ≤ℤ r → r ≤ℤ pos 2147483647 → within_range r ≡ Ok r
within r low high =
    ap (λ t. cond (t && int_le r (pos 2147483647)) (Ok r) (Err Range)) (true_from _ low.le)
    ∙ ap (λ t. cond {A = Result ℤ FixFault} t (Ok r) (Err Range)) (true_from _ high.le)
  where
    true_from : (b : Bool) → T b → b ≡ true
    true_from true h = refl
    true_from false h = absurd h
