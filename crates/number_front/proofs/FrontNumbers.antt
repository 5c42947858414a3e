-- A number at the front of a text: its digits, and what they form with those behind a point.
use Rattle.std.proofs.Common.{◌≡◌, ℕ, zero, suc, ◌+◌, ◌-◌, ◌*◌, ◌/◌, ◌^◌, ◌<◌, ◌≤◌, Bool, true, false, cond, ◌&&◌, ◌==◌, ℤ, pos, neg_ℤ, List, [], ◌∷◌}
use Rattle.std.proofs.Common.{◌++◌, length, take, drop, get_or, Some, None, Ok, option_map, sym, ap, subst, ◌∙◌, arith, add-one, length-take, length-drop}
use Rattle.std.proofs.Common.{to_z, of_z, ◌-ℤ◌}
use Rattle.std.specs.Int.{w32}
use Rattle.std.specs.List.{All, slice_split}
use Rattle.std.specs.Char.{is_ascii_digit}
use Rattle.std.specs.Str.{all_ascii_digits}
use Rattle.std.specs.Str.Parse.{digits_value}
use Rattle.std.proofs.Math.Seq.{take-suc, take-add, drop-cons}
use Rattle.std.proofs.Math.Nat.{pow-suc}
use Rattle.std.proofs.lemmas.Int.Digits.{digits_value_more}
use Rattle.std.proofs.lemmas.List.Elements.{All-nil, All-cons, All-append}
use Rattle.std.proofs.lemmas.List.{take_all, get_or-drop}
use Rattle.std.proofs.lemmas.Int.{ints}
use Rattle.std.proofs.lemmas.Bool.{and_parts}
use Rattle.std.proofs.lemmas.Bool.Decides.{nat_tests}
use Rattle.fixed_box.specs.Fix.{Digits, is_numeral, digits_of_parts, digits_of_text, within_range, fix_of_digits, fix}
use Rattle.fixed_box.specs.Decimal.{decimal_of, magnitude_of}
use Rattle.number_front.specs.Fronts.{IsWholeFront, IsFractionFront, IsMagnitude, IsMagnitudeFront}
use Rattle.fixed_box.specs.DigitLaws.{digit_value_is, digit_small, split_digits, split_alone}
use Rattle.fixed_box.specs.MagnitudeLaws.{signed_fix}
use Rattle.fixed_box.specs.DigitLaws.{digits_push, is_numeral_from, within}

-- one digit more
pub run_longer : (n : ℕ) (text : List ℕ) → n < length text → is_ascii_digit (get_or text n 0) ≡ true → all_ascii_digits (take n text) ≡ true
    → all_ascii_digits (take (n + 1) text) ≡ true
run_longer n text inside digit all =
    ap all_ascii_digits (ap (λ k. take k text) (add-one n) ∙ take-suc text n 0 inside) ∙ digits_push (take n text) (get_or text n 0) all digit

pub number_longer : (number n : ℕ) (text : List ℕ) → n < length text → is_ascii_digit (get_or text n 0) ≡ true → number ≡ digits_value 10 (take n text)
    → 10 * number + (get_or text n 0 - 48) ≡ digits_value 10 (take (n + 1) text)
number_longer number n text inside digit is = omega (arith, is, digit_value_is (get_or text n 0) digit, digits_value_more 10 text n inside)

pub power_longer : (number b n : ℕ) → is_ascii_digit b ≡ true → number < 10 ^ n → 10 * number + (b - 48) < 10 ^ (n + 1)
power_longer number b n digit small = omega (arith, digit_small b digit, pow-suc 10 n, ap (λ k. 10 ^ k) (add-one n))

-- a fraction of nine digits, the last of which are zeros, rounds as it does without these
pub nine_places : (k f : ℕ) → k ≤ 9 → (f * 10 ^ (9 - k) * 131072 + 1000000000) / 2000000000 ≡ (f * 131072 + 10 ^ k) / (2 * 10 ^ k)
nine_places zero f few = omega arith
nine_places (suc zero) f few = omega arith
nine_places (suc (suc zero)) f few = omega arith
nine_places (suc (suc (suc zero))) f few = omega arith
nine_places (suc (suc (suc (suc zero)))) f few = omega arith
nine_places (suc (suc (suc (suc (suc zero))))) f few = omega arith
nine_places (suc (suc (suc (suc (suc (suc zero)))))) f few = omega arith
nine_places (suc (suc (suc (suc (suc (suc (suc zero))))))) f few = omega arith
nine_places (suc (suc (suc (suc (suc (suc (suc (suc zero)))))))) f few = omega arith
nine_places (suc (suc (suc (suc (suc (suc (suc (suc (suc zero))))))))) f few = omega arith
nine_places (suc (suc (suc (suc (suc (suc (suc (suc (suc (suc k)))))))))) f few = absurd (omega arith)

pub below_nine_places : (k f : ℕ) → k ≤ 9 → f < 10 ^ k → f * 10 ^ (9 - k) < 1000000000
below_nine_places zero f few small = omega arith
below_nine_places (suc zero) f few small = omega arith
below_nine_places (suc (suc zero)) f few small = omega arith
below_nine_places (suc (suc (suc zero))) f few small = omega arith
below_nine_places (suc (suc (suc (suc zero)))) f few small = omega arith
below_nine_places (suc (suc (suc (suc (suc zero))))) f few small = omega arith
below_nine_places (suc (suc (suc (suc (suc (suc zero)))))) f few small = omega arith
below_nine_places (suc (suc (suc (suc (suc (suc (suc zero))))))) f few small = omega arith
below_nine_places (suc (suc (suc (suc (suc (suc (suc (suc zero)))))))) f few small = omega arith
below_nine_places (suc (suc (suc (suc (suc (suc (suc (suc (suc zero))))))))) f few small = omega arith
below_nine_places (suc (suc (suc (suc (suc (suc (suc (suc (suc (suc k)))))))))) f few small = absurd (omega arith)

-- the bytes of a magnitude
abbrev IsUnsigned : ℕ → Type 0
IsUnsigned b = (46 ≤ b) × (b ≤ 57)

unsigned_digits : (ds : List ℕ) → all_ascii_digits ds ≡ true → All IsUnsigned ds
unsigned_digits [] all = All-nil IsUnsigned
unsigned_digits (d ∷ ds) all =
    let parts = and_parts (is_ascii_digit d) (all_ascii_digits ds) all in
    let low : 46 ≤ d = (let digit = parts.0 in grind (arith, nat_tests)) in
    let high : d ≤ 57 = (let digit = parts.0 in grind (arith, nat_tests)) in
    All-cons IsUnsigned d ds (low, high) (unsigned_digits ds parts.1)

-- digits alone, and digits around a point
alone_found : (ws : List ℕ) → 0 < length ws → length ws ≤ 9 → all_ascii_digits ws ≡ true → digits_of_text ws ≡ Some (record { whole = ws; fraction = [] })
alone_found ws some few all =
    ap digits_of_parts (split_alone ws all)
    ∙ ap (λ t. cond t (Some (record { whole = ws; fraction = [] })) None) (is_numeral_from 10 ws some (omega arith) all)

both_found : (ws fs : List ℕ) → 0 < length ws → length ws ≤ 9 → all_ascii_digits ws ≡ true → 0 < length fs → length fs ≤ 9 → all_ascii_digits fs ≡ true
    → digits_of_text (ws ++ 46 ∷ fs) ≡ Some (record { whole = ws; fraction = fs })
both_found ws fs some few all some_f few_f all_f =
    ap digits_of_parts (split_digits ws fs all ∙ ap (λ ps. ws ∷ ps) (split_alone fs all_f))
    ∙ ap (λ t. cond (t && is_numeral 9 fs) (Some (record { whole = ws; fraction = fs })) None) (is_numeral_from 10 ws some (omega arith) all)
    ∙ ap (λ t. cond t (Some (record { whole = ws; fraction = fs })) None) (is_numeral_from 9 fs some_f few_f all_f)

in_range : (negative : Bool) (m : ℕ) → m < 2 ^ 31 → within_range (cond negative (neg_ℤ (pos m)) (pos m)) ≡ Ok (cond negative (neg_ℤ (pos m)) (pos m))
in_range false m small = within (pos m) (omega (arith, ints)) (omega (arith, ints))
in_range true m small = within (neg_ℤ (pos m)) (omega (arith, ints)) (omega (arith, ints))

-- found digits whose magnitude is small are in range
found_value : (negative : Bool) (text : List ℕ) (d : Digits) (m : ℕ) → digits_of_text text ≡ Some d → m ≡ magnitude_of (decimal_of d) → m < 2 ^ 31
    → fix_of_digits negative (digits_of_text text) ≡ Ok (cond negative (neg_ℤ (pos m)) (pos m))
found_value negative text d m found is small =
    sym (signed_fix negative (slice_split (λ b. b == 46) text) (decimal_of d) m (sym (ap (option_map decimal_of) found)) is) ∙ in_range negative m small

-- digits that no fraction follows
pub whole_magnitude : (text : List ℕ) (whole w : ℕ) → IsWholeFront text whole w → IsMagnitudeFront text (whole * 65536) w
whole_magnitude text whole w h =
    let len : length (take w text) ≡ w = omega (arith, length-take w text, h.within) in
    record {
      is = record {
        within = h.within;
        value = λ negative. found_value negative (take w text) (record { whole = take w text; fraction = [] }) (whole * 65536)
            (alone_found (take w text) (omega (arith, len, h.some)) (omega (arith, len, h.few)) h.digits) (ap (λ n. n * 65536) h.value ∙ omega arith)
            (omega (arith, h.small));
        plain = unsigned_digits (take w text) h.digits;
        small = omega (arith, h.small);
      };
      longest = h.longest;
    }

-- the text behind a number of bytes, where it begins with a point
cut_at_point : (text behind digits : List ℕ) (w : ℕ) → behind ≡ drop w text → 1 ≤ length behind → get_or behind 0 0 ≡ 46
    → digits ≡ take (length behind - 1) (drop 1 behind) → (w < length text) × (get_or text w 0 ≡ 46) × (digits ≡ drop (suc w) text)
cut_at_point text behind digits w e some point is =
    let inside : w < length text = omega (arith, ap length e, length-drop w text) in
    let shape : behind ≡ get_or text w 0 ∷ drop (suc w) text = e ∙ drop-cons text w 0 inside in (
      inside,
      sym (ap (λ xs. get_or xs 0 0) shape) ∙ point,
      is ∙ ap (λ xs. take (length xs - 1) (drop 1 xs)) shape ∙ take_all (suc (length (drop (suc w) text)) - 1) (drop (suc w) text) (omega arith),
    )

-- digits that a point and a fraction follow
pub fraction_magnitude : (text behind digits : List ℕ) (whole w raw f : ℕ) → behind ≡ drop w text → 1 ≤ length behind → get_or behind 0 0 ≡ 46
    → digits ≡ take (length behind - 1) (drop 1 behind) → IsWholeFront text whole w → IsFractionFront digits raw f
    → IsMagnitudeFront text (whole * 65536 + raw) (w + 1 + f)
fraction_magnitude text behind digits whole w raw f e some point is h g =
    let at = cut_at_point text behind digits w e some point is in
    let sum : w + 1 + f ≡ w + suc f = omega arith in
    let front : take (w + 1 + f) text ≡ take w text ++ 46 ∷ take f digits =
    ap (λ k. take k text) sum ∙ take-add w (suc f) text ∙ ap (λ xs. take w text ++ take (suc f) xs) (drop-cons text w 0 at.0)
    ∙ ap (λ b. take w text ++ b ∷ take f (drop (suc w) text)) at.1 ∙ ap (λ xs. take w text ++ 46 ∷ take f xs) (sym at.2) in
    let len : length (take w text) ≡ w = omega (arith, length-take w text, h.within) in
    let len_f : length (take f digits) ≡ f = omega (arith, length-take f digits, g.within) in
    let found : digits_of_text (take (w + 1 + f) text) ≡ Some (record { whole = take w text; fraction = take f digits }) =
    ap digits_of_text front
    ∙ both_found (take w text) (take f digits) (omega (arith, len, h.some)) (omega (arith, len, h.few)) h.digits (omega (arith, len_f, g.some))
    (omega (arith, len_f, g.few)) g.digits in
    record {
      is = record {
        within = omega (arith, ap length at.2, length-drop (suc w) text, g.within, at.0);
        value = λ negative. found_value negative (take (w + 1 + f) text) (record { whole = take w text; fraction = take f digits }) (whole * 65536 + raw) found
            (ap (λ n. n * 65536 + raw) h.value
            ∙ ap (λ n. digits_value 10 (take w text) * 65536 + n) (g.nearest
            ∙ ap (λ k. (digits_value 10 (take f digits) * 131072 + 10 ^ k) / (2 * 10 ^ k)) (sym len_f)))
            (omega (arith, h.small, g.small));
        plain = let P : List ℕ → Type 0 = All IsUnsigned in subst P (sym front)
            (All-append IsUnsigned (take w text) (46 ∷ take f digits) (unsigned_digits (take w text) h.digits)
            (All-cons IsUnsigned 46 (take f digits) (omega arith, omega arith) (unsigned_digits (take f digits) g.digits)));
        small = omega (arith, h.small, g.small);
      };
      longest = λ more.
          let inner : f < length digits = omega (arith, ap length at.2, length-drop (suc w) text, more) in
          let place : w + 1 + f ≡ suc w + f = omega arith in
          ap (λ k. is_ascii_digit (get_or text k 0)) place ∙ ap is_ascii_digit (sym (get_or-drop (suc w) text f 0))
          ∙ ap (λ xs. is_ascii_digit (get_or xs f 0)) (sym at.2) ∙ g.longest inner;
    }

-- five digits behind a point and up to three before it
pub printed_text : (text ws fs : List ℕ) (m len : ℕ) → take len text ≡ ws ++ 46 ∷ fs → len ≤ length text → 0 < length ws → length ws ≤ 9
    → all_ascii_digits ws ≡ true → length fs ≡ 5 → all_ascii_digits fs ≡ true
    → m ≡ digits_value 10 ws * 65536 + (digits_value 10 fs * 131072 + 100000) / 200000 → m < 2 ^ 31 → IsMagnitude text m len
printed_text text ws fs m len front within some few all five all_f is small =
    record {
      within = within;
      value = λ negative. found_value negative (take len text) (record { whole = ws; fraction = fs }) m
          (ap digits_of_text front ∙ both_found ws fs some few all (omega arith) (omega arith) all_f)
          (is ∙ ap (λ k. digits_value 10 ws * 65536 + (digits_value 10 fs * 131072 + 10 ^ k) / (2 * 10 ^ k)) (sym five)) small;
      plain = let P : List ℕ → Type 0 = All IsUnsigned in subst P (sym front)
          (All-append IsUnsigned ws (46 ∷ fs) (unsigned_digits ws all) (All-cons IsUnsigned 46 fs (omega arith, omega arith) (unsigned_digits fs all_f)));
      small = small;
    }

-- a text of such bytes has no sign
no_sign : (text : List ℕ) (r : ℤ) → All IsUnsigned text → fix_of_digits false (digits_of_text text) ≡ Ok r → fix text ≡ Ok r
no_sign [] r plain h = absurd (cc)
no_sign (b ∷ bs) r plain h =
    let low : 46 ≤ b = (plain 0 b (omega arith)).0 in
    let other : (b == 45) ≡ false = grind (arith, nat_tests) in
    ap (λ t. cond t (fix_of_digits true (digits_of_text bs)) (fix_of_digits false (digits_of_text (b ∷ bs)))) other ∙ h

-- a magnitude as the number that the code makes of it
pub number_positive : (text digits : List ℕ) (m len : ℕ) → text ≡ digits → IsMagnitude digits m len → fix (take len text) ≡ Ok (to_z w32 m)
number_positive text digits m len e h =
    let kept : to_z w32 m ≡ pos m = (let small = h.small in grind (arith, ints)) in
    ap (λ xs. fix (take len xs)) e ∙ no_sign (take len digits) (pos m) h.plain (h.value false) ∙ ap Ok (sym kept)

pub number_negative : (text digits : List ℕ) (m len : ℕ) → text ≡ 45 ∷ digits → IsMagnitude digits m len
    → fix (take (1 + len) text) ≡ Ok (to_z w32 (of_z w32 (pos 0 -ℤ to_z w32 m)))
number_negative text digits m len e h =
    let kept : to_z w32 (of_z w32 (pos 0 -ℤ to_z w32 m)) ≡ neg_ℤ (pos m) = (let small = h.small in grind (arith, ints)) in
    let more : 1 + len ≡ suc len = omega arith in
    ap (λ xs. fix (take (1 + len) xs)) e ∙ ap (λ k. fix (take k (45 ∷ digits))) more ∙ h.value true ∙ ap Ok (sym kept)

-- what follows it
pub end_positive : (text digits : List ℕ) (m len : ℕ) → text ≡ digits → IsMagnitudeFront digits m len → len < length text
    → is_ascii_digit (get_or text len 0) ≡ false
end_positive text digits m len e h more = ap (λ xs. is_ascii_digit (get_or xs len 0)) e ∙ h.longest (omega (arith, ap length e, more))

pub end_negative : (text digits : List ℕ) (m len : ℕ) → text ≡ 45 ∷ digits → IsMagnitudeFront digits m len → 1 + len < length text
    → is_ascii_digit (get_or text (1 + len) 0) ≡ false
end_negative text digits m len e h more =
    let next : 1 + len ≡ suc len = omega arith in
    ap (λ xs. is_ascii_digit (get_or xs (1 + len) 0)) e ∙ ap (λ k. is_ascii_digit (get_or (45 ∷ digits) k 0)) next
    ∙ h.longest (omega (arith, ap length e, more))
