-- Digits read one after another, against the parts between points.
use Rattle.std.proofs.Common.{◌≡◌, ℕ, suc, ◌+◌, ◌-◌, ◌*◌, ◌^◌, ◌<◌, ◌≤◌, Bool, true, false, cond, ◌&&◌, ◌==◌, nat_le, List, [], ◌∷◌, length}
use Rattle.std.proofs.Common.{take, drop, get_or, Option, Some, None, refl, sym, ap, ◌∙◌, arith, if◌then◌else◌, zero-add, option_map}
use Rattle.std.specs.List.{slice_split, onto_first}
use Rattle.std.specs.Char.{is_ascii_digit}
use Rattle.std.specs.Str.{all_ascii_digits}
use Rattle.std.specs.Str.Parse.{digits_value_after, digits_value}
use Rattle.std.proofs.lemmas.Bool.{and_right}
use Rattle.std.proofs.lemmas.List.{take_all}
use Rattle.std.proofs.lemmas.Bool.Decides.{nat_tests}
use Rattle.std.proofs.Math.Nat.{pow-succ', mul_assoc}
use Rattle.fixed_box.specs.declared.parsing.Decimal.{Decimal}
use Rattle.fixed_box.specs.Fix.{is_numeral, digits_of_parts}
use Rattle.fixed_box.specs.Decimal.{decimal_of, with_fraction}
use Rattle.fixed_box.specs.DigitLaws.{digit_value_is, digit_no_point}

-- so many digits, and then others, are one to `most` digits
abbrev pub is_run : ℕ → ℕ → List ℕ → Bool
is_run most count ds = nat_le 1 (count + length ds) && nat_le (count + length ds) most && all_ascii_digits ds

-- the number where the test holds
abbrev pub number_if : Bool → ℕ → ℕ → ℕ → Option Decimal
number_if b whole fraction scale = if b then Some (record { whole = whole; fraction = fraction; scale = scale }) else None

-- a fraction so far, and the digits that are left
abbrev pub fraction_after : ℕ → ℕ → ℕ → ℕ → List ℕ → Option Decimal
fraction_after whole fraction scale count ds = number_if (is_run 9 count ds) whole (digits_value_after 10 fraction ds) (scale * 10 ^ length ds)

-- a whole part so far, and the parts between points that are left
abbrev pub decimal_after : ℕ → ℕ → List (List ℕ) → Option Decimal
decimal_after n count [] = number_if (is_run 10 count []) n 0 1
decimal_after n count (ds ∷ []) = number_if (is_run 10 count ds) (digits_value_after 10 n ds) 0 1
decimal_after n count (ds ∷ fs ∷ []) = if is_run 10 count ds then with_fraction (digits_value_after 10 n ds) fs else None
decimal_after n count (ds ∷ fs ∷ _ ∷ _) = None

value_step : (n b : ℕ) (ds : List ℕ) → is_ascii_digit b ≡ true → digits_value_after 10 n (b ∷ ds) ≡ digits_value_after 10 (10 * n + (b - 48)) ds
value_step n b ds h = ap (λ m. digits_value_after 10 m ds) (omega (arith, digit_value_is b h))

run_step : (most count b : ℕ) (ds : List ℕ) → is_ascii_digit b ≡ true → is_run most count (b ∷ ds) ≡ is_run most (count + 1) ds
run_step most count b ds h =
    let more : count + suc (length ds) ≡ (count + 1) + length ds = omega arith in
    ap (λ d. nat_le 1 (count + suc (length ds)) && nat_le (count + suc (length ds)) most && (d && all_ascii_digits ds)) h
    ∙ ap (λ n. nat_le 1 n && nat_le n most && all_ascii_digits ds) more

run_stops : (most count b : ℕ) (ds : List ℕ) → is_ascii_digit b ≡ false → is_run most count (b ∷ ds) ≡ false
run_stops most count b ds h =
    ap (λ d. nat_le 1 (count + suc (length ds)) && nat_le (count + suc (length ds)) most && (d && all_ascii_digits ds)) h ∙ and_right _ false refl

run_full : (most b : ℕ) (ds : List ℕ) → is_run most most (b ∷ ds) ≡ false
run_full most b ds =
    let over : nat_le (most + suc (length ds)) most ≡ false = grind (arith, nat_tests) in
    ap (λ t. nat_le 1 (most + suc (length ds)) && t && all_ascii_digits (b ∷ ds)) over
    ∙ ap (λ t. t && all_ascii_digits (b ∷ ds)) (and_right (nat_le 1 (most + suc (length ds))) false refl)

pub fraction_step : (whole fraction scale count b : ℕ) (ds : List ℕ) → is_ascii_digit b ≡ true → fraction_after whole fraction scale count (b ∷ ds)
    ≡ fraction_after whole (10 * fraction + (b - 48)) (scale * 10) (count + 1) ds
fraction_step whole fraction scale count b ds h =
    let r : is_run 9 count (b ∷ ds) ≡ is_run 9 (count + 1) ds = run_step 9 count b ds h in
    let v : digits_value_after 10 fraction (b ∷ ds) ≡ digits_value_after 10 (10 * fraction + (b - 48)) ds = value_step fraction b ds h in
    let s : scale * 10 ^ suc (length ds) ≡ scale * 10 * 10 ^ length ds = ap (λ x. scale * x) (pow-succ' 10 (length ds))
    ∙ sym (mul_assoc scale 10 (10 ^ length ds)) in
    ap (λ x. number_if x whole (digits_value_after 10 fraction (b ∷ ds)) (scale * 10 ^ suc (length ds))) r
    ∙ ap (λ x. number_if (is_run 9 (count + 1) ds) whole x (scale * 10 ^ suc (length ds))) v
    ∙ ap (λ x. number_if (is_run 9 (count + 1) ds) whole (digits_value_after 10 (10 * fraction + (b - 48)) ds) x) s

-- a text without a point is one part, and one with a point is no text of digits
data Split (text : List ℕ) (parts : List (List ℕ)) : Type 0 where
  undivided : parts ≡ text ∷ [] → Split text parts
  divided : (a b : List ℕ) (more : List (List ℕ)) → parts ≡ a ∷ b ∷ more → all_ascii_digits text ≡ false → Split text parts

abbrev is_point : ℕ → Bool
is_point b = b == 46

point_no_digit : (b : ℕ) → is_point b ≡ true → is_ascii_digit b ≡ false
point_no_digit b h = grind (arith, nat_tests)

split_by_point : (b : ℕ) (text : List ℕ) (more : List (List ℕ)) → slice_split is_point text ≡ more → Split text more → (t : Bool) → is_point b ≡ t
    → Split (b ∷ text) (cond t ([] ∷ more) (onto_first b more))
split_by_point b text more e (undivided u) true p = divided [] text [] (ap (λ ps. [] ∷ ps) u) (ap (λ d. d && all_ascii_digits text) (point_no_digit b p))
split_by_point b text more e (divided x y ps u n) true p =
    divided [] x (y ∷ ps) (ap (λ qs. [] ∷ qs) u) (ap (λ d. d && all_ascii_digits text) (point_no_digit b p))
split_by_point b text more e (undivided u) false p = undivided (ap (onto_first b) u)
split_by_point b text more e (divided x y ps u n) false p =
    divided (b ∷ x) y ps (ap (onto_first b) u) (ap (λ d. is_ascii_digit b && d) n ∙ and_right _ false refl)

split_of : (text : List ℕ) → Split text (slice_split is_point text)
split_of [] = undivided refl
split_of (b ∷ text) = split_by_point b text (slice_split is_point text) refl (split_of text) (is_point b) refl

-- a point behind one to ten digits: the rest are the digits of a fraction
fraction_by_split : (n count : ℕ) (text : List ℕ) (parts : List (List ℕ)) → Split text parts → is_run 10 count [] ≡ true
    → decimal_after n count ([] ∷ parts) ≡ with_fraction n text
fraction_by_split n count text parts (undivided u) r = ap (λ ps. decimal_after n count ([] ∷ ps)) u ∙ ap (λ x. if x then with_fraction n text else None) r
fraction_by_split n count text parts (divided x y ps u d) r =
    ap (λ qs. decimal_after n count ([] ∷ qs)) u
    ∙ sym (ap (λ v. number_if (nat_le 1 (length text) && nat_le (length text) 9 && v) n (digits_value 10 text) (10 ^ length text)) d
    ∙ ap (λ v. number_if v n (digits_value 10 text) (10 ^ length text)) (and_right (nat_le 1 (length text) && nat_le (length text) 9) false refl))

pub decimal_point : (n count b : ℕ) (text : List ℕ) → b ≡ 46 → 0 < count → count ≤ 10 → decimal_after n count (slice_split is_point (b ∷ text))
    ≡ with_fraction n text
decimal_point n count b text e low high =
    let r : is_run 10 count [] ≡ true = grind (arith, nat_tests) in
    ap (λ x. decimal_after n count (slice_split is_point (x ∷ text))) e ∙ fraction_by_split n count text (slice_split is_point text) (split_of text) r

-- a byte at which no number goes on
stop_parts : (n count b : ℕ) (parts : List (List ℕ)) → ((ds : List ℕ) → is_run 10 count (b ∷ ds) ≡ false) → decimal_after n count (onto_first b parts) ≡ None
stop_parts n count b [] h = ap (λ r. number_if r (digits_value_after 10 n (b ∷ [])) 0 1) (h [])
stop_parts n count b (ds ∷ []) h = ap (λ r. number_if r (digits_value_after 10 n (b ∷ ds)) 0 1) (h ds)
stop_parts n count b (ds ∷ fs ∷ []) h = ap (λ r. if r then with_fraction (digits_value_after 10 n (b ∷ ds)) fs else None) (h ds)
stop_parts n count b (ds ∷ fs ∷ gs ∷ more) h = refl

-- a point before any digit
early_point : (n : ℕ) (parts : List (List ℕ)) → decimal_after n 0 ([] ∷ parts) ≡ None
early_point n [] = refl
early_point n (fs ∷ []) = refl
early_point n (fs ∷ gs ∷ more) = refl

pub decimal_stops : (n count b : ℕ) (text : List ℕ) → is_ascii_digit b ≡ false → (b ≡ 46 → count ≡ 0)
    → decimal_after n count (slice_split is_point (b ∷ text)) ≡ None
decimal_stops n count b text h early =
    elim (is_point b) as (λ t. is_point b ≡ t → decimal_after n count (cond t ([] ∷ slice_split is_point text) (onto_first b (slice_split is_point text)))
    ≡ None) [
      | true ↦ λ e. let none : count ≡ 0 = early (grind (arith, nat_tests)) in ap (λ k. decimal_after n k ([] ∷ slice_split is_point text)) none
          ∙ early_point n (slice_split is_point text)
      | false ↦ λ e. stop_parts n count b (slice_split is_point text) (λ ds. run_stops 10 count b ds h)
    ] refl

pub decimal_full : (n b : ℕ) (text : List ℕ) → is_ascii_digit b ≡ true → decimal_after n 10 (slice_split is_point (b ∷ text)) ≡ None
decimal_full n b text h =
    ap (λ t. decimal_after n 10 (cond t ([] ∷ slice_split is_point text) (onto_first b (slice_split is_point text)))) (digit_no_point b h)
    ∙ stop_parts n 10 b (slice_split is_point text) (λ ds. run_full 10 b ds)

-- nothing read yet: what the parts mean
alone : (ds : List ℕ) (b : Bool) → option_map decimal_of (if b then Some (record { whole = ds; fraction = [] }) else None)
    ≡ number_if b (digits_value 10 ds) 0 1
alone ds true = refl
alone ds false = refl

both : (ds fs : List ℕ) (a b : Bool) → option_map decimal_of (if a && b then Some (record { whole = ds; fraction = fs }) else None)
    ≡ (if a then (if b then Some (record { whole = digits_value 10 ds; fraction = digits_value 10 fs; scale = 10 ^ length fs }) else None) else None)
both ds fs true true = refl
both ds fs true false = refl
both ds fs false b = refl

starts_run : (ds : List ℕ) → is_numeral 10 ds ≡ is_run 10 0 ds
starts_run ds = ap (λ n. nat_le 1 n && nat_le n 10 && all_ascii_digits ds) (sym (zero-add (length ds)))

pub decimal_starts : (parts : List (List ℕ)) → option_map decimal_of (digits_of_parts parts) ≡ decimal_after 0 0 parts
decimal_starts [] = refl
decimal_starts (ds ∷ []) = alone ds (is_numeral 10 ds) ∙ ap (λ r. number_if r (digits_value 10 ds) 0 1) (starts_run ds)
decimal_starts (ds ∷ fs ∷ []) = both ds fs (is_numeral 10 ds) (is_numeral 9 fs)
    ∙ ap (λ r. if r then with_fraction (digits_value 10 ds) fs else None) (starts_run ds)
decimal_starts (ds ∷ fs ∷ gs ∷ more) = refl

-- the same lemmas where the bytes are those at the front of a slice
rest_of : (b : ℕ) (bs : List ℕ) → take (suc (length bs) - 1) bs ≡ bs
rest_of b bs = take_all (suc (length bs) - 1) bs (omega arith)

pub fraction_step_at : (whole fraction scale count : ℕ) (text : List ℕ) → 1 ≤ length text → is_ascii_digit (get_or text 0 0) ≡ true
    → fraction_after whole fraction scale count text ≡ fraction_after whole (10 * fraction + (get_or text 0 0 - 48)) (scale * 10) (count + 1)
    (take (length text - 1) (drop 1 text))
fraction_step_at whole fraction scale count [] some h = absurd (omega arith)
fraction_step_at whole fraction scale count (b ∷ bs) some h =
    fraction_step whole fraction scale count b bs h ∙ ap (fraction_after whole (10 * fraction + (b - 48)) (scale * 10) (count + 1)) (sym (rest_of b bs))

pub decimal_point_at : (n count : ℕ) (text : List ℕ) → 1 ≤ length text → get_or text 0 0 ≡ 46 → 0 < count → count ≤ 10
    → decimal_after n count (slice_split is_point text) ≡ with_fraction n (take (length text - 1) (drop 1 text))
decimal_point_at n count [] some e low high = absurd (omega arith)
decimal_point_at n count (b ∷ bs) some e low high = decimal_point n count b bs e low high ∙ ap (with_fraction n) (sym (rest_of b bs))

pub decimal_stops_at : (n count : ℕ) (text : List ℕ) → 1 ≤ length text → is_ascii_digit (get_or text 0 0) ≡ false → (get_or text 0 0 ≡ 46 → count ≡ 0)
    → decimal_after n count (slice_split is_point text) ≡ None
decimal_stops_at n count [] some h early = absurd (omega arith)
decimal_stops_at n count (b ∷ bs) some h early = decimal_stops n count b bs h early

pub decimal_full_at : (n count : ℕ) (text : List ℕ) → count ≡ 10 → 1 ≤ length text → is_ascii_digit (get_or text 0 0) ≡ true
    → decimal_after n count (slice_split is_point text) ≡ None
decimal_full_at n count [] e some h = absurd (omega arith)
decimal_full_at n count (b ∷ bs) e some h = ap (λ k. decimal_after n k (slice_split is_point (b ∷ bs))) e ∙ decimal_full n b bs h
