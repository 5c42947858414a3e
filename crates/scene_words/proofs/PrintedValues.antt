-- Masks and handles that are printed: each is read as what it was, and is a word.
use Rattle.std.proofs.Common.{◌≡◌, ℕ, ◌<◌, ◌≤◌, ◌^◌, true, false, cond, ◌&&◌, nat_le, List, [], ◌∷◌, length, Some, None, Ok}
use Rattle.std.proofs.Common.{Err, refl, ap, ◌∙◌, arith, decimal}
use Rattle.std.specs.List.{All, after_first, list_all}
use Rattle.std.specs.Char.{is_digit, digit_value}
use Rattle.std.specs.Fmt.{digits}
use Rattle.std.specs.Str.Parse.{AllDigits, IsNumeral, digits_value}
use Rattle.std.proofs.Math.Nat.{pow-le-pow_left}
use Rattle.std.proofs.lemmas.Bool.Decides.{nat_tests}
use Rattle.std.proofs.lemmas.Fmt.{digits_is_IsNumeral, length-decimal-le}
use Rattle.std.proofs.lemmas.List.{length-append}
use Rattle.std.proofs.lemmas.List.Elements.{All-nil, All-cons, All-append}
use Rattle.live_table.specs.declared.handle.Handle.{Handle}
use Rattle.scene_words.specs.declared.line_fault.LineFault.TheVariants as fault
use Rattle.scene_words.specs.Printed.{handle_text, mask_text}
use Rattle.fixed_box.specs.declared.TheConstants.{SLOTS}
use Rattle.scene_words.specs.Ranges.{IsHandle, IsWanted}
use Rattle.scene_words.specs.Values.{is_numeral, index_of_digits, index_or, is_colon, mask_of_word, handle_of_word, handle_from, owner_of_word, want_within}
use Rattle.scene_words.specs.Values.{want_of_word}
use Rattle.scene_words.proofs.FirstPlaces.{before_at, after_at}
use Rattle.scene_words.proofs.Hexadecimal.{hex_length}
use Rattle.scene_words.proofs.JoinedWords.{IsInk, IsInkWord}

-- digits of a radix of at most 16
digit_ink : (c : ℕ) → digit_value c < 16 → IsInk c
digit_ink c h = grind (arith, nat_tests)

digits_ink : (radix : ℕ) (ds : List ℕ) → radix ≤ 16 → AllDigits radix ds → All IsInk ds
digits_ink radix [] few h = All-nil IsInk
digits_ink radix (c ∷ ds) few h = All-cons IsInk c ds (digit_ink c (omega (arith, h.0))) (digits_ink radix ds few h.1)

all_digits : (radix : ℕ) (ds : List ℕ) → AllDigits radix ds → list_all (λ b. is_digit b radix) ds ≡ true
all_digits radix [] h = refl
all_digits radix (c ∷ ds) h =
    let low : digit_value c < radix = h.0 in
    let first : is_digit c radix ≡ true = grind (arith, nat_tests) in
    ap (λ t. t && list_all (λ b. is_digit b radix) ds) first ∙ all_digits radix ds h.1

numeral_is : (radix most : ℕ) (ds : List ℕ) → IsNumeral radix ds → length ds ≤ most → is_numeral radix most ds ≡ true
numeral_is radix most ds h short =
    let some : 0 < length ds = h.0 in
    let low : nat_le 1 (length ds) ≡ true = grind (arith, nat_tests) in
    let high : nat_le (length ds) most ≡ true = grind (arith, nat_tests) in
    ap (λ t. t && nat_le (length ds) most && list_all (λ b. is_digit b radix) ds) low ∙ ap (λ t. t && list_all (λ b. is_digit b radix) ds) high
    ∙ all_digits radix ds h.1

digits_read : (radix n : ℕ) → 2 ≤ radix → radix ≤ 16 → n < 2 ^ 32
    → IsNumeral radix (digits radix false n) × (digits_value radix (digits radix false n) ≡ n)
digits_read radix n low high small =
    let more : 2 ^ 64 ≤ radix ^ 64 = pow-le-pow_left low 64 in
    digits_is_IsNumeral radix false low high n (omega (arith, more))

-- a mask
pub mask_read : (n : ℕ) → n < 2 ^ 32 → mask_of_word (mask_text n) ≡ Ok n
mask_read n small =
    let d = digits_read 16 n (omega arith) (omega arith) small in
    ap (λ t. cond t (Ok (digits_value 16 (digits 16 false n))) (Err fault.Mask)) (numeral_is 16 8 (digits 16 false n) d.0 (hex_length n small)) ∙ ap Ok d.1

pub mask_ink : (n : ℕ) → n < 2 ^ 32 → IsInkWord (mask_text n)
mask_ink n small =
    let d = digits_read 16 n (omega arith) (omega arith) small in
    record { some = d.0.0; ink = digits_ink 16 (digits 16 false n) (omega arith) d.0.1 }

-- one number of a handle
pub index_length : (n : ℕ) → n < 2 ^ 32 → length (decimal n) ≤ 10
index_length n small = length-decimal-le 10 n (omega arith) (omega arith) (omega arith)

pub index_read : (n : ℕ) → n < 2 ^ 32 → index_of_digits (decimal n) ≡ Some n
index_read n small =
    let d = digits_read 10 n (omega arith) (omega arith) small in
    let fits : nat_le (digits_value 10 (decimal n)) 4294967295 ≡ true = (let value : digits_value 10 (decimal n) ≡ n = d.1 in grind (arith, nat_tests)) in
    ap (λ t. cond (t && nat_le (digits_value 10 (decimal n)) 4294967295) (Some (digits_value 10 (decimal n))) None)
    (numeral_is 10 10 (decimal n) d.0 (index_length n small))
    ∙ ap (λ t. cond t (Some (digits_value 10 (decimal n))) None) fits ∙ ap Some d.1

-- an owner
pub owner_read : (n : ℕ) → n < 2 ^ 32 → owner_of_word (decimal n) ≡ Ok n
owner_read n small = ap (index_or fault.Owner) (index_read n small)

pub decimal_ink : (n : ℕ) → n < 2 ^ 32 → IsInkWord (decimal n)
decimal_ink n small =
    let d = digits_read 10 n (omega arith) (omega arith) small in
    record { some = d.0.0; ink = digits_ink 10 (decimal n) (omega arith) d.0.1 }

-- a number of boxes
within_read : (n : ℕ) → IsWanted n → want_within n ≡ Ok n
within_read n h =
    let low : nat_le 1 n ≡ true = (let some = h.some in grind (arith, nat_tests)) in
    let high : nat_le n SLOTS ≡ true = (let few = h.few in grind (arith, nat_tests)) in
    ap (λ t. cond (t && nat_le n SLOTS) (Ok n) (Err fault.Range)) low ∙ ap (λ t. cond t (Ok n) (Err fault.Range)) high

pub want_small : (n : ℕ) → IsWanted n → n < 2 ^ 32
want_small n h = omega (arith, h.few)

pub want_read : (n : ℕ) → IsWanted n → want_of_word (decimal n) ≡ Ok n
want_read n h =
    let d = digits_read 10 n (omega arith) (omega arith) (want_small n h) in
    let short : length (decimal n) ≤ 4 = length-decimal-le 4 n (omega arith) (omega (arith, h.few)) (omega arith) in
    ap (λ t. cond t (want_within (digits_value 10 (decimal n))) (Err fault.Number)) (numeral_is 10 4 (decimal n) d.0 short)
    ∙ ap want_within d.1 ∙ within_read n h

abbrev NoColon : ℕ → Type 0
NoColon b = is_colon b ≡ false

digit_no_colon : (c : ℕ) → digit_value c < 10 → NoColon c
digit_no_colon c h = grind (arith, nat_tests)

digits_no_colon : (ds : List ℕ) → AllDigits 10 ds → All NoColon ds
digits_no_colon [] h = All-nil NoColon
digits_no_colon (c ∷ ds) h = All-cons NoColon c ds (digit_no_colon c h.0) (digits_no_colon ds h.1)

-- a handle
pub handle_read : (h : Handle) → IsHandle h → handle_of_word (handle_text h) ≡ Ok h
handle_read h r =
    let d = digits_read 10 h.slot (omega arith) (omega arith) r.slot in
    let plain = digits_no_colon (decimal h.slot) d.0.1 in
    ap (λ ds. handle_from (index_of_digits ds) (index_of_digits (after_first is_colon (handle_text h))))
    (before_at is_colon (decimal h.slot) 58 (decimal h.generation) plain refl)
    ∙ ap (λ ds. handle_from (index_of_digits (decimal h.slot)) (index_of_digits ds))
    (after_at is_colon (decimal h.slot) 58 (decimal h.generation) plain refl)
    ∙ ap (λ s. handle_from s (index_of_digits (decimal h.generation))) (index_read h.slot r.slot)
    ∙ ap (λ g. handle_from (Some h.slot) g) (index_read h.generation r.generation)

pub handle_length : (h : Handle) → IsHandle h → length (handle_text h) ≤ 21
handle_length h r =
    omega (arith, length-append (decimal h.slot) (58 ∷ decimal h.generation), index_length h.slot r.slot, index_length h.generation r.generation)

pub handle_ink : (h : Handle) → IsHandle h → IsInkWord (handle_text h)
handle_ink h r =
    let s = digits_read 10 h.slot (omega arith) (omega arith) r.slot in
    let g = digits_read 10 h.generation (omega arith) (omega arith) r.generation in
    record {
      some = omega (arith, length-append (decimal h.slot) (58 ∷ decimal h.generation));
      ink = All-append IsInk (decimal h.slot) (58 ∷ decimal h.generation) (digits_ink 10 (decimal h.slot) (omega arith) s.0.1)
          (All-cons IsInk 58 (decimal h.generation) (omega arith) (digits_ink 10 (decimal h.generation) (omega arith) g.0.1));
    }
