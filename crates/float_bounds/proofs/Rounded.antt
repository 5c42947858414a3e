-- Serves proofs alone: rounding by sign and magnitude is that of whole numbers, and a magnitude may be stopped beyond 32 bits.
use Rattle.std.proofs.Common.{◌≡◌, ℕ, zero, suc, ◌+◌, ◌*◌, ◌/◌, ◌%◌, ◌^◌, ◌<◌, ◌≤◌, min, Bool, true, false, cond, pos}
use Rattle.std.proofs.Common.{negsuc, neg_ℤ, int_le}
use Rattle.std.proofs.Common.{Ok, Err, refl, sym, ap, ◌∙◌, arith, inl, inr}
use Rattle.std.specs.Int.{div_ceil}
use Rattle.std.proofs.lemmas.Bool.{cases_lt, cond-false, and_left, and_right}
use Rattle.std.proofs.lemmas.Int.{ints}
use Rattle.std.proofs.lemmas.Nat.{div-mul-add, mod-mul-add, div-add-mod', mod_below}
use Rattle.std.proofs.Math.Nat.{min-eq_left, zero-div, zero-mod}
use Rattle.fixed_box.specs.Fix.{floor_div}
use Rattle.float_bounds.specs.declared.float_fault.FloatFault.TheVariants.{OutOfRange}
use Rattle.float_bounds.specs.declared.format.Format.{Format}
use Rattle.float_bounds.specs.declared.parts.FloatParts.{FloatParts}
use Rattle.float_bounds.specs.Format.{raw_step}
use Rattle.float_bounds.specs.Value.{parts_of, value_of, and_then, signed}
use Rattle.float_bounds.specs.Rounding.{ceil_div, within_range, fix_below, fix_above}

up_suc : (a d : ℕ) → 0 < d → div_ceil (suc a) d ≡ suc (a / d)
up_suc a d positive =
    let e : a / d * d + a % d ≡ a = div-add-mod' a d in
    let lt : a % d < d = mod_below a d positive in
    elim (cases_lt (suc (a % d)) d) [
      | inl inside ↦ (
          let same : suc a ≡ a / d * d + suc (a % d) = omega arith in
          let q : suc a / d ≡ a / d = ap (λ x. x / d) same ∙ div-mul-add (a / d) d (suc (a % d)) inside in
          let r : suc a % d ≡ suc (a % d) = ap (λ x. x % d) same ∙ mod-mul-add (a / d) d (suc (a % d)) inside in
          let one : a / d + min 1 (suc (a % d)) ≡ suc (a / d) = omega arith in
          ap (λ k. k + min 1 (suc a % d)) q ∙ ap (λ k. a / d + min 1 k) r ∙ one
          )
      | inr whole ↦ (
          let same : suc a ≡ suc (a / d) * d + 0 = omega arith in
          let q : suc a / d ≡ suc (a / d) = ap (λ x. x / d) same ∙ div-mul-add (suc (a / d)) d 0 positive in
          let r : suc a % d ≡ 0 = ap (λ x. x % d) same ∙ mod-mul-add (suc (a / d)) d 0 positive in
          let none : suc (a / d) + min 1 0 ≡ suc (a / d) = omega arith in
          ap (λ k. k + min 1 (suc a % d)) q ∙ ap (λ k. suc (a / d) + min 1 k) r ∙ none
          )
    ]

up_zero : (d : ℕ) → div_ceil zero d ≡ zero
up_zero d =
    let none : zero + min 1 zero ≡ zero = omega arith in
    ap (λ k. k + min 1 (zero % d)) (zero-div d) ∙ ap (λ k. zero + min 1 k) (zero-mod d) ∙ none

-- a negative number is rounded down by its magnitude rounded up
pub floor_negative : (n d : ℕ) → 0 < d → floor_div (neg_ℤ (pos n)) d ≡ neg_ℤ (pos (div_ceil n d))
floor_negative zero d positive = ap pos (zero-div d) ∙ sym (ap (λ n. neg_ℤ (pos n)) (up_zero d))
floor_negative (suc a) d positive = sym (ap (λ n. neg_ℤ (pos n)) (up_suc a d positive))

pub twice_negative : (n : ℕ) → neg_ℤ (neg_ℤ (pos n)) ≡ pos n
twice_negative zero = refl
twice_negative (suc n) = refl

pub ceil_negative : (n d : ℕ) → ceil_div (neg_ℤ (pos n)) d ≡ neg_ℤ (pos (n / d))
ceil_negative n d = ap (λ z. neg_ℤ (floor_div z d)) (twice_negative n)

pub ceil_positive : (n d : ℕ) → 0 < d → ceil_div (pos n) d ≡ pos (div_ceil n d)
ceil_positive n d positive = ap neg_ℤ (floor_negative n d positive) ∙ twice_negative (div_ceil n d)

-- nothing of 2 ^ 32 or more is in range, behind either sign
far : (negative : Bool) (n : ℕ) → 2 ^ 32 ≤ n → within_range (signed negative n) ≡ Err OutOfRange
far true zero h = absurd (omega arith)
far true (suc n) h =
    let low : int_le (negsuc 2147483647) (negsuc n) ≡ false = grind (arith, ints) in
    cond-false _ (Ok (negsuc n)) (Err OutOfRange) (and_left (int_le (negsuc 2147483647) (negsuc n)) (int_le (negsuc n) (pos 2147483647)) low)
far false n h =
    let high : int_le (pos n) (pos 2147483647) ≡ false = grind (arith, ints) in
    cond-false _ (Ok (pos n)) (Err OutOfRange) (and_right (int_le (negsuc 2147483647) (pos n)) (int_le (pos n) (pos 2147483647)) high)

stopped : (negative : Bool) (n : ℕ) → within_range (signed negative (min n (2 ^ 32))) ≡ within_range (signed negative n)
stopped negative n =
    elim (cases_lt n (2 ^ 32)) [
      | inl inside ↦ (let le : n ≤ 2 ^ 32 = omega arith in ap (λ k. within_range (signed negative k)) (min-eq_left le))
      | inr beyond ↦ far negative (min n (2 ^ 32)) (omega arith) ∙ sym (far negative n beyond)
    ]

rounded_below : (negative : Bool) (m d n : ℕ) → 0 < d → n ≡ min (cond negative (div_ceil m d) (m / d)) (2 ^ 32)
    → within_range (floor_div (signed negative m) d) ≡ within_range (signed negative n)
rounded_below true m d n positive e =
    ap within_range (floor_negative m d positive) ∙ sym (ap (λ k. within_range (signed true k)) e ∙ stopped true (div_ceil m d))
rounded_below false m d n positive e = sym (ap (λ k. within_range (signed false k)) e ∙ stopped false (m / d))

rounded_above : (negative : Bool) (m d n : ℕ) → 0 < d → n ≡ min (cond negative (m / d) (div_ceil m d)) (2 ^ 32)
    → within_range (ceil_div (signed negative m) d) ≡ within_range (signed negative n)
rounded_above true m d n positive e =
    ap within_range (ceil_negative m d) ∙ sym (ap (λ k. within_range (signed true k)) e ∙ stopped true (m / d))
rounded_above false m d n positive e =
    ap within_range (ceil_positive m d positive) ∙ sym (ap (λ k. within_range (signed false k)) e ∙ stopped false (div_ceil m d))

-- a float is rounded by its parts
pub below_by_parts : (f : Format) (bits : ℕ) (p : FloatParts) (n : ℕ) → 0 < raw_step f → parts_of f bits ≡ Ok p
    → n ≡ min (cond p.negative (div_ceil (p.significand * 2 ^ p.exponent) (raw_step f)) (p.significand * 2 ^ p.exponent / raw_step f)) (2 ^ 32)
    → fix_below f bits ≡ within_range (signed p.negative n)
below_by_parts f bits p n positive e magnitude =
    ap (λ r. and_then (λ v. within_range (floor_div v (raw_step f))) (and_then (λ p. Ok (value_of p)) r)) e
    ∙ rounded_below p.negative (p.significand * 2 ^ p.exponent) (raw_step f) n positive magnitude

pub above_by_parts : (f : Format) (bits : ℕ) (p : FloatParts) (n : ℕ) → 0 < raw_step f → parts_of f bits ≡ Ok p
    → n ≡ min (cond p.negative (p.significand * 2 ^ p.exponent / raw_step f) (div_ceil (p.significand * 2 ^ p.exponent) (raw_step f))) (2 ^ 32)
    → fix_above f bits ≡ within_range (signed p.negative n)
above_by_parts f bits p n positive e magnitude =
    ap (λ r. and_then (λ v. within_range (ceil_div v (raw_step f))) (and_then (λ p. Ok (value_of p)) r)) e
    ∙ rounded_above p.negative (p.significand * 2 ^ p.exponent) (raw_step f) n positive magnitude
