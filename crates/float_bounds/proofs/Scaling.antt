-- Serves proofs alone: what shifts make of a number that is scaled by powers of two.
use Rattle.std.proofs.Common.{◌≡◌, ℕ, zero, suc, ◌+◌, ◌*◌, ◌/◌, ◌%◌, ◌^◌, ◌<◌, ◌≤◌, min, sym, ap, ◌∙◌, arith}
use Rattle.std.specs.Int.{div_ceil}
use Rattle.std.proofs.lemmas.Nat.{pow_pos, pow-add, shl-shr, shr-shr, mod_low, mod-pow-add, mul-le, div-mul-add, mod-mul-add}
use Rattle.std.proofs.Math.Nat.{mul_assoc, min-eq_left}
use Rattle.std.proofs.Math.Pow.{pow_mono}

-- from quotient and remainder
div_ceil_parts : (n d q r : ℕ) → n / d ≡ q → n % d ≡ r → div_ceil n d ≡ q + min 1 r
div_ceil_parts n d q r quotient remainder = ap (λ k. k + min 1 (n % d)) quotient ∙ ap (λ k. q + min 1 k) remainder

no_remainder : (n k : ℕ) → n * 2 ^ k % 2 ^ k ≡ 0
no_remainder n k = let e : n * 2 ^ k ≡ n * 2 ^ k + 0 = omega arith in ap (λ x. x % 2 ^ k) e ∙ mod_low n k 0 (pow_pos k)

-- a multiple is divided with nothing to round
pub exact_up : (n k : ℕ) → div_ceil (n * 2 ^ k) (2 ^ k) ≡ n
exact_up n k = let none : n + min 1 0 ≡ n = omega arith in div_ceil_parts (n * 2 ^ k) (2 ^ k) n 0 (shl-shr n k) (no_remainder n k) ∙ none

regrouped : (m by step exponent : ℕ) → exponent ≡ by + step → m * 2 ^ exponent ≡ m * 2 ^ by * 2 ^ step
regrouped m by step exponent e = ap (λ x. m * 2 ^ x) e ∙ ap (λ p. m * p) (pow-add 2 by step) ∙ sym (mul_assoc m (2 ^ by) (2 ^ step))

-- an exponent that is not below the step multiplies
pub multiplies : (m by step exponent : ℕ) → exponent ≡ by + step → m * 2 ^ exponent / 2 ^ step ≡ m * 2 ^ by
multiplies m by step exponent e = ap (λ n. n / 2 ^ step) (regrouped m by step exponent e) ∙ shl-shr (m * 2 ^ by) step

pub multiplies_up : (m by step exponent : ℕ) → exponent ≡ by + step → div_ceil (m * 2 ^ exponent) (2 ^ step) ≡ m * 2 ^ by
multiplies_up m by step exponent e = ap (λ n. div_ceil n (2 ^ step)) (regrouped m by step exponent e) ∙ exact_up (m * 2 ^ by) step

-- one below the step divides
pub divides : (m by step exponent : ℕ) → step ≡ exponent + by → m * 2 ^ exponent / 2 ^ step ≡ m / 2 ^ by
divides m by step exponent e =
    ap (λ s. m * 2 ^ exponent / 2 ^ s) e ∙ sym (shr-shr (m * 2 ^ exponent) exponent by) ∙ ap (λ q. q / 2 ^ by) (shl-shr m exponent)

min_scaled : (r p : ℕ) → 0 < p → min 1 (r * p) ≡ min 1 r
min_scaled zero p positive = ap (λ n. min 1 n) (let none : zero * p ≡ zero = omega arith in none)
min_scaled (suc r) p positive =
    let whole : 1 ≤ suc r * p = omega arith in
    let one : 1 ≤ suc r = omega arith in
    min-eq_left whole ∙ sym (min-eq_left one)

remainder_scaled : (m by exponent : ℕ) → m * 2 ^ exponent % 2 ^ (by + exponent) ≡ m % 2 ^ by * 2 ^ exponent
remainder_scaled m by exponent =
    let low : m % 2 ^ by * 2 ^ exponent + 0 ≡ m % 2 ^ by * 2 ^ exponent = omega arith in
    mod-pow-add (m * 2 ^ exponent) by exponent
    ∙ ap (λ q. q % 2 ^ by * 2 ^ exponent + m * 2 ^ exponent % 2 ^ exponent) (shl-shr m exponent)
    ∙ ap (λ r. m % 2 ^ by * 2 ^ exponent + r) (no_remainder m exponent)
    ∙ low

pub divides_up : (m by step exponent : ℕ) → step ≡ exponent + by → div_ceil (m * 2 ^ exponent) (2 ^ step) ≡ div_ceil m (2 ^ by)
divides_up m by step exponent e =
    let turned : step ≡ by + exponent = omega arith in
    div_ceil_parts (m * 2 ^ exponent) (2 ^ step) (m / 2 ^ by) (m % 2 ^ by * 2 ^ exponent) (divides m by step exponent e)
    (ap (λ s. m * 2 ^ exponent % 2 ^ s) turned ∙ remainder_scaled m by exponent)
    ∙ ap (λ k. m / 2 ^ by + k) (min_scaled (m % 2 ^ by) (2 ^ exponent) (pow_pos exponent))

-- a number of 64 bits is below each power from 2 ^ 64 on
below_power : (n by : ℕ) → n < 2 ^ 64 → 64 ≤ by → n < 2 ^ by
below_power n by small far = omega (arith, pow_mono {i = 64} {j = by} far)

pub none_left : (n by : ℕ) → n < 2 ^ 64 → 64 ≤ by → n / 2 ^ by ≡ 0
none_left n by small far =
    let e : n ≡ 0 * 2 ^ by + n = omega arith in
    ap (λ x. x / 2 ^ by) e ∙ div-mul-add 0 (2 ^ by) n (below_power n by small far)

pub all_left : (n by : ℕ) → n < 2 ^ 64 → 64 ≤ by → div_ceil n (2 ^ by) ≡ min n 1
all_left n by small far =
    let e : n ≡ 0 * 2 ^ by + n = omega arith in
    let turned : 0 + min 1 n ≡ min n 1 = omega arith in
    div_ceil_parts n (2 ^ by) 0 n (none_left n by small far) (ap (λ x. x % 2 ^ by) e ∙ mod-mul-add 0 (2 ^ by) n (below_power n by small far)) ∙ turned

-- a number above 0 moved by 32 places or more is beyond 32 bits
pub far_up : (n by : ℕ) → 0 < n → 32 ≤ by → 2 ^ 32 ≤ n * 2 ^ by
far_up n by some far = omega (arith, mul-le 1 (2 ^ 32) n (2 ^ by) (omega arith) (pow_mono {i = 32} {j = by} far))
