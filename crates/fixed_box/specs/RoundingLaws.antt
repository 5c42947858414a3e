-- Serves proofs alone: rounding to the nearest raw number.
use Rattle.std.proofs.Common.{◌≡◌, ℕ, zero, suc, ◌+◌, ◌-◌, ◌*◌, ◌/◌, ◌%◌, ◌^◌, ◌<◌, ◌≤◌, pos, negsuc, ◌+ℤ◌, ◌*ℤ◌, neg_ℤ, refl, sym, ap, ◌∙◌, arith}
use Rattle.std.proofs.Common.{◌⊎◌, inl, inr, ⊎_elim}
use Rattle.std.proofs.lemmas.Nat.{div-mul-add, div-add-mod', mod_below}
use Rattle.std.proofs.lemmas.Int.{ints}
use Rattle.std.proofs.lemmas.Bool.{cases_lt}
use Rattle.std.proofs.Math.Nat.{pow-suc}
use Rattle.fixed_box.specs.Fix.{floor_div, nearest_raw}

pub quotient : (n d q r : ℕ) → n ≡ q * d + r → r < d → n / d ≡ q
quotient n d q r e lt = ap (λ x. x / d) e ∙ div-mul-add q d r lt

-- the whole part needs no rounding
pub rounded_parts : (whole fraction t : ℕ) → 0 < t → (131072 * (whole * t + fraction) + t) / (2 * t) ≡ whole * 65536 + (fraction * 131072 + t) / (2 * t)
rounded_parts whole fraction t positive =
    let q = (fraction * 131072 + t) / (2 * t) in
    let r = (fraction * 131072 + t) % (2 * t) in
    let e : q * (2 * t) + r ≡ fraction * 131072 + t = div-add-mod' (fraction * 131072 + t) (2 * t) in
    let lt : r < 2 * t = mod_below (fraction * 131072 + t) (2 * t) (omega arith) in
    quotient (131072 * (whole * t + fraction) + t) (2 * t) (whole * 65536 + q) r (omega arith) lt

-- no number with so few digits behind its point lies half way between two raw numbers
pub no_tie : (k n q : ℕ) → k ≤ 9 → 131072 * n + 10 ^ k ≡ q * (2 * 10 ^ k) → ⊥
no_tie zero n q h e = omega arith
no_tie (suc zero) n q h e = omega arith
no_tie (suc (suc zero)) n q h e = omega arith
no_tie (suc (suc (suc zero))) n q h e = omega arith
no_tie (suc (suc (suc (suc zero)))) n q h e = omega arith
no_tie (suc (suc (suc (suc (suc zero))))) n q h e = omega arith
no_tie (suc (suc (suc (suc (suc (suc zero)))))) n q h e = omega arith
no_tie (suc (suc (suc (suc (suc (suc (suc zero))))))) n q h e = omega arith
no_tie (suc (suc (suc (suc (suc (suc (suc (suc zero)))))))) n q h e = omega arith
no_tie (suc (suc (suc (suc (suc (suc (suc (suc (suc zero))))))))) n q h e = omega arith
no_tie (suc (suc (suc (suc (suc (suc (suc (suc (suc (suc k)))))))))) n q h e = omega arith

times_negative : (n : ℕ) → pos 131072 *ℤ neg_ℤ (pos n) ≡ neg_ℤ (pos (131072 * n))
times_negative zero = refl
times_negative (suc n) = refl

low_side : (a t : ℕ) → a ≤ t → neg_ℤ (pos a) +ℤ pos t ≡ pos (t - a)
low_side a t le = omega (arith, ints)

high_side : (a t : ℕ) → t < a → neg_ℤ (pos a) +ℤ pos t ≡ negsuc (a - t - 1)
high_side a t lt = omega (arith, ints)

-- where no tie arises, the nearest to a negative number is the negative of the nearest
floor_negative : (a t : ℕ) → 0 < t → ((q : ℕ) → a + t ≡ q * (2 * t) → ⊥) → floor_div (neg_ℤ (pos a) +ℤ pos t) (2 * t) ≡ neg_ℤ (pos ((a + t) / (2 * t)))
floor_negative a t positive untied =
    let q = (a + t) / (2 * t) in
    let r = (a + t) % (2 * t) in
    let e : q * (2 * t) + r ≡ a + t = div-add-mod' (a + t) (2 * t) in
    let lt : r < 2 * t = mod_below (a + t) (2 * t) (omega arith) in
    ⊎_elim
    (λ (le : a ≤ t). ap (λ z. floor_div z (2 * t)) (low_side a t le) ∙ ap pos (quotient (t - a) (2 * t) 0 (t - a) (omega arith) (omega arith))
    ∙ sym (ap (λ n. neg_ℤ (pos n)) (small a t le untied)))
    (λ (more : t < a). ap (λ z. floor_div z (2 * t)) (high_side a t more) ∙ above a t q r e lt more (λ none. untied q (omega arith)))
    (sides a t)
  where
    sides : (a t : ℕ) → (a ≤ t) ⊎ (t < a)
    sides a t = elim (cases_lt t a) [ inl h ↦ inr h | inr h ↦ inl h ]

    small : (a t : ℕ) → a ≤ t → ((q : ℕ) → a + t ≡ q * (2 * t) → ⊥) → (a + t) / (2 * t) ≡ 0
    small a t le untied = let h = untied 1 in quotient (a + t) (2 * t) 0 (a + t) (omega arith) (omega arith)

    above : (a t q r : ℕ) → q * (2 * t) + r ≡ a + t → r < 2 * t → t < a → (r ≡ 0 → ⊥) → negsuc ((a - t - 1) / (2 * t)) ≡ neg_ℤ (pos q)
    above a t zero r e lt more remains = absurd (omega arith)
    above a t (suc p) r e lt more remains = ap negsuc (quotient (a - t - 1) (2 * t) p (r - 1) (omega arith) (omega arith))

pub power_positive : (k : ℕ) → 0 < 10 ^ k
power_positive zero = omega arith
power_positive (suc k) = omega (arith, power_positive k, pow-suc 10 k)

pub nearest_negative : (n k : ℕ) → k ≤ 9 → nearest_raw (neg_ℤ (pos n)) k ≡ neg_ℤ (pos ((131072 * n + 10 ^ k) / (2 * 10 ^ k)))
nearest_negative n k few =
    ap (λ z. floor_div (z +ℤ pos (10 ^ k)) (2 * 10 ^ k)) (times_negative n)
    ∙ floor_negative (131072 * n) (10 ^ k) (power_positive k) (λ q e. no_tie k n q few e)
