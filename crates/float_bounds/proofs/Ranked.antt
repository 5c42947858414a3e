-- Serves proofs alone: finite floats are ordered as their bits below the sign are, behind it.
use Rattle.std.proofs.Common.{◌≡◌, ℕ, zero, suc, ◌+◌, ◌-◌, ◌*◌, ◌%◌, ◌^◌, ◌<◌, ◌≤◌, Bool, true, false, cond, ◌==◌}
use Rattle.std.proofs.Common.{ℤ, pos, neg_ℤ, int_le, ◌≤ℤ◌, ◌<ℤ◌}
use Rattle.std.proofs.Common.{Ok, Err, refl, sym, ap, subst, ◌∙◌, arith, inl, inr}
use Rattle.std.proofs.lemmas.Bool.{cases_order, ne_eqb}
use Rattle.std.proofs.lemmas.Int.{ints, by_lt_z}
use Rattle.std.proofs.lemmas.Nat.{pow_pos, mul-le, mod-pow-add, mod_below}
use Rattle.std.proofs.Math.Nat.{pow-suc}
use Rattle.std.proofs.Math.Pow.{pow_mono}
use Rattle.float_bounds.specs.declared.float_fault.FloatFault.{FloatFault}
use Rattle.float_bounds.specs.declared.format.Format.{Format}
use Rattle.float_bounds.specs.declared.parts.FloatParts.{FloatParts}
use Rattle.float_bounds.specs.Value.{value_of, value, and_then, signed, is_negative, biased_exponent, fraction_of}
use Rattle.float_bounds.specs.Rank.{rank}
use Rattle.fixed_box.proofs.Numbers.{test_of_le}

-- a magnitude from a biased exponent and a trailing significand below p
abbrev magnitude : ℕ → ℕ → ℕ → ℕ
magnitude p e f = (cond (e == 0) f (p + f)) * 2 ^ (e - 1)

subnormal : (p f : ℕ) → magnitude p 0 f ≡ f
subnormal p f = omega arith

normal : (p k f : ℕ) → magnitude p (suc k) f ≡ (p + f) * 2 ^ k
normal p k f =
    let back : suc k - 1 ≡ k = omega arith in
    ap (λ b. (cond b f (p + f)) * 2 ^ (suc k - 1)) (ne_eqb (suc k) 0 (λ e. omega arith)) ∙ ap (λ j. (p + f) * 2 ^ j) back

over_subnormal : (p f k g : ℕ) → f < p → f < (p + g) * 2 ^ k
over_subnormal p f k g small = omega (arith, pow_pos k, mul-le p 1 (p + g) (2 ^ k) (omega arith) (omega (arith, pow_pos k)))

same_exponent : (p f g k : ℕ) → f < g → (p + f) * 2 ^ k < (p + g) * 2 ^ k
same_exponent p f g k less = omega (arith, pow_pos k, mul-le (suc (p + f)) (2 ^ k) (p + g) (2 ^ k) (omega arith) (omega arith))

greater_exponent : (p f g j k : ℕ) → f < p → j < k → (p + f) * 2 ^ j < (p + g) * 2 ^ k
greater_exponent p f g j k small less =
    let doubled : 2 ^ j * 2 ≤ 2 ^ k = omega (arith, pow-suc 2 j, pow_mono {i = suc j} {j = k} (omega arith)) in
    omega (
      arith,
      pow_pos j,
      mul-le (suc (p + f)) (2 ^ j) (p + p) (2 ^ j) (omega arith) (omega arith),
      mul-le p (2 ^ j * 2) (p + g) (2 ^ k) (omega arith) doubled,
    )

-- places of which the higher has the lower exponent
turned : (p d e f g : ℕ) → g < p → e < d → d * p + f < e * p + g → ⊥
turned p d e f g small less h = omega (arith, mul-le (suc e) p d p (omega arith) (omega arith))

-- magnitudes rise with the place of their bits
rises : (p d e f g : ℕ) → f < p → g < p → d * p + f < e * p + g → magnitude p d f < magnitude p e g
rises p zero zero f g small little h = omega (arith, subnormal p f, subnormal p g)
rises p zero (suc k) f g small little h = omega (arith, subnormal p f, normal p k g, over_subnormal p f k g small)
rises p (suc j) zero f g small little h = absurd (turned p (suc j) zero f g little (omega arith) h)
rises p (suc j) (suc k) f g small little h =
    elim (cases_order j k) [
      | inl same ↦ (
          let P : ℕ → Type 0 = λ n. suc j * p + f < suc n * p + g → (p + f) * 2 ^ j < (p + g) * 2 ^ n in
          let above : (p + f) * 2 ^ j < (p + g) * 2 ^ k = subst P same (λ h. same_exponent p f g j (omega arith)) h in
          omega (arith, normal p j f, normal p k g, above)
          )
      | inr (inl less) ↦ omega (arith, normal p j f, normal p k g, greater_exponent p f g j k small less)
      | inr (inr more) ↦ absurd (turned p (suc j) (suc k) f g little (omega arith) h)
    ]

-- m is a magnitude with the place r
record IsMagnitudeAt (p m r : ℕ) : Type 0 where
  e : ℕ
  f : ℕ
  small : f < p
  place : r ≡ e * p + f
  size : m ≡ magnitude p e f

less_at : (p m r n s : ℕ) → IsMagnitudeAt p m r → IsMagnitudeAt p n s → r < s → m < n
less_at p m r n s a b h = omega (arith, rises p a.e b.e a.f b.f a.small b.small (omega (arith, a.place, b.place)), a.size, b.size)

same_at : (p m r n s : ℕ) → IsMagnitudeAt p m r → IsMagnitudeAt p n s → r ≡ s → m ≡ n
same_at p m r n s a b h = let here = place_once p a.e b.e a.f b.f a.small b.small (sym a.place ∙ h ∙ b.place) in
    a.size ∙ (λ i. magnitude p (here.0 i) (here.1 i)) ∙ sym b.size
  where
    place_once : (p d e f g : ℕ) → f < p → g < p → d * p + f ≡ e * p + g → (d ≡ e) × (f ≡ g)
    place_once p d e f g small little h =
        elim (cases_order d e) [
          | inl same ↦ (same, (let P : ℕ → Type 0 = λ e. d * p + f ≡ e * p + g → f ≡ g in subst P same (λ h. omega arith) h))
          | inr (inl less) ↦ absurd (omega (arith, mul-le (suc d) p e p (omega arith) (omega arith)))
          | inr (inr more) ↦ absurd (omega (arith, mul-le (suc e) p d p (omega arith) (omega arith)))
        ]

-- the place 0 is that of zero
zero_at : (p : ℕ) → 0 < p → IsMagnitudeAt p 0 0
zero_at p positive = record { e = 0; f = 0; small = positive; place = omega arith; size = sym (subnormal p 0) }

none_at : (p m r : ℕ) → IsMagnitudeAt p m r → r ≡ 0 → m ≡ 0
none_at p m r a h = same_at p m r 0 0 a (zero_at p (omega (arith, a.small))) h

some_at : (p m r : ℕ) → IsMagnitudeAt p m r → 0 < r → 0 < m
some_at p m r a h = less_at p 0 0 m r (zero_at p (omega (arith, a.small))) a h

test_fails : (x y : ℤ) → y <ℤ x → int_le x y ≡ false
test_fails x y h = grind (arith, ints)

-- a test that keeps both of its answers
same_answer : (x y z w : ℤ) → (x ≤ℤ y → z ≤ℤ w) → (y <ℤ x → w <ℤ z) → int_le x y ≡ int_le z w
same_answer x y z w keeps breaks =
    by_lt_z y x (λ h. test_fails x y h ∙ sym (test_fails z w (breaks h))) (λ h. test_of_le x y h ∙ sym (test_of_le z w (keeps h)))

-- m keeps to the place r: it is zero there alone
record Follows (m r : ℕ) : Type 0 where
  none : r ≡ 0 → m ≡ 0
  some : 0 < r → 0 < m

not_above : (r s m n : ℕ) → (r < s → m < n) → (r ≡ s → m ≡ n) → r ≤ s → m ≤ n
not_above r s m n up even h = elim (cases_order r s) [
  | inl same ↦ omega (arith, even same)
  | inr (inl less) ↦ omega (arith, up less)
  | inr (inr more) ↦ absurd (omega arith)
]

-- one of two that aren't both zero is above zero
above_zero : (r s m n : ℕ) → Follows m r → Follows n s → 0 < r + s → 0 < m + n
above_zero zero s m n a b h = omega (arith, b.some (omega arith))
above_zero (suc r) s m n a b h = omega (arith, a.some (omega arith))

behind_signs : (a b : Bool) (r s m n : ℕ) → (r < s → m < n) → (s < r → n < m) → (r ≡ s → m ≡ n) → Follows m r → Follows n s
    → int_le (signed a r) (signed b s) ≡ int_le (signed a m) (signed b n)
behind_signs true true r s m n up down even first second =
    same_answer (neg_ℤ (pos r)) (neg_ℤ (pos s)) (neg_ℤ (pos m)) (neg_ℤ (pos n))
    (λ h. omega (arith, ints, not_above s r n m down (λ e. sym (even (sym e))) (omega (arith, ints)))) (λ h. omega (arith, ints, up (omega (arith, ints))))
behind_signs true false r s m n up down even first second =
    same_answer (neg_ℤ (pos r)) (pos s) (neg_ℤ (pos m)) (pos n) (λ h. omega (arith, ints)) (λ h. absurd (omega (arith, ints)))
behind_signs false true r s m n up down even first second =
    same_answer (pos r) (neg_ℤ (pos s)) (pos m) (neg_ℤ (pos n))
    (λ h. omega (arith, ints, first.none (omega (arith, ints)), second.none (omega (arith, ints))))
    (λ h. omega (arith, ints, above_zero r s m n first second (omega (arith, ints))))
behind_signs false false r s m n up down even first second =
    same_answer (pos r) (pos s) (pos m) (pos n) (λ h. omega (arith, ints, not_above r s m n up even (omega (arith, ints))))
    (λ h. omega (arith, ints, down (omega (arith, ints))))

-- the size of a finite float
abbrev size_of : Format → ℕ → ℕ
size_of f bits = magnitude (2 ^ f.fraction_bits) (biased_exponent f bits) (fraction_of f bits)

size_at : (f : Format) (bits : ℕ) → IsMagnitudeAt (2 ^ f.fraction_bits) (size_of f bits) (bits % 2 ^ (f.exponent_bits + f.fraction_bits))
size_at f bits = record {
  e = biased_exponent f bits;
  f = fraction_of f bits;
  small = mod_below bits (2 ^ f.fraction_bits) (pow_pos f.fraction_bits);
  place = mod-pow-add bits f.exponent_bits f.fraction_bits;
  size = refl;
}

chosen : (t : Bool) (fault : FloatFault) (p : FloatParts) (v : ℤ) → and_then (λ p. Ok (value_of p)) (cond t (Err fault) (Ok p)) ≡ Ok v → v ≡ value_of p
chosen true fault p v e = absurd (cc)
chosen false fault p v e = cc

value_is : (f : Format) (bits : ℕ) (v : ℤ) → value f bits ≡ Ok v → v ≡ signed (is_negative f bits) (size_of f bits)
value_is f bits v e = chosen (biased_exponent f bits == 2 ^ f.exponent_bits - 1) _ _ v e

-- finite floats are ordered as their ranks
pub ranked : (f : Format) (a b : ℕ) (v w : ℤ) → value f a ≡ Ok v → value f b ≡ Ok w → int_le (rank f a) (rank f b) ≡ int_le v w
ranked f a b v w first second =
    let p = 2 ^ f.fraction_bits in
    let r = a % 2 ^ (f.exponent_bits + f.fraction_bits) in
    let s = b % 2 ^ (f.exponent_bits + f.fraction_bits) in
    let m = size_of f a in
    let n = size_of f b in
    let here : IsMagnitudeAt p m r = size_at f a in
    let there : IsMagnitudeAt p n s = size_at f b in
    behind_signs (is_negative f a) (is_negative f b) r s m n (less_at p m r n s here there) (less_at p n s m r there here)
    (same_at p m r n s here there) (record { none = none_at p m r here; some = some_at p m r here })
    (record { none = none_at p n s there; some = some_at p n s there })
    ∙ (λ i. int_le (sym (value_is f a v first) i) (sym (value_is f b w second) i))
