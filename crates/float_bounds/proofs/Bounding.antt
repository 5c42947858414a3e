-- Serves proofs alone: quotients rounded down and up, against products.
use Rattle.std.proofs.Common.{◌≡◌, ℕ, zero, suc, ◌+◌, ◌*◌, ◌/◌, ◌%◌, ◌^◌, ◌<◌, Bool, true, false, cond, ◌&&◌, ℤ, pos}
use Rattle.std.proofs.Common.{negsuc, neg_ℤ, int_le}
use Rattle.std.proofs.Common.{◌+ℤ◌, ◌-ℤ◌, ◌*ℤ◌, ◌≤ℤ◌, ◌<ℤ◌, Result, Ok, Err, refl, sym, ap, subst, ◌∙◌, arith}
use Rattle.std.proofs.lemmas.Bool.{and_from, cond-true}
use Rattle.std.proofs.lemmas.Int.{ints, by_lt_z}
use Rattle.std.proofs.lemmas.Nat.{pow_pos, shl-shr, div-add-mod', mod_below, mul-le}
use Rattle.fixed_box.specs.Fix.{floor_div}
use Rattle.float_bounds.specs.declared.float_fault.FloatFault.{FloatFault}
use Rattle.float_bounds.specs.declared.float_fault.FloatFault.TheVariants.{OutOfRange}
use Rattle.float_bounds.specs.declared.format.Format.{Format}
use Rattle.float_bounds.specs.Format.{raw_step, step_bits}
use Rattle.float_bounds.specs.Value.{value, and_then}
use Rattle.float_bounds.specs.Rounding.{ceil_div, within_range, fix_below, fix_above}
use Rattle.float_bounds.specs.Laws.{IsGreatestBelow, IsLeastAbove}
use Rattle.float_bounds.proofs.Scaling.{exact_up}
use Rattle.float_bounds.proofs.Rounded.{twice_negative, floor_negative, ceil_negative, ceil_positive}

-- a product with a negative number
negative_times : (q d : ℕ) → neg_ℤ (pos q) *ℤ pos d ≡ neg_ℤ (pos (q * d))
negative_times zero d = omega (arith, ints)
negative_times (suc q) d = refl

pub floor_bounds : (z : ℤ) (d : ℕ) → 0 < d → IsGreatestBelow d z (floor_div z d)
floor_bounds (pos a) d positive =
    let e : a / d * d + a % d ≡ a = div-add-mod' a d in
    let lt : a % d < d = mod_below a d positive in
    record { at_most = omega (arith, ints); next = omega (arith, ints) }
floor_bounds (negsuc a) d positive =
    let e : a / d * d + a % d ≡ a = div-add-mod' a d in
    let lt : a % d < d = mod_below a d positive in
    let above : negsuc (a / d) +ℤ pos 1 ≡ neg_ℤ (pos (a / d)) = omega (arith, ints) in
    let next : (negsuc (a / d) +ℤ pos 1) *ℤ pos d ≡ neg_ℤ (pos (a / d * d)) = ap (λ r. r *ℤ pos d) above ∙ negative_times (a / d) d in
    record { at_most = omega (arith, ints, negative_times (suc (a / d)) d); next = omega (arith, ints, next) }

-- turned over, the greatest below is the least above
negated : (x : ℤ) (d : ℕ) → neg_ℤ x *ℤ pos d ≡ neg_ℤ (x *ℤ pos d)
negated (pos n) d = negative_times n d
negated (negsuc n) d = sym (twice_negative (suc n * d))

pub ceil_bounds : (z : ℤ) (d : ℕ) → 0 < d → IsLeastAbove d z (ceil_div z d)
ceil_bounds z d positive =
    let q = floor_div (neg_ℤ z) d in
    let floor : IsGreatestBelow d (neg_ℤ z) q = floor_bounds (neg_ℤ z) d positive in
    let back : neg_ℤ q -ℤ pos 1 ≡ neg_ℤ (q +ℤ pos 1) = omega (arith, ints) in
    let before : (neg_ℤ q -ℤ pos 1) *ℤ pos d ≡ neg_ℤ ((q +ℤ pos 1) *ℤ pos d) = ap (λ r. r *ℤ pos d) back ∙ negated (q +ℤ pos 1) d in
    record {
      at_least = omega (arith, ints, floor.at_most, negated q d);
      before = omega (arith, ints, floor.next, before);
    }

-- a factor above 0 keeps an order
below_times : (x y : ℤ) (d : ℕ) → 0 < d → x <ℤ y → (x *ℤ pos d) <ℤ (y *ℤ pos d)
below_times (pos a) (pos b) d positive h = omega (arith, ints, mul-le (suc a) d b d (omega (arith, ints)) (omega arith))
below_times (pos a) (negsuc b) d positive h = absurd (omega (arith, ints))
below_times (negsuc a) (pos b) d positive h = omega (arith, ints, negative_times (suc a) d, mul-le 1 d (suc a) d (omega arith) (omega arith))
below_times (negsuc a) (negsuc b) d positive h =
    omega (arith, ints, negative_times (suc a) d, negative_times (suc b) d, mul-le (suc (suc b)) d (suc a) d (omega (arith, ints)) (omega arith))

-- products in order have their factors in order
pub factors : (x y v w : ℤ) (d : ℕ) → 0 < d → (x *ℤ pos d) ≤ℤ v → v ≤ℤ w → w ≤ℤ (y *ℤ pos d) → x ≤ℤ y
factors x y v w d positive low between high =
    by_lt_z y x (λ h. absurd (omega (arith, ints, below_times y x d positive h, low, between, high))) (λ h. h)

-- numbers that stand in a circle
circle : (a b v : ℤ) → b ≤ℤ a → a ≤ℤ v → v <ℤ b → ⊥
circle a b v le low high = omega (arith, ints)

circle_above : (a b v : ℤ) → a ≤ℤ b → b <ℤ v → v ≤ℤ a → ⊥
circle_above a b v le low high = omega (arith, ints)

same_order : (x y : ℤ) (d : ℕ) → 0 < d → x ≤ℤ y → (x *ℤ pos d) ≤ℤ (y *ℤ pos d)
same_order x y d positive h =
    by_lt_z x y (λ less. weaker (x *ℤ pos d) (y *ℤ pos d) (below_times x y d positive less))
    (λ more.
    let same : x ≡ y = omega (arith, ints) in
    let P : ℤ → Type 0 = λ z. (x *ℤ pos d) ≤ℤ (z *ℤ pos d) in
    subst P same (itself (x *ℤ pos d)))
  where
    weaker : (a b : ℤ) → a <ℤ b → a ≤ℤ b
    weaker a b less = omega (arith, ints)

    itself : (a : ℤ) → a ≤ℤ a
    itself a = omega (arith, ints)

-- nothing above the greatest below is below, and nothing under the least above is above
pub greatest : (x v r : ℤ) (d : ℕ) → 0 < d → IsGreatestBelow d v r → (x *ℤ pos d) ≤ℤ v → x ≤ℤ r
greatest x v r d positive bounds h =
    by_lt_z r x
    (λ more. absurd (circle (x *ℤ pos d) ((r +ℤ pos 1) *ℤ pos d) v (same_order (r +ℤ pos 1) x d positive (omega (arith, ints))) h bounds.next))
    (λ le. le)

pub least : (x v r : ℤ) (d : ℕ) → 0 < d → IsLeastAbove d v r → v ≤ℤ (x *ℤ pos d) → r ≤ℤ x
least x v r d positive bounds h =
    by_lt_z x r
    (λ less. absurd (circle_above (x *ℤ pos d) ((r -ℤ pos 1) *ℤ pos d) v (same_order x (r -ℤ pos 1) d positive (omega (arith, ints))) bounds.before h))
    (λ le. le)

-- what is in range is left as it is
ranged : (t : Bool) (r s : ℤ) → cond {A = Result ℤ FloatFault} t (Ok r) (Err OutOfRange) ≡ Ok s → s ≡ r
ranged true r s e = cc
ranged false r s e = absurd (cc)

pub in_range : (r s : ℤ) → within_range r ≡ Ok s → s ≡ r
in_range r s e = ranged (int_le (negsuc 2147483647) r && int_le r (pos 2147483647)) r s e

pub within : (r : ℤ) → negsuc 2147483647 ≤ℤ r → r ≤ℤ pos 2147483647 → within_range r ≡ Ok r
within r low high =
    let first : int_le (negsuc 2147483647) r ≡ true = grind (arith, ints) in
    let last : int_le r (pos 2147483647) ≡ true = grind (arith, ints) in
    cond-true _ (Ok r) (Err OutOfRange) (and_from (int_le (negsuc 2147483647) r) (int_le r (pos 2147483647)) first last)

-- an outcome that is no fault came from one
pub had : {A B : Type 0} (r : Result A FloatFault) (next : A → Result B FloatFault) (s : B) → and_then next r ≡ Ok s
    → (v : A) × ((r ≡ Ok v) × (next v ≡ Ok s))
had (Ok v) next s e = (v, (refl, e))
had (Err fault) next s e = absurd (cc)

pub step_positive : (f : Format) → 0 < raw_step f
step_positive f = pow_pos (step_bits f)

pub below_is : (f : Format) (bits : ℕ) (v r : ℤ) → value f bits ≡ Ok v → fix_below f bits ≡ Ok r → r ≡ floor_div v (raw_step f)
below_is f bits v r e h = in_range _ r (ap (λ o. and_then (λ v. within_range (floor_div v (raw_step f))) o) (sym e) ∙ h)

pub above_is : (f : Format) (bits : ℕ) (v r : ℤ) → value f bits ≡ Ok v → fix_above f bits ≡ Ok r → r ≡ ceil_div v (raw_step f)
above_is f bits v r e h = in_range _ r (ap (λ o. and_then (λ v. within_range (ceil_div v (raw_step f))) o) (sym e) ∙ h)

pub below_bounds : (f : Format) (bits : ℕ) (v r : ℤ) → value f bits ≡ Ok v → fix_below f bits ≡ Ok r → IsGreatestBelow (raw_step f) v r
below_bounds f bits v r e h =
    let P : ℤ → Type 0 = λ r. IsGreatestBelow (raw_step f) v r in subst P (sym (below_is f bits v r e h)) (floor_bounds v (raw_step f) (step_positive f))

pub above_bounds : (f : Format) (bits : ℕ) (v r : ℤ) → value f bits ≡ Ok v → fix_above f bits ≡ Ok r → IsLeastAbove (raw_step f) v r
above_bounds f bits v r e h =
    let P : ℤ → Type 0 = λ r. IsLeastAbove (raw_step f) v r in subst P (sym (above_is f bits v r e h)) (ceil_bounds v (raw_step f) (step_positive f))

-- a lower number rounded down is at most a higher one rounded up
pub below_above : (f : Format) (a b : ℕ) (v w r s : ℤ) → value f a ≡ Ok v → value f b ≡ Ok w → fix_below f a ≡ Ok r
    → fix_above f b ≡ Ok s → v ≤ℤ w → r ≤ℤ s
below_above f a b v w r s first second low high le =
    factors r s v w (raw_step f) (step_positive f) (below_bounds f a v r first low).at_most le (above_bounds f b w s second high).at_least

-- a whole number of raw units is rounded to itself
floor_exact : (r : ℤ) (k : ℕ) → floor_div (r *ℤ pos (2 ^ k)) (2 ^ k) ≡ r
floor_exact (pos a) k = ap pos (shl-shr a k)
floor_exact (negsuc a) k = floor_negative (suc a * 2 ^ k) (2 ^ k) (pow_pos k) ∙ ap (λ n. neg_ℤ (pos n)) (exact_up (suc a) k)

ceil_exact : (r : ℤ) (k : ℕ) → ceil_div (r *ℤ pos (2 ^ k)) (2 ^ k) ≡ r
ceil_exact (pos a) k = ceil_positive (a * 2 ^ k) (2 ^ k) (pow_pos k) ∙ ap pos (exact_up a k)
ceil_exact (negsuc a) k = ceil_negative (suc a * 2 ^ k) (2 ^ k) ∙ ap (λ n. neg_ℤ (pos n)) (shl-shr (suc a) k)

pub below_exact : (f : Format) (bits : ℕ) (r : ℤ) → value f bits ≡ Ok (r *ℤ pos (raw_step f)) → negsuc 2147483647 ≤ℤ r
    → r ≤ℤ pos 2147483647 → fix_below f bits ≡ Ok r
below_exact f bits r e low high =
    ap (λ o. and_then (λ v. within_range (floor_div v (raw_step f))) o) e ∙ ap within_range (floor_exact r (step_bits f)) ∙ within r low high

pub above_exact : (f : Format) (bits : ℕ) (r : ℤ) → value f bits ≡ Ok (r *ℤ pos (raw_step f)) → negsuc 2147483647 ≤ℤ r
    → r ≤ℤ pos 2147483647 → fix_above f bits ≡ Ok r
above_exact f bits r e low high =
    ap (λ o. and_then (λ v. within_range (ceil_div v (raw_step f))) o) e ∙ ap within_range (ceil_exact r (step_bits f)) ∙ within r low high
