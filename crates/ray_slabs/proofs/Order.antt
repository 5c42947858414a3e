-- The order of whole numbers under a factor, and the order of fractions by cross products.
use Rattle.std.proofs.Common.{◌≡◌, true, false, pos, ◌*ℤ◌, ◌≤ℤ◌, ◌<ℤ◌, arith}
use Rattle.std.proofs.lemmas.Int.{ints}
use Rattle.ray_slabs.specs.Crossing.{Fraction}
pub use Rattle.fixed_box.proofs.Bools.{same_bool}
pub use Rattle.fixed_box.proofs.Numbers.{le_of_test, test_of_le}
pub use Rattle.ray_slabs.specs.ProductLaws.{sub_mul, add_mul, sub_mul_sub, mul_swap, mul_neg, scaled, unscaled, same_le}
use Rattle.ray_slabs.specs.Mirrored.{at_most}

-- The order of fractions. The outer denominators may be 0.
pub by_middle : (a b c : Fraction) → pos 0 ≤ℤ a.den → pos 0 <ℤ b.den → pos 0 ≤ℤ c.den → at_most a b ≡ true → at_most b c ≡ true → at_most a c ≡ true
by_middle a b c ha hb hc ab bc =
    let by_c : ((a.num *ℤ b.den) *ℤ c.den) ≤ℤ ((b.num *ℤ a.den) *ℤ c.den) = scaled (a.num *ℤ b.den) (b.num *ℤ a.den) c.den hc
    (le_of_test (a.num *ℤ b.den) (b.num *ℤ a.den) ab) in
    let by_a : ((b.num *ℤ c.den) *ℤ a.den) ≤ℤ ((c.num *ℤ b.den) *ℤ a.den) = scaled (b.num *ℤ c.den) (c.num *ℤ b.den) a.den ha
    (le_of_test (b.num *ℤ c.den) (c.num *ℤ b.den) bc) in
    let swapped : (a.num *ℤ b.den) *ℤ c.den ≡ (a.num *ℤ c.den) *ℤ b.den = mul_swap a.num b.den c.den in
    let swapped' : (b.num *ℤ a.den) *ℤ c.den ≡ (b.num *ℤ c.den) *ℤ a.den = mul_swap b.num a.den c.den in
    let swapped'' : (c.num *ℤ b.den) *ℤ a.den ≡ (c.num *ℤ a.den) *ℤ b.den = mul_swap c.num b.den a.den in
    test_of_le (a.num *ℤ c.den) (c.num *ℤ a.den) (unscaled (a.num *ℤ c.den) (c.num *ℤ a.den) b.den hb (omega (arith, ints)))

pub at_most_trans : (a b c : Fraction) → pos 0 <ℤ a.den → pos 0 <ℤ b.den → pos 0 <ℤ c.den → at_most a b ≡ true → at_most b c ≡ true → at_most a c ≡ true
at_most_trans a b c ha hb hc ab bc = by_middle a b c (omega (arith, ints)) hb (omega (arith, ints)) ab bc

pub at_most_refl : (a : Fraction) → at_most a a ≡ true
at_most_refl a = test_of_le (a.num *ℤ a.den) (a.num *ℤ a.den) (omega (arith, ints))

pub at_most_total : (a b : Fraction) → at_most a b ≡ false → at_most b a ≡ true
at_most_total a b h = test_of_le (b.num *ℤ a.den) (a.num *ℤ b.den) (omega (arith, ints))
