-- Serves proofs alone: products over the whole numbers, in an order and under a swap.
use Rattle.std.proofs.Common.{◌≡◌, ap, ◌∙◌, ◌+◌, ◌*◌, ℤ, pos, negsuc, ◌+ℤ◌, ◌-ℤ◌, ◌*ℤ◌, neg_ℤ, ◌≤ℤ◌, ◌<ℤ◌, int_le, arith}
use Rattle.std.proofs.lemmas.Int.{ints}
use Rattle.std.proofs.Math.IntN.{*ℤ_comm}
use Rattle.std.proofs.Math.Nat.{mul-le-mul_left, le_of_mul-le-mul_left}
use borrow.Author.Differences.{up, down, le_out, at_most_in, same_in, product_is, neg_is}
use Rattle.fixed_box.proofs.Bools.{same_bool}
use Rattle.fixed_box.proofs.Numbers.{test_of_le, le_of_test}

-- the laws of products that `omega` lacks
pub sub_mul : (a b k : ℤ) → (a -ℤ b) *ℤ k ≡ a *ℤ k -ℤ b *ℤ k
sub_mul a b k =
    let parts : up (a -ℤ b) + down a + up b ≡ down (a -ℤ b) + up a + down b = omega (arith, ints) in
    omega (arith, ints, ap (λ n. n * up k) parts, ap (λ n. n * down k) parts)

pub add_mul : (a b k : ℤ) → (a +ℤ b) *ℤ k ≡ a *ℤ k +ℤ b *ℤ k
add_mul a b k =
    let parts : up (a +ℤ b) + down a + down b ≡ down (a +ℤ b) + up a + up b = omega (arith, ints) in
    omega (arith, ints, ap (λ n. n * up k) parts, ap (λ n. n * down k) parts)

-- each of two differences multiplied out
pub sub_mul_sub : (a b c d : ℤ) → (a -ℤ b) *ℤ (c -ℤ d) ≡ (a *ℤ c -ℤ a *ℤ d) -ℤ (b *ℤ c -ℤ b *ℤ d)
sub_mul_sub a b c d =
    let first : a *ℤ (c -ℤ d) ≡ a *ℤ c -ℤ a *ℤ d = *ℤ_comm a (c -ℤ d) ∙ sub_mul c d a ∙ (λ i. *ℤ_comm c a i -ℤ *ℤ_comm d a i) in
    let second : b *ℤ (c -ℤ d) ≡ b *ℤ c -ℤ b *ℤ d = *ℤ_comm b (c -ℤ d) ∙ sub_mul c d b ∙ (λ i. *ℤ_comm c b i -ℤ *ℤ_comm d b i) in
    sub_mul a b (c -ℤ d) ∙ (λ i. first i -ℤ second i)

pub mul_swap : (a b c : ℤ) → (a *ℤ b) *ℤ c ≡ (a *ℤ c) *ℤ b
mul_swap a b c =
    let ups : (x y z : ℤ) → up ((x *ℤ y) *ℤ z) ≡ (up x * up y + down x * down y) * up z + (up x * down y + down x * up y) * down z =
    λ x y z. (product_is (x *ℤ y) z).0 ∙ (λ i. (product_is x y).0 i * up z + (product_is x y).1 i * down z) in
    let downs : (x y z : ℤ) → down ((x *ℤ y) *ℤ z) ≡ (up x * up y + down x * down y) * down z + (up x * down y + down x * up y) * up z =
    λ x y z. (product_is (x *ℤ y) z).1 ∙ (λ i. (product_is x y).0 i * down z + (product_is x y).1 i * up z) in
    same_in ((a *ℤ b) *ℤ c) ((a *ℤ c) *ℤ b) (omega (arith, ups a b c, ups a c b, downs a b c, downs a c b))

pub mul_neg : (a b : ℤ) → a *ℤ neg_ℤ b ≡ neg_ℤ (a *ℤ b)
mul_neg a b =
    let ups : up (a *ℤ neg_ℤ b) ≡ up a * down b + down a * up b = (product_is a (neg_ℤ b)).0 ∙ (λ i. up a * (neg_is b).0 i + down a * (neg_is b).1 i) in
    let downs : down (a *ℤ neg_ℤ b) ≡ up a * up b + down a * down b = (product_is a (neg_ℤ b)).1 ∙ (λ i. up a * (neg_is b).1 i + down a * (neg_is b).0 i) in
    omega (arith, ints)

-- a factor above 0 keeps an order, and can be taken away
pub scaled : (a b k : ℤ) → pos 0 ≤ℤ k → a ≤ℤ b → (a *ℤ k) ≤ℤ (b *ℤ k)
scaled a b (pos n) h le = omega (arith, ints, mul-le-mul_left n (le_out a b le))
scaled a b (negsuc n) h le = absurd (omega (arith, ints))

pub unscaled : (a b k : ℤ) → pos 0 <ℤ k → (a *ℤ k) ≤ℤ (b *ℤ k) → a ≤ℤ b
unscaled a b (pos n) h le = at_most_in a b (le_of_mul-le-mul_left {k = n} (omega (arith, ints)) (omega (arith, ints)))
unscaled a b (negsuc n) h le = absurd (omega (arith, ints))

-- equal differences have one test
pub same_le : (a b c d : ℤ) → (b -ℤ a) ≡ (d -ℤ c) → int_le a b ≡ int_le c d
same_le a b c d e = same_bool (int_le a b) (int_le c d) (λ h. test_of_le c d (omega (arith, ints, le_of_test a b h)))
    (λ h. test_of_le a b (omega (arith, ints, le_of_test c d h)))
