-- Serves proofs alone: the order of fractions by value is a total one.
use Rattle.std.proofs.Common.{◌≡◌, refl, sym, ap, ◌∙◌, Bool, true, false, cond, ℤ, pos, ◌*ℤ◌, ◌≤ℤ◌, ◌<ℤ◌, int_lt, arith}
use Rattle.std.specs.declared.cmp.Ordering.{Ordering}
use Rattle.std.specs.declared.cmp.Ordering.TheVariants.{Less, Equal, Greater}
use Rattle.std.specs.Ordering.{int_cmp, is_lt, is_gt, ordering_reverse}
use Rattle.std.specs.Cmp.{IsTotalOrder}
use Rattle.std.proofs.lemmas.Int.{ints, clamps, by_lt_z}
use Rattle.std.proofs.lemmas.Cmp.{int_cmp_total, int_ranked}
use Rattle.ray_slabs.specs.Crossing.{Fraction}
use Rattle.ray_slabs.specs.First.{weight, value_cmp}
use Rattle.ray_slabs.specs.ProductLaws.{scaled, unscaled, mul_swap}
use Rattle.fixed_box.proofs.Bools.{same_bool}

pub weight_above : (t : Fraction) → pos 0 <ℤ weight t
weight_above t = omega (arith, ints, clamps)

pub lt_of_test : (a b : ℤ) → int_lt a b ≡ true → a <ℤ b
lt_of_test a b e = omega (arith, ints)

pub test_of_lt : (a b : ℤ) → a <ℤ b → int_lt a b ≡ true
test_of_lt a b h = sym (omega (arith, ints))

-- a factor above 0 keeps a strict order, and can be taken away
scaled_lt : (a b k : ℤ) → pos 0 <ℤ k → a <ℤ b → (a *ℤ k) <ℤ (b *ℤ k)
scaled_lt a b k h lt = by_lt_z (a *ℤ k) (b *ℤ k) (λ l. l) (λ g. let back : b ≤ℤ a = unscaled b a k h g in absurd (omega (arith, ints)))

unscaled_lt : (a b k : ℤ) → pos 0 <ℤ k → (a *ℤ k) <ℤ (b *ℤ k) → a <ℤ b
unscaled_lt a b k h lt = by_lt_z a b (λ l. l) (λ g. let back : (b *ℤ k) ≤ℤ (a *ℤ k) = scaled b a k (omega (arith, ints)) g in absurd (omega (arith, ints)))

lt_test : (a b k : ℤ) → pos 0 <ℤ k → int_lt (a *ℤ k) (b *ℤ k) ≡ int_lt a b
lt_test a b k h =
    same_bool (int_lt (a *ℤ k) (b *ℤ k)) (int_lt a b) (λ u. test_of_lt a b (unscaled_lt a b k h (lt_of_test (a *ℤ k) (b *ℤ k) u)))
    (λ u. test_of_lt (a *ℤ k) (b *ℤ k) (scaled_lt a b k h (lt_of_test a b u)))

pub scaled_cmp : (a b k : ℤ) → pos 0 <ℤ k → int_cmp (a *ℤ k) (b *ℤ k) ≡ int_cmp a b
scaled_cmp a b k h = λ i. cond (lt_test a b k h i) Less (cond (lt_test b a k h i) Greater Equal)

less_of : (a b : ℤ) → a <ℤ b → int_cmp a b ≡ Less
less_of a b h = ap (λ t. cond t Less (cond (int_lt b a) Greater Equal)) (test_of_lt a b h)

value_trans : (x y z : Fraction) → value_cmp x y ≡ Less → value_cmp y z ≡ Less → value_cmp x z ≡ Less
value_trans x y z p q =
    let xy : (x.num *ℤ weight y) <ℤ (y.num *ℤ weight x) = int_ranked (x.num *ℤ weight y) (y.num *ℤ weight x) Less (sym p) in
    let yz : (y.num *ℤ weight z) <ℤ (z.num *ℤ weight y) = int_ranked (y.num *ℤ weight z) (z.num *ℤ weight y) Less (sym q) in
    let by_z : ((x.num *ℤ weight y) *ℤ weight z) <ℤ ((y.num *ℤ weight x) *ℤ weight z) =
    scaled_lt (x.num *ℤ weight y) (y.num *ℤ weight x) (weight z) (weight_above z) xy in
    let by_x : ((y.num *ℤ weight z) *ℤ weight x) <ℤ ((z.num *ℤ weight y) *ℤ weight x) =
    scaled_lt (y.num *ℤ weight z) (z.num *ℤ weight y) (weight x) (weight_above x) yz in
    let first : (x.num *ℤ weight y) *ℤ weight z ≡ (x.num *ℤ weight z) *ℤ weight y = mul_swap x.num (weight y) (weight z) in
    let second : (y.num *ℤ weight x) *ℤ weight z ≡ (y.num *ℤ weight z) *ℤ weight x = mul_swap y.num (weight x) (weight z) in
    let third : (z.num *ℤ weight y) *ℤ weight x ≡ (z.num *ℤ weight x) *ℤ weight y = mul_swap z.num (weight y) (weight x) in
    less_of (x.num *ℤ weight z) (z.num *ℤ weight x)
    (unscaled_lt (x.num *ℤ weight z) (z.num *ℤ weight x) (weight y) (weight_above y) (omega (arith, ints)))

value_congr : (x y z : Fraction) → value_cmp x y ≡ Equal → value_cmp x z ≡ value_cmp y z
value_congr x y z p =
    let same : x.num *ℤ weight y ≡ y.num *ℤ weight x = int_ranked (x.num *ℤ weight y) (y.num *ℤ weight x) Equal (sym p) in
    let first : (x.num *ℤ weight z) *ℤ weight y ≡ (y.num *ℤ weight z) *ℤ weight x =
    mul_swap x.num (weight z) (weight y) ∙ ap (λ n. n *ℤ weight z) same ∙ mul_swap y.num (weight x) (weight z) in
    let second : (z.num *ℤ weight x) *ℤ weight y ≡ (z.num *ℤ weight y) *ℤ weight x = mul_swap z.num (weight x) (weight y) in
    sym (scaled_cmp (x.num *ℤ weight z) (z.num *ℤ weight x) (weight y) (weight_above y))
    ∙ (λ i. int_cmp (first i) (second i))
    ∙ scaled_cmp (y.num *ℤ weight z) (z.num *ℤ weight y) (weight x) (weight_above x)

pub value_total : IsTotalOrder value_cmp
value_total = record {
  antisymm = λ x y. int_cmp_total.antisymm (x.num *ℤ weight y) (y.num *ℤ weight x);
  trans = value_trans;
  congr = value_congr;
}

pub weight_is : (t : Fraction) → pos 0 <ℤ t.den → weight t ≡ t.den
weight_is t h = omega (arith, ints, clamps)

-- cross products of places are their order by value
pub compared : (a b : Fraction) → pos 0 <ℤ a.den → pos 0 <ℤ b.den → int_cmp (a.num *ℤ b.den) (b.num *ℤ a.den) ≡ value_cmp a b
compared a b ha hb = λ i. int_cmp (a.num *ℤ sym (weight_is b hb) i) (b.num *ℤ sym (weight_is a ha) i)

lt_by : (p q : Bool) → is_lt (cond p Less (cond q Greater Equal)) ≡ p
lt_by true q = refl
lt_by false true = refl
lt_by false false = refl

pub less_is : (a b : Fraction) → pos 0 <ℤ a.den → pos 0 <ℤ b.den → is_lt (value_cmp a b) ≡ int_lt (a.num *ℤ b.den) (b.num *ℤ a.den)
less_is a b ha hb = sym (ap is_lt (compared a b ha hb)) ∙ lt_by (int_lt (a.num *ℤ b.den) (b.num *ℤ a.den)) (int_lt (b.num *ℤ a.den) (a.num *ℤ b.den))

pub not_less : (a b : ℤ) → int_lt a b ≡ false → b ≤ℤ a
not_less a b e = omega (arith, ints)

-- a place that comes no later than another, by cross products
pub no_later : (a b : Fraction) → pos 0 <ℤ a.den → pos 0 <ℤ b.den → is_gt (value_cmp a b) ≡ false → (a.num *ℤ b.den) ≤ℤ (b.num *ℤ a.den)
no_later a b ha hb e = not_less (b.num *ℤ a.den) (a.num *ℤ b.den) (sym (less_is b a hb ha) ∙ ap is_lt (value_total.antisymm b a) ∙ turned (value_cmp a b) ∙ e)
  where
    turned : (o : Ordering) → is_lt (ordering_reverse o) ≡ is_gt o
    turned Less = refl
    turned Equal = refl
    turned Greater = refl

pub by_products : (a b : Fraction) → pos 0 <ℤ a.den → pos 0 <ℤ b.den → (a.num *ℤ b.den) ≤ℤ (b.num *ℤ a.den) → is_gt (value_cmp a b) ≡ false
by_products a b ha hb le =
    sym (gt_by (int_lt (a.num *ℤ b.den) (b.num *ℤ a.den)) (int_lt (b.num *ℤ a.den) (a.num *ℤ b.den)) (sym (omega (arith, ints)))
    ∙ ap is_gt (compared a b ha hb))
  where
    gt_by : (p q : Bool) → q ≡ false → false ≡ is_gt (cond p Less (cond q Greater Equal))
    gt_by true q e = refl
    gt_by false true e = sym e
    gt_by false false e = refl
