-- A line that is seen along an axis passes through a rectangle where the two slabs overlap.
use Rattle.std.proofs.Common.{◌≡◌, sym, ap, ◌∙◌, ℕ, cond, ◌&&◌, zero, suc, ℤ, pos, negsuc, neg_ℤ, ◌-ℤ◌, ◌*ℤ◌, int_le, arith}
use Rattle.std.proofs.lemmas.Int.{ints}
use Rattle.ray_slabs.specs.Crossing.{Slab}
use Rattle.ray_slabs.specs.Mirrored.{mirrored_by, enters_by, overlap}
use Rattle.ray_slabs.specs.ProductLaws.{sub_mul, mul_neg, same_le}
use Rattle.fixed_box.proofs.Numbers.{test_of_le}
use Rattle.prepared_query.specs.Slope.{Side, course, side, passes}
use Rattle.fixed_box.proofs.Bools.{and_comm}

-- a slab's side, from the line's start on
abbrev side_of : Slab → Side
side_of s = side s.from s.lo s.hi

-- differences the other way round
turned : (z y k : ℤ) → (y -ℤ z) *ℤ k ≡ neg_ℤ ((z -ℤ y) *ℤ k)
turned z y k = omega (arith, ints, sub_mul z y k, sub_mul y z k)

all_turned : (p q r s k l : ℤ) → int_le ((p -ℤ q) *ℤ k) ((r -ℤ s) *ℤ l) ≡ int_le ((s -ℤ r) *ℤ l) ((q -ℤ p) *ℤ k)
all_turned p q r s k l =
    same_le ((p -ℤ q) *ℤ k) ((r -ℤ s) *ℤ l) ((s -ℤ r) *ℤ l) ((q -ℤ p) *ℤ k) (omega (arith, ints, turned p q k, turned r s l))

-- a factor below 0
against : (z y : ℤ) (n : ℕ) → (z -ℤ y) *ℤ negsuc n ≡ (y -ℤ z) *ℤ pos (suc n)
against z y n = mul_neg (z -ℤ y) (pos (suc n)) ∙ sym (turned z y (pos (suc n)))

none : (z y : ℤ) → z *ℤ pos 0 ≡ y *ℤ pos 0
none z y = omega (arith, ints)

pub passes_is : (d e : ℤ) (a b : Slab) → passes (course d e) (side_of a) (side_of b) ≡ overlap (mirrored_by d a) (mirrored_by e b)
passes_is (pos n) (pos m) a b =
    let x : Side = side_of a in
    let y : Side = side_of b in
    ap (λ test. cond test (int_le (x.lo *ℤ pos m) (y.hi *ℤ pos n) && int_le (y.lo *ℤ pos n) (x.hi *ℤ pos m))
    (int_le (x.lo *ℤ pos m) (y.lo *ℤ pos n) && int_le (y.hi *ℤ pos n) (x.hi *ℤ pos m))) (test_of_le (pos 0) (pos n) (omega (arith, ints)))
passes_is (negsuc n) (negsuc m) a b =
    let x : Side = side_of a in
    let y : Side = side_of b in
    ap (λ test. cond test (int_le (x.lo *ℤ pos (suc m)) (y.hi *ℤ pos (suc n)) && int_le (y.lo *ℤ pos (suc n)) (x.hi *ℤ pos (suc m)))
    (int_le (x.lo *ℤ pos (suc m)) (y.lo *ℤ pos (suc n)) && int_le (y.hi *ℤ pos (suc n)) (x.hi *ℤ pos (suc m))))
    (test_of_le (pos 0) (pos (suc n)) (omega (arith, ints)))
    ∙ (λ i. all_turned a.lo a.from b.hi b.from (pos (suc m)) (pos (suc n)) i && all_turned b.lo b.from a.hi a.from (pos (suc n)) (pos (suc m)) i)
    ∙ and_comm (enters_by (mirrored_by (negsuc m) b) (mirrored_by (negsuc n) a)) (enters_by (mirrored_by (negsuc n) a) (mirrored_by (negsuc m) b))
passes_is (negsuc n) (pos m) a b =
    (λ i. int_le ((a.lo -ℤ a.from) *ℤ pos m) (against b.lo b.from n i) && int_le (against b.hi b.from n i) ((a.hi -ℤ a.from) *ℤ pos m))
    ∙ (λ i. all_turned a.lo a.from b.from b.lo (pos m) (pos (suc n)) i && all_turned b.from b.hi a.hi a.from (pos (suc n)) (pos m) i)
    ∙ and_comm (enters_by (mirrored_by (pos m) b) (mirrored_by (negsuc n) a)) (enters_by (mirrored_by (negsuc n) a) (mirrored_by (pos m) b))
passes_is (pos zero) (negsuc m) a b = λ i.
    int_le ((a.lo -ℤ a.from) *ℤ pos (suc m)) (none (b.hi -ℤ b.from) (b.from -ℤ b.lo) i)
    && int_le (none (b.lo -ℤ b.from) (b.from -ℤ b.hi) i) ((a.hi -ℤ a.from) *ℤ pos (suc m))
passes_is (pos (suc n)) (negsuc m) a b = λ i.
    int_le ((a.lo -ℤ a.from) *ℤ pos (suc m)) (against b.lo b.from n i) && int_le (against b.hi b.from n i) ((a.hi -ℤ a.from) *ℤ pos (suc m))
