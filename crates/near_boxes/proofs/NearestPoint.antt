-- The square of the distance to a box is that to the nearest of its points.
use Rattle.std.proofs.Common.{◌≡◌, ℕ, ◌+◌, ◌≤◌, max, true, arith, ap, ◌∙◌}
use Rattle.std.specs.Prelude.{ℤ, ◌-ℤ◌, unsigned_abs, int_le, ◌&&◌}
use Rattle.std.specs.Int.{int_min, int_max}
use Rattle.std.proofs.Math.Nat.{mul-le-mul_left}
use Rattle.std.proofs.lemmas.Int.{ints}
use Rattle.std.proofs.lemmas.Bool.{and_parts, and_from}
use Rattle.fixed_box.specs.declared.point.Point.{Point}
use Rattle.fixed_box.specs.Bounds.{Bounds, holds, encloses}
use Rattle.fixed_box.specs.Point.{is_at_most}
use Rattle.near_boxes.specs.Nearest.{above, gap, gap_between, squared, square, square_apart, square_between}

-- ---- on one axis

below_least : (lo at p : ℤ) → int_le lo p ≡ true → above at lo ≤ unsigned_abs (at -ℤ p)
below_least lo at p h = grind (arith, ints)

above_least : (hi at p : ℤ) → int_le p hi ≡ true → above hi at ≤ unsigned_abs (at -ℤ p)
above_least hi at p h = grind (arith, ints)

gap_least : (lo hi at p : ℤ) → int_le lo p ≡ true → int_le p hi ≡ true → gap lo hi at ≤ unsigned_abs (at -ℤ p)
gap_least lo hi at p h g = both (above at lo) (above hi at) (unsigned_abs (at -ℤ p)) (below_least lo at p h) (above_least hi at p g)
  where
    both : (m n h : ℕ) → m ≤ h → n ≤ h → max m n ≤ h
    both m n h a b = omega arith

-- the coordinate moved into the interval
abbrev moved_in : ℤ → ℤ → ℤ → ℤ
moved_in lo hi at = int_max lo (int_min at hi)

from_low : (lo hi at : ℤ) → int_le lo (moved_in lo hi at) ≡ true
from_low lo hi at = grind (arith, ints)

to_high : (lo hi at : ℤ) → int_le lo hi ≡ true → int_le (moved_in lo hi at) hi ≡ true
to_high lo hi at h = grind (arith, ints)

gap_is : (lo hi at : ℤ) → int_le lo hi ≡ true → gap lo hi at ≡ unsigned_abs (at -ℤ moved_in lo hi at)
gap_is lo hi at h = grind (arith, ints)

square_le : (m n : ℕ) → m ≤ n → squared m ≤ squared n
square_le m n le = omega (arith, mul-le-mul_left m le, mul-le-mul_left n le)

-- ---- on all three

record AreInOrder (p q : Point) : Type 0 where
  x : int_le p.x q.x ≡ true
  y : int_le p.y q.y ≡ true
  z : int_le p.z q.z ≡ true

in_order : (p q : Point) → is_at_most p q ≡ true → AreInOrder p q
in_order p q h =
    let xyz = and_parts (int_le p.x q.x && int_le p.y q.y) (int_le p.z q.z) h in
    let xy = and_parts (int_le p.x q.x) (int_le p.y q.y) xyz.0 in record { x = xy.0; y = xy.1; z = xyz.1 }

at_most_from : (p q : Point) → AreInOrder p q → is_at_most p q ≡ true
at_most_from p q a = and_from (int_le p.x q.x && int_le p.y q.y) (int_le p.z q.z) (and_from (int_le p.x q.x) (int_le p.y q.y) a.x a.y) a.z

sum_le : (a b c x y z : ℕ) → a ≤ x → b ≤ y → c ≤ z → (a + b) + c ≤ (x + y) + z
sum_le a b c x y z p q r = omega arith

-- No point of the box is nearer.
pub square_least : (at p : Point) (b : Bounds) → holds b p ≡ true → square at b ≤ square_between at p
square_least at p b h =
    let parts = and_parts (is_at_most b.lo p) (is_at_most p b.hi) h in
    let low = in_order b.lo p parts.0 in
    let high = in_order p b.hi parts.1 in
    sum_le _ _ _ _ _ _ (square_le _ _ (gap_least b.lo.x b.hi.x at.x p.x low.x high.x)) (square_le _ _ (gap_least b.lo.y b.hi.y at.y p.y low.y high.y))
    (square_le _ _ (gap_least b.lo.z b.hi.z at.z p.z low.z high.z))

-- the nearest point of a box
abbrev pub nearest_point : Point → Bounds → Point
nearest_point at b = record { x = moved_in b.lo.x b.hi.x at.x; y = moved_in b.lo.y b.hi.y at.y; z = moved_in b.lo.z b.hi.z at.z }

pub nearest_held : (at : Point) (b : Bounds) → is_at_most b.lo b.hi ≡ true → holds b (nearest_point at b) ≡ true
nearest_held at b h =
    let o = in_order b.lo b.hi h in
    and_from (is_at_most b.lo (nearest_point at b)) (is_at_most (nearest_point at b) b.hi)
    (at_most_from b.lo (nearest_point at b)
    (record { x = from_low b.lo.x b.hi.x at.x; y = from_low b.lo.y b.hi.y at.y; z = from_low b.lo.z b.hi.z at.z }))
    (at_most_from (nearest_point at b) b.hi
    (record { x = to_high b.lo.x b.hi.x at.x o.x; y = to_high b.lo.y b.hi.y at.y o.y; z = to_high b.lo.z b.hi.z at.z o.z }))

three : (a b c x y z : ℕ) → a ≡ x → b ≡ y → c ≡ z → (squared a + squared b) + squared c ≡ (squared x + squared y) + squared z
three a b c x y z p q r = ap (λ n. (squared n + squared b) + squared c) p ∙ ap (λ n. (squared x + squared n) + squared c) q
    ∙ ap (λ n. (squared x + squared y) + squared n) r

-- One is as near.
pub square_is : (at : Point) (b : Bounds) → is_at_most b.lo b.hi ≡ true → square at b ≡ square_between at (nearest_point at b)
square_is at b h =
    let o = in_order b.lo b.hi h in
    three _ _ _ _ _ _ (gap_is b.lo.x b.hi.x at.x o.x) (gap_is b.lo.y b.hi.y at.y o.y) (gap_is b.lo.z b.hi.z at.z o.z)

-- ---- a hull is no farther than what lies in it

lower_side : (out lo at : ℤ) → int_le out lo ≡ true → above at out ≤ above at lo
lower_side out lo at h = grind (arith, ints)

upper_side : (out hi at : ℤ) → int_le hi out ≡ true → above out at ≤ above hi at
upper_side out hi at h = grind (arith, ints)

wider : (a b c d : ℕ) → a ≤ b → c ≤ d → max a c ≤ max b d
wider a b c d p q = omega arith

hull_gap : (from to low high lo hi : ℤ) → int_le low lo ≡ true → int_le hi high ≡ true → gap_between from to low high ≤ gap_between from to lo hi
hull_gap from to low high lo hi h g =
    wider (above to low) (above to lo) (above high from) (above hi from) (lower_side low lo to h) (upper_side high hi from g)

pub hull_square : (to h b : Bounds) → encloses h b ≡ true → square_apart to h ≤ square_apart to b
hull_square to h b e =
    let parts = and_parts (is_at_most h.lo b.lo) (is_at_most b.hi h.hi) e in
    let low = in_order h.lo b.lo parts.0 in
    let high = in_order b.hi h.hi parts.1 in
    sum_le _ _ _ _ _ _ (square_le _ _ (hull_gap to.lo.x to.hi.x h.lo.x h.hi.x b.lo.x b.hi.x low.x high.x))
    (square_le _ _ (hull_gap to.lo.y to.hi.y h.lo.y h.hi.y b.lo.y b.hi.y low.y high.y))
    (square_le _ _ (hull_gap to.lo.z to.hi.z h.lo.z h.hi.z b.lo.z b.hi.z low.z high.z))

-- ---- two boxes are as far apart as the nearest of the one's points lies from the other

point_gap : (from to lo hi at : ℤ) → int_le from at ≡ true → int_le at to ≡ true → gap_between from to lo hi ≤ gap lo hi at
point_gap from to lo hi at h g = wider (above to lo) (above at lo) (above hi from) (above hi at) (upper_side to at lo g) (lower_side from at hi h)

-- No two points are nearer.
pub apart_least : (a b : Bounds) (p q : Point) → holds a p ≡ true → holds b q ≡ true → square_apart a b ≤ square_between p q
apart_least a b p q in_a in_b =
    let parts = and_parts (is_at_most a.lo p) (is_at_most p a.hi) in_a in
    let low = in_order a.lo p parts.0 in
    let high = in_order p a.hi parts.1 in
    let near : square_apart a b ≤ square p b =
    sum_le _ _ _ _ _ _ (square_le _ _ (point_gap a.lo.x a.hi.x b.lo.x b.hi.x p.x low.x high.x))
    (square_le _ _ (point_gap a.lo.y a.hi.y b.lo.y b.hi.y p.y low.y high.y)) (square_le _ _ (point_gap a.lo.z a.hi.z b.lo.z b.hi.z p.z low.z high.z))
    in
    at_most_all _ _ _ near (square_least p q b in_b)
  where
    at_most_all : (l m n : ℕ) → l ≤ m → m ≤ n → l ≤ n
    at_most_all l m n f g = omega arith

apart_gap : (from to lo hi : ℤ) → int_le from to ≡ true → int_le lo hi ≡ true → gap_between from to lo hi ≡ gap lo hi (moved_in from to lo)
apart_gap from to lo hi h g = grind (arith, ints)

-- Two are as near: the first box's point that is nearest to the other's lower corner, and the other's that is nearest to that.
pub apart_is : (a b : Bounds) → is_at_most a.lo a.hi ≡ true → is_at_most b.lo b.hi ≡ true → square_apart a b ≡ square (nearest_point b.lo a) b
apart_is a b h g =
    let o = in_order a.lo a.hi h in
    let w = in_order b.lo b.hi g in
    three _ _ _ _ _ _ (apart_gap a.lo.x a.hi.x b.lo.x b.hi.x o.x w.x) (apart_gap a.lo.y a.hi.y b.lo.y b.hi.y o.y w.y)
    (apart_gap a.lo.z a.hi.z b.lo.z b.hi.z o.z w.z)
