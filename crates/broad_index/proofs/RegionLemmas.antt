-- Where a ray or a segment meets a box, the box has on each axis a place between the ends of the query's region.
use Rattle.std.proofs.Common.{◌≡◌, ℕ, zero, suc, ◌+◌, ◌-◌, ◌<◌, ◌≤◌, true, ◌&&◌, arith, inl, inr}
use Rattle.std.proofs.lemmas.Int.{ints, by_lt_z}
use Rattle.std.proofs.lemmas.Bool.{and_parts, and_from}
use Rattle.std.proofs.Math.IntN.{suc_ℤ-*ℤ, zero-*ℤ}
use Rattle.std.specs.Prelude.{ℤ, pos, negsuc, ◌+ℤ◌, ◌-ℤ◌, ◌*ℤ◌, ◌≤ℤ◌, int_le}
use Rattle.std.specs.Int.{int_min, int_max}
use Rattle.fixed_box.specs.Bounds.{Bounds, hull, meets}
use Rattle.fixed_box.specs.declared.point.Point.{Point}
use Rattle.fixed_box.specs.Point.{is_at_most}
use Rattle.ray_slabs.specs.Law.{IsWithin, RayMeets, SegMeets}
use Rattle.ray_slabs.specs.Vector.{Vector}
use Rattle.ray_slabs.specs.WideBounds.{widened_box}
use Rattle.fixed_box.specs.Space.{space}
use Rattle.broad_index.specs.Regions.{IsNearest, IsFar, IsTouched, AreTouched}
use Rattle.fixed_box.proofs.Numbers.{at_least, at_most}
use Rattle.fixed_box.proofs.Corners.{all_three}

-- ---- products by a number that isn't negative
step : (n : ℕ) (x : ℤ) → (pos (suc n) *ℤ x) ≡ ((pos n *ℤ x) +ℤ x)
step n x = suc_ℤ-*ℤ (pos n) x

none : (x : ℤ) → (pos zero *ℤ x) ≡ pos zero
none x = zero-*ℤ x

scaled : (q : ℕ) (x y : ℤ) → x ≤ℤ y → (pos q *ℤ x) ≤ℤ (pos q *ℤ y)
scaled zero x y h = omega (arith, ints, none x, none y)
scaled (suc n) x y h = omega (arith, ints, step n x, step n y, scaled n x y h)

unscaled : (q : ℕ) (x y : ℤ) → 0 < q → (pos q *ℤ x) ≤ℤ (pos q *ℤ y) → x ≤ℤ y
unscaled zero x y h le = absurd (omega arith)
unscaled (suc n) x y h le = by_lt_z y x
    (λ lt. let s : (pos n *ℤ y) ≤ℤ (pos n *ℤ x) = scaled n y x (omega (arith, ints)) in absurd (omega (arith, ints, step n x, step n y, s, le, lt)))
    (λ at_most. at_most)

ahead : (p : ℕ) (d : ℤ) → pos 0 ≤ℤ d → pos 0 ≤ℤ (pos p *ℤ d)
ahead zero d h = omega (arith, ints, none d)
ahead (suc n) d h = omega (arith, ints, step n d, ahead n d h)

back : (p : ℕ) (d : ℤ) → d ≤ℤ pos 0 → (pos p *ℤ d) ≤ℤ pos 0
back zero d h = omega (arith, ints, none d)
back (suc n) d h = omega (arith, ints, step n d, back n d h)

-- a part of the way from a to c is no lower than both
no_lower : (p k q : ℕ) (a c m : ℤ) → q ≡ p + k → m ≤ℤ a → m ≤ℤ c → (pos q *ℤ m) ≤ℤ ((pos q *ℤ a) +ℤ (pos p *ℤ (c -ℤ a)))
no_lower zero k q a c m e la lc = omega (arith, ints, none (c -ℤ a), scaled q m a la)
no_lower (suc n) k zero a c m e la lc = absurd (omega arith)
no_lower (suc n) k (suc r) a c m e la lc =
    omega (arith, ints, step r m, step r a, step n (c -ℤ a), no_lower n k r a c m (omega arith) la lc)

-- and no higher
no_higher : (p k q : ℕ) (a c m : ℤ) → q ≡ p + k → a ≤ℤ m → c ≤ℤ m → ((pos q *ℤ a) +ℤ (pos p *ℤ (c -ℤ a))) ≤ℤ (pos q *ℤ m)
no_higher zero k q a c m e la lc = omega (arith, ints, none (c -ℤ a), scaled q a m la)
no_higher (suc n) k zero a c m e la lc = absurd (omega arith)
no_higher (suc n) k (suc r) a c m e la lc =
    omega (arith, ints, step r m, step r a, step n (c -ℤ a), no_higher n k r a c m (omega arith) la lc)

-- ---- one axis
ray_axis : (f d n end lo hi : ℤ) (p q : ℕ) → 0 < q → IsNearest f n → IsFar d end → IsWithin p q f d lo hi
    → negsuc 2147483647 ≤ℤ hi → lo ≤ℤ pos 2147483647 → IsTouched n end lo hi
ray_axis f d n end lo hi p q some near far w low high =
    let up : pos 0 ≤ℤ d → n ≤ℤ hi = λ (s : pos 0 ≤ℤ d). near.below hi (unscaled q f hi some (omega (arith, ints, ahead p d s, w.1))) low in
    let down : d ≤ℤ pos 0 → lo ≤ℤ n = λ (s : d ≤ℤ pos 0). near.above lo (unscaled q lo f some (omega (arith, ints, back p d s, w.0))) high in
    by_lt_z d (pos 0)
    (λ falls. record { below = inr (omega (arith, ints, far.down falls, low)); above = inl (down (omega (arith, ints))) })
    (λ stays. by_lt_z (pos 0) d
    (λ rises. record { below = inl (up stays); above = inr (omega (arith, ints, far.up rises, high)) })
    (λ still. record { below = inl (up stays); above = inl (down still) }))

seg_axis : (a c n r lo hi : ℤ) (p q : ℕ) → 0 < q → p ≤ q → IsNearest a n → IsNearest c r → IsWithin p q a (c -ℤ a) lo hi
    → negsuc 2147483647 ≤ℤ hi → lo ≤ℤ pos 2147483647 → IsTouched n r lo hi
seg_axis a c n r lo hi p q some part near other w low high =
    let from : (m : ℤ) → m ≤ℤ a → m ≤ℤ c → m ≤ℤ hi =
    λ (m : ℤ) (la : m ≤ℤ a) (lc : m ≤ℤ c). unscaled q m hi some (omega (arith, ints, no_lower p (q - p) q a c m (omega arith) la lc, w.1)) in
    let to : (m : ℤ) → a ≤ℤ m → c ≤ℤ m → lo ≤ℤ m =
    λ (m : ℤ) (la : a ≤ℤ m) (lc : c ≤ℤ m). unscaled q lo m some (omega (arith, ints, no_higher p (q - p) q a c m (omega arith) la lc, w.0)) in
    by_lt_z c a
    (λ falls. record {
      below = inr (other.below hi (from c (omega (arith, ints)) (omega (arith, ints))) low);
      above = inl (near.above lo (to a (omega (arith, ints)) (omega (arith, ints))) high);
    })
    (λ rises. record {
      below = inl (near.below hi (from a (omega (arith, ints)) (omega (arith, ints))) low);
      above = inr (other.above lo (to c (omega (arith, ints)) (omega (arith, ints))) high);
    })

-- ---- the whole
-- the upper corner of a box in space is no lower than space begins, and the lower one no higher than it ends
record InSpace (b : Bounds) : Type 0 where
  pub low_x : negsuc 2147483647 ≤ℤ b.hi.x
  pub low_y : negsuc 2147483647 ≤ℤ b.hi.y
  pub low_z : negsuc 2147483647 ≤ℤ b.hi.z
  pub high_x : b.lo.x ≤ℤ pos 2147483647
  pub high_y : b.lo.y ≤ℤ pos 2147483647
  pub high_z : b.lo.z ≤ℤ pos 2147483647

in_space : (b : Bounds) → meets space b ≡ true → InSpace b
in_space b h =
    let parts = and_parts (is_at_most space.lo b.hi) (is_at_most b.lo space.hi) h in
    let low = and_parts (int_le space.lo.x b.hi.x && int_le space.lo.y b.hi.y) (int_le space.lo.z b.hi.z) parts.0 in
    let lows = and_parts (int_le space.lo.x b.hi.x) (int_le space.lo.y b.hi.y) low.0 in
    let high = and_parts (int_le b.lo.x space.hi.x && int_le b.lo.y space.hi.y) (int_le b.lo.z space.hi.z) parts.1 in
    let highs = and_parts (int_le b.lo.x space.hi.x) (int_le b.lo.y space.hi.y) high.0 in
    record {
      low_x = at_least b.hi.x lows.0;
      low_y = at_least b.hi.y lows.1;
      low_z = at_least b.hi.z low.1;
      high_x = at_most b.lo.x highs.0;
      high_y = at_most b.lo.y highs.1;
      high_z = at_most b.lo.z high.1;
    }

pub ray_touches : (f d : Vector) (p r : Point) (b : Bounds) → IsNearest f.x p.x → IsNearest f.y p.y → IsNearest f.z p.z
    → IsFar d.x r.x → IsFar d.y r.y → IsFar d.z r.z → meets space b ≡ true → RayMeets f d (widened_box b) → AreTouched p r b
ray_touches f d p r b nx ny nz fx fy fz h w =
    let s = in_space b h in
    record {
      x = ray_axis f.x d.x p.x r.x b.lo.x b.hi.x w.p w.q w.above_zero nx fx w.x s.low_x s.high_x;
      y = ray_axis f.y d.y p.y r.y b.lo.y b.hi.y w.p w.q w.above_zero ny fy w.y s.low_y s.high_y;
      z = ray_axis f.z d.z p.z r.z b.lo.z b.hi.z w.p w.q w.above_zero nz fz w.z s.low_z s.high_z;
    }

pub seg_touches : (a c : Vector) (p r : Point) (b : Bounds) → IsNearest a.x p.x → IsNearest a.y p.y → IsNearest a.z p.z
    → IsNearest c.x r.x → IsNearest c.y r.y → IsNearest c.z r.z → meets space b ≡ true → SegMeets a c (widened_box b) → AreTouched p r b
seg_touches a c p r b nx ny nz fx fy fz h m =
    let s = in_space b h in
    let w = m.ahead in
    record {
      x = seg_axis a.x c.x p.x r.x b.lo.x b.hi.x w.p w.q w.above_zero m.at_most_one nx fx w.x s.low_x s.high_x;
      y = seg_axis a.y c.y p.y r.y b.lo.y b.hi.y w.p w.q w.above_zero m.at_most_one ny fy w.y s.low_y s.high_y;
      z = seg_axis a.z c.z p.z r.z b.lo.z b.hi.z w.p w.q w.above_zero m.at_most_one nz fz w.z s.low_z s.high_z;
    }

lesser_first : (p r hi : ℤ) → p ≤ℤ hi → int_le (int_min p r) hi ≡ true
lesser_first p r hi h = grind (arith, ints)

lesser_second : (p r hi : ℤ) → r ≤ℤ hi → int_le (int_min p r) hi ≡ true
lesser_second p r hi h = grind (arith, ints)

greater_first : (p r lo : ℤ) → lo ≤ℤ p → int_le lo (int_max p r) ≡ true
greater_first p r lo h = grind (arith, ints)

greater_second : (p r lo : ℤ) → lo ≤ℤ r → int_le lo (int_max p r) ≡ true
greater_second p r lo h = grind (arith, ints)

lesser : (p r lo hi : ℤ) → IsTouched p r lo hi → int_le (int_min p r) hi ≡ true
lesser p r lo hi t = elim t.below as (λ _. int_le (int_min p r) hi ≡ true) [ inl h ↦ lesser_first p r hi h | inr h ↦ lesser_second p r hi h ]

greater : (p r lo hi : ℤ) → IsTouched p r lo hi → int_le lo (int_max p r) ≡ true
greater p r lo hi t = elim t.above as (λ _. int_le lo (int_max p r) ≡ true) [ inl h ↦ greater_first p r lo h | inr h ↦ greater_second p r lo h ]

-- a box that has a place between two points on each axis meets the hull of the two
pub touched_met : (p r : Point) (b : Bounds) → AreTouched p r b → meets (hull (record { lo = p; hi = p }) (record { lo = r; hi = r })) b ≡ true
touched_met p r b t =
    let region = hull (record { lo = p; hi = p }) (record { lo = r; hi = r }) in
    and_from (is_at_most region.lo b.hi) (is_at_most b.lo region.hi)
    (all_three region.lo b.hi (lesser p.x r.x b.lo.x b.hi.x t.x) (lesser p.y r.y b.lo.y b.hi.y t.y) (lesser p.z r.z b.lo.z b.hi.z t.z))
    (all_three b.lo region.hi (greater p.x r.x b.lo.x b.hi.x t.x) (greater p.y r.y b.lo.y b.hi.y t.y) (greater p.z r.z b.lo.z b.hi.z t.z))
