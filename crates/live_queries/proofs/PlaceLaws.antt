-- No box is met on a way before one that encloses it.
use Rattle.std.proofs.Common.{◌≡◌, refl, sym, ap, ◌∙◌, subst, ℕ, ◌*◌, ◌<◌, ◌≤◌, Bool, true, false, cond, ◌&&◌, Option, None, Some, IfSome, IsTrue, is_some, arith}
use Rattle.std.proofs.Common.{ℤ, pos, ◌+ℤ◌, ◌*ℤ◌, ◌≤ℤ◌, ◌<ℤ◌, int_le}
use Rattle.std.proofs.lemmas.Int.{ints}
use Rattle.std.specs.Ordering.{is_gt}
use Rattle.std.specs.Cmp.{first_so, second_so}
use Rattle.fixed_box.specs.declared.point.Point.{Point}
use Rattle.fixed_box.specs.Point.{is_at_most}
use Rattle.fixed_box.specs.Bounds.{Bounds, encloses}
use Rattle.fixed_box.proofs.Numbers.{le_of_test}
use Rattle.ray_slabs.specs.declared.ray.Ray.{Ray}
use Rattle.ray_slabs.specs.Vector.{Vector}
use Rattle.ray_slabs.specs.WideBounds.{WideBounds, widened_box}
use Rattle.ray_slabs.specs.WideBounds as wide
use Rattle.ray_slabs.specs.Crossing.{Fraction, in_ray}
use Rattle.ray_slabs.specs.First.{first, value_cmp}
use Rattle.ray_slabs.specs.FirstLaws.{by_products}
use Rattle.ray_slabs.specs.ProductLaws.{scaled}
use Rattle.ray_slabs.specs.Law.{IsWithin, RayMeets, RayMeetsFirst}
use Rattle.box_cast.specs.declared.cast.Cast.{Cast}
use Rattle.box_cast.specs.Cast.{in_cast, first_contact}
use Rattle.box_cast.specs.Law.{IsTouching, CastMeets, CastMeetsFirst}
use Rattle.live_queries.specs.FirstSeen.{IsMetNoLater}
use Rattle.live_queries.specs.Queries.{entry_of, contact_of}

-- ---- wider intervals

within_wider : (p q : ℕ) (f d lo hi lo' hi' : ℤ) → lo' ≤ℤ lo → hi ≤ℤ hi' → IsWithin p q f d lo hi → IsWithin p q f d lo' hi'
within_wider p q f d lo hi lo' hi' below above h =
    let from : (pos q *ℤ lo) ≤ℤ (pos q *ℤ f +ℤ pos p *ℤ d) = h.0 in
    let to : (pos q *ℤ f +ℤ pos p *ℤ d) ≤ℤ (pos q *ℤ hi) = h.1 in
    let lower : (lo' *ℤ pos q) ≤ℤ (lo *ℤ pos q) = scaled lo' lo (pos q) (omega (arith, ints)) below in
    let upper : (hi *ℤ pos q) ≤ℤ (hi' *ℤ pos q) = scaled hi hi' (pos q) (omega (arith, ints)) above in
    (omega (arith, ints), omega (arith, ints))

touching_wider : (p q : ℕ) (near far by lo hi lo' hi' : ℤ) → lo' ≤ℤ lo → hi ≤ℤ hi' → IsTouching p q near far by lo hi → IsTouching p q near far by lo' hi'
touching_wider p q near far by lo hi lo' hi' below above h =
    let to : (pos q *ℤ near +ℤ pos p *ℤ by) ≤ℤ (pos q *ℤ hi) = h.0 in
    let from : (pos q *ℤ lo) ≤ℤ (pos q *ℤ far +ℤ pos p *ℤ by) = h.1 in
    let lower : (lo' *ℤ pos q) ≤ℤ (lo *ℤ pos q) = scaled lo' lo (pos q) (omega (arith, ints)) below in
    let upper : (hi *ℤ pos q) ≤ℤ (hi' *ℤ pos q) = scaled hi hi' (pos q) (omega (arith, ints)) above in
    (omega (arith, ints), omega (arith, ints))

record IsBelow (p q : Point) : Type 0 where
  x : p.x ≤ℤ q.x
  y : p.y ≤ℤ q.y
  z : p.z ≤ℤ q.z

below_of : (p q : Point) → is_at_most p q ≡ true → IsBelow p q
below_of p q e =
    let xy : (int_le p.x q.x && int_le p.y q.y) ≡ true = first_so (int_le p.x q.x && int_le p.y q.y) (int_le p.z q.z) e in
    record {
      x = le_of_test p.x q.x (first_so (int_le p.x q.x) (int_le p.y q.y) xy);
      y = le_of_test p.y q.y (second_so (int_le p.x q.x) (int_le p.y q.y) xy);
      z = le_of_test p.z q.z (second_so (int_le p.x q.x && int_le p.y q.y) (int_le p.z q.z) e);
    }

lower_of : (outer inner : Bounds) → IsTrue (encloses outer inner) → IsBelow outer.lo inner.lo
lower_of outer inner e = below_of outer.lo inner.lo (first_so (is_at_most outer.lo inner.lo) (is_at_most inner.hi outer.hi) e)

upper_of : (outer inner : Bounds) → IsTrue (encloses outer inner) → IsBelow inner.hi outer.hi
upper_of outer inner e = below_of inner.hi outer.hi (second_so (is_at_most outer.lo inner.lo) (is_at_most inner.hi outer.hi) e)

ray_wider : (f d : Vector) (outer inner : Bounds) → IsTrue (encloses outer inner) → RayMeets f d (widened_box inner) → RayMeets f d (widened_box outer)
ray_wider f d outer inner e m =
    let lower : IsBelow outer.lo inner.lo = lower_of outer inner e in
    let upper : IsBelow inner.hi outer.hi = upper_of outer inner e in
    record {
      p = m.p;
      q = m.q;
      above_zero = m.above_zero;
      x = within_wider m.p m.q f.x d.x inner.lo.x inner.hi.x outer.lo.x outer.hi.x lower.x upper.x m.x;
      y = within_wider m.p m.q f.y d.y inner.lo.y inner.hi.y outer.lo.y outer.hi.y lower.y upper.y m.y;
      z = within_wider m.p m.q f.z d.z inner.lo.z inner.hi.z outer.lo.z outer.hi.z lower.z upper.z m.z;
    }

cast_wider : (c : Bounds) (v : Point) (outer inner : Bounds) → IsTrue (encloses outer inner) → CastMeets c v inner → CastMeets c v outer
cast_wider c v outer inner e m =
    let lower : IsBelow outer.lo inner.lo = lower_of outer inner e in
    let upper : IsBelow inner.hi outer.hi = upper_of outer inner e in
    record {
      p = m.p;
      q = m.q;
      above_zero = m.above_zero;
      at_most_one = m.at_most_one;
      x = touching_wider m.p m.q c.lo.x c.hi.x v.x inner.lo.x inner.hi.x outer.lo.x outer.hi.x lower.x upper.x m.x;
      y = touching_wider m.p m.q c.lo.y c.hi.y v.y inner.lo.y inner.hi.y outer.lo.y outer.hi.y lower.y upper.y m.y;
      z = touching_wider m.p m.q c.lo.z c.hi.z v.z inner.lo.z inner.hi.z outer.lo.z outer.hi.z lower.z upper.z m.z;
    }

-- ---- the first fractions

above_zero : (n : ℤ) (q : ℕ) → 0 < q → n ≡ pos q → pos 0 <ℤ n
above_zero n q h e = omega (arith, ints)

-- fractions by their whole numbers
no_later : (s t : Fraction) (p q p' q' : ℕ) → s.num ≡ pos p → s.den ≡ pos q → t.num ≡ pos p' → t.den ≡ pos q' → 0 < q → 0 < q'
    → p * q' ≤ p' * q → is_gt (value_cmp s t) ≡ false
no_later s t p q p' q' e f g h a b le =
    let plain : (pos p *ℤ pos q') ≤ℤ (pos p' *ℤ pos q) = omega (arith, ints) in
    by_products s t (above_zero s.den q a f) (above_zero t.den q' b h)
    (subst (λ (r : (ℤ × ℤ) × (ℤ × ℤ)). (r.0.0 *ℤ r.1.1) ≤ℤ (r.1.0 *ℤ r.0.1)) (λ i. ((sym e i, sym f i), (sym g i, sym h i))) plain)

taken : (b : Bool) (f t : Fraction) → cond b (Some f) None ≡ Some t → (b ≡ true) × (f ≡ t)
taken true f t h = (refl, (let s : f ≡ t = cc in s))
taken false f t h = let no : ⊥ = cc in absurd no

pub some_of : (o : Option Fraction) → is_some o ≡ true → (s : Fraction) × (o ≡ Some s)
some_of None h = let no : ⊥ = cc in absurd no
some_of (Some s) h = (s, refl)

pub ray_no_later : ((f d : Vector) (o i : WideBounds) → IsTrue (wide.encloses o i) → IsTrue (in_ray f d i) → IsTrue (in_ray f d o))
    → ((f d : Vector) (b : WideBounds) → IsTrue (in_ray f d b) → RayMeetsFirst f d b (first f d b))
    → (ray : Ray) (outer inner : Bounds) → IsTrue (encloses outer inner) → IsMetNoLater (entry_of ray outer) (entry_of ray inner)
unfolding ray_wider
ray_no_later enclosed is_first ray outer inner e t h =
    let f : Vector = ray.from in
    let d : Vector = ray.dir in
    let s : Fraction = first f d (widened_box outer) in
    let is : (in_ray f d (widened_box inner) ≡ true) × (first f d (widened_box inner) ≡ t) =
    taken (in_ray f d (widened_box inner)) (first f d (widened_box inner)) t h in
    let met : in_ray f d (widened_box outer) ≡ true = enclosed f d (widened_box outer) (widened_box inner) e is.0 in
    let o : RayMeetsFirst f d (widened_box outer) s = is_first f d (widened_box outer) met in
    let i : RayMeetsFirst f d (widened_box inner) (first f d (widened_box inner)) = is_first f d (widened_box inner) is.0 in (
      s,
      (
        ap (λ b. cond b (Some s) None) met,
        subst (λ u. is_gt (value_cmp s u) ≡ false) is.1
            (no_later s (first f d (widened_box inner)) o.meets.p o.meets.q i.meets.p i.meets.q o.num o.den i.num i.den o.meets.above_zero i.meets.above_zero
            (o.least (ray_wider f d outer inner e i.meets))),
      ),
    )

pub cast_no_later : ((c : Bounds) (v : Point) (o i : Bounds) → IsTrue (encloses o i) → IsTrue (in_cast c v i) → IsTrue (in_cast c v o))
    → ((c : Bounds) (v : Point) (b : Bounds) → is_some (first_contact c v b) ≡ in_cast c v b)
    → ((c : Bounds) (v : Point) (b : Bounds) → IfSome (first_contact c v b) (CastMeetsFirst c v b))
    → (cast : Cast) (outer inner : Bounds) → IsTrue (encloses outer inner) → IsMetNoLater (contact_of cast outer) (contact_of cast inner)
unfolding cast_wider
cast_no_later enclosed some is_first cast outer inner e t h =
    let c : Bounds = cast.body in
    let v : Point = cast.by in
    let met : in_cast c v outer ≡ true = enclosed c v outer inner e (sym (some c v inner) ∙ ap is_some h) in
    let found : (s : Fraction) × (first_contact c v outer ≡ Some s) = some_of (first_contact c v outer) (some c v outer ∙ met) in
    let s : Fraction = found.0 in
    let o : CastMeetsFirst c v outer s = subst (λ u. IfSome u (CastMeetsFirst c v outer)) found.1 (is_first c v outer) in
    let i : CastMeetsFirst c v inner t = subst (λ u. IfSome u (CastMeetsFirst c v inner)) h (is_first c v inner) in (
      s,
      (
        found.1,
        no_later s t o.meets.p o.meets.q i.meets.p i.meets.q o.num o.den i.num i.den o.meets.above_zero i.meets.above_zero
            (o.least (cast_wider c v outer inner e i.meets)),
      ),
    )
