-- A cast is a segment from the origin along the displacement against the wider box.
use Rattle.std.proofs.Common.{◌≡◌, ℕ, zero, suc, refl, sym, subst, ◌∙◌, ◌*◌, ◌<◌, ◌≤◌, true, ◌&&◌, ℤ, pos, negsuc, ◌+ℤ◌, ◌-ℤ◌, ◌*ℤ◌, ◌≤ℤ◌}
use Rattle.std.proofs.Common.{int_le, List, [], ◌∷◌, ◌++◌, IsTrue, ◌↔◌, arith}
use Rattle.std.specs.List.{list_any, Contains}
use Rattle.std.specs.Cmp.{first_so, second_so}
use Rattle.std.proofs.lemmas.Int.{ints}
use Rattle.fixed_box.specs.Bounds.{Bounds}
use Rattle.fixed_box.specs.declared.point.Point.{Point}
use Rattle.ray_slabs.specs.Vector.{Vector, widened, displacement}
use Rattle.ray_slabs.specs.WideBounds.{WideBounds}
use Rattle.ray_slabs.specs.Crossing.{Slab, Fraction, slabs_of, fits_seg, crossings_by, in_ray, in_seg}
use Rattle.ray_slabs.specs.Crossing as crossing
use Rattle.ray_slabs.specs.First.{first}
use Rattle.ray_slabs.specs.Law.{IsWithin, RayMeets, SegMeets, RayMeetsFirst}
use Rattle.ray_slabs.specs.ProductLaws.{sub_mul, same_le, scaled, unscaled}
use Rattle.fixed_box.proofs.Bools.{same_bool, and_comm}
use Rattle.fixed_box.proofs.Numbers.{le_of_test, test_of_le}
use Rattle.box_cast.specs.Cast.{Track, touches, contacts_by, candidates, fits, in_cast}
use Rattle.box_cast.specs.Law.{IsTouching, CastMeets}
use Rattle.box_cast.specs.Widening.{origin, widened_by, reached}

-- What the laws of rays and segments say.
pub record RayTold : Type 0 where
  pub seg : (a c : Vector) (b : WideBounds) → IsTrue (in_seg a c b) ↔ SegMeets a c b
  pub ray : (f d : Vector) (b : WideBounds) → IsTrue (in_ray f d b) ↔ RayMeets f d b
  pub entry : (f d : Vector) (b : WideBounds) → IsTrue (in_ray f d b) → RayMeetsFirst f d b (first f d b)
  pub among : (f d : Vector) (b : WideBounds) → Contains (crossing.candidates (slabs_of f d b)) (first f d b)

-- the axis of the segment
abbrev slab : Track → Slab
slab a = record { from = pos 0; dir = a.by; lo = a.lo -ℤ a.far; hi = a.hi -ℤ a.near }

contacts_are : (a : Track) (d : ℤ) → contacts_by d a ≡ crossings_by d (slab a)
contacts_are a (pos zero) = refl
contacts_are a (pos (suc n)) =
    let lower : a.lo -ℤ a.far ≡ (a.lo -ℤ a.far) -ℤ pos 0 = omega (arith, ints) in
    let upper : a.hi -ℤ a.near ≡ (a.hi -ℤ a.near) -ℤ pos 0 = omega (arith, ints) in
    λ i. record { num = lower i; den = pos (suc n) } ∷ record { num = upper i; den = pos (suc n) } ∷ []
contacts_are a (negsuc n) =
    let lower : a.far -ℤ a.lo ≡ pos 0 -ℤ (a.lo -ℤ a.far) = omega (arith, ints) in
    let upper : a.near -ℤ a.hi ≡ pos 0 -ℤ (a.hi -ℤ a.near) = omega (arith, ints) in
    λ i. record { num = lower i; den = pos (suc n) } ∷ record { num = upper i; den = pos (suc n) } ∷ []

touches_is : (t : Fraction) (a : Track) → touches t a ≡ crossing.fits t (slab a)
touches_is t a =
    let leaves : int_le (t.den *ℤ a.near +ℤ t.num *ℤ a.by) (t.den *ℤ a.hi) ≡ int_le (t.den *ℤ pos 0 +ℤ t.num *ℤ a.by) (t.den *ℤ (a.hi -ℤ a.near)) =
    same_le (t.den *ℤ a.near +ℤ t.num *ℤ a.by) (t.den *ℤ a.hi) (t.den *ℤ pos 0 +ℤ t.num *ℤ a.by) (t.den *ℤ (a.hi -ℤ a.near))
    (omega (arith, ints, sub_mul a.hi a.near t.den)) in
    let enters : int_le (t.den *ℤ a.lo) (t.den *ℤ a.far +ℤ t.num *ℤ a.by) ≡ int_le (t.den *ℤ (a.lo -ℤ a.far)) (t.den *ℤ pos 0 +ℤ t.num *ℤ a.by) =
    same_le (t.den *ℤ a.lo) (t.den *ℤ a.far +ℤ t.num *ℤ a.by) (t.den *ℤ (a.lo -ℤ a.far)) (t.den *ℤ pos 0 +ℤ t.num *ℤ a.by)
    (omega (arith, ints, sub_mul a.lo a.far t.den)) in
    (λ i. leaves i && enters i)
    ∙ and_comm (int_le (t.den *ℤ pos 0 +ℤ t.num *ℤ a.by) (t.den *ℤ (a.hi -ℤ a.near))) (int_le (t.den *ℤ (a.lo -ℤ a.far)) (t.den *ℤ pos 0 +ℤ t.num *ℤ a.by))

module _ (c : Bounds) (v : Point) (b : Bounds) where
  abbrev x_track : Track
  x_track = record { near = c.lo.x; far = c.hi.x; by = v.x; lo = b.lo.x; hi = b.hi.x }

  abbrev y_track : Track
  y_track = record { near = c.lo.y; far = c.hi.y; by = v.y; lo = b.lo.y; hi = b.hi.y }

  abbrev z_track : Track
  z_track = record { near = c.lo.z; far = c.hi.z; by = v.z; lo = b.lo.z; hi = b.hi.z }

  abbrev pub slabs : List Slab
  slabs = slabs_of origin (widened v) (widened_by b c)

  pub candidates_are : candidates c v b ≡ crossing.candidates slabs
  candidates_are =
      λ i. record { num = pos 0; den = pos 1 } ∷ (contacts_are x_track v.x i ++ (contacts_are y_track v.y i ++ (contacts_are z_track v.z i ++ [])))

  pub fits_is : (t : Fraction) → fits c v b t ≡ fits_seg slabs t
  fits_is t =
      λ i. int_le t.num t.den && (int_le (pos 0) t.num && (touches_is t x_track i && (touches_is t y_track i && (touches_is t z_track i && true))))

  straight : displacement origin (widened v) ≡ widened v
  straight =
      let x : v.x -ℤ pos 0 ≡ v.x = omega (arith, ints) in
      let y : v.y -ℤ pos 0 ≡ v.y = omega (arith, ints) in
      let z : v.z -ℤ pos 0 ≡ v.z = omega (arith, ints) in
      λ i. record { x = x i; y = y i; z = z i }

  pub as_seg : in_cast c v b ≡ in_seg origin (widened v) (widened_by b c)
  unfolding in_cast in_seg
  as_seg =
      (λ i. list_any (λ t. fits_is t i) (candidates_are i))
      ∙ (λ i. list_any (fits_seg (slabs_of origin (sym straight i) (widened_by b c))) (crossing.candidates (slabs_of origin (sym straight i) (widened_by b c))))

  -- a meeting of the ray up to the fraction 1
  pub record Slides : Type 0 where
    pub meets : RayMeets origin (widened v) (widened_by b c)
    pub at_most_one : meets.p ≤ meets.q

  pub slides : RayTold → IsTrue (in_cast c v b) → Slides
  slides laws e =
      let s : SegMeets origin (widened v) (widened_by b c) = (laws.seg origin (widened v) (widened_by b c)).0 (sym as_seg ∙ e) in
      let both : (m : RayMeets origin (widened v) (widened_by b c)) × (m.p ≤ m.q) =
      subst (λ d. (m : RayMeets origin d (widened_by b c)) × (m.p ≤ m.q)) straight (s.ahead, s.at_most_one) in
      record { meets = both.0; at_most_one = both.1 }

  pub unslides : RayTold → Slides → IsTrue (in_cast c v b)
  unslides laws s =
      let both : (m : RayMeets origin (displacement origin (widened v)) (widened_by b c)) × (m.p ≤ m.q) =
      subst (λ d. (m : RayMeets origin d (widened_by b c)) × (m.p ≤ m.q)) (sym straight) (s.meets, s.at_most_one) in
      as_seg ∙ (laws.seg origin (widened v) (widened_by b c)).1 (record { ahead = both.0; at_most_one = both.1 })

-- one axis, in the words of the laws
pub touching : (p q : ℕ) (near far by lo hi : ℤ) → IsWithin p q (pos 0) by (lo -ℤ far) (hi -ℤ near) → IsTouching p q near far by lo hi
touching p q near far by lo hi w = (
  let h : (pos q *ℤ pos 0 +ℤ pos p *ℤ by) ≤ℤ (pos q *ℤ (hi -ℤ near)) = w.1 in omega (arith, ints, sub_mul hi near (pos q)),
  let h : (pos q *ℤ (lo -ℤ far)) ≤ℤ (pos q *ℤ pos 0 +ℤ pos p *ℤ by) = w.0 in omega (arith, ints, sub_mul lo far (pos q)),
)

pub within : (p q : ℕ) (near far by lo hi : ℤ) → IsTouching p q near far by lo hi → IsWithin p q (pos 0) by (lo -ℤ far) (hi -ℤ near)
within p q near far by lo hi t = (
  let h : (pos q *ℤ lo) ≤ℤ (pos q *ℤ far +ℤ pos p *ℤ by) = t.1 in omega (arith, ints, sub_mul lo far (pos q)),
  let h : (pos q *ℤ near +ℤ pos p *ℤ by) ≤ℤ (pos q *ℤ hi) = t.0 in omega (arith, ints, sub_mul hi near (pos q)),
)

abbrev pub cast_of : (c : Bounds) (v : Point) (b : Bounds) → Slides c v b → CastMeets c v b
cast_of c v b s = record {
  p = s.meets.p;
  q = s.meets.q;
  above_zero = s.meets.above_zero;
  at_most_one = s.at_most_one;
  x = touching s.meets.p s.meets.q c.lo.x c.hi.x v.x b.lo.x b.hi.x s.meets.x;
  y = touching s.meets.p s.meets.q c.lo.y c.hi.y v.y b.lo.y b.hi.y s.meets.y;
  z = touching s.meets.p s.meets.q c.lo.z c.hi.z v.z b.lo.z b.hi.z s.meets.z;
}

abbrev pub ray_of : (c : Bounds) (v : Point) (b : Bounds) → CastMeets c v b → RayMeets origin (widened v) (widened_by b c)
ray_of c v b m = record {
  p = m.p;
  q = m.q;
  above_zero = m.above_zero;
  x = within m.p m.q c.lo.x c.hi.x v.x b.lo.x b.hi.x m.x;
  y = within m.p m.q c.lo.y c.hi.y v.y b.lo.y b.hi.y m.y;
  z = within m.p m.q c.lo.z c.hi.z v.z b.lo.z b.hi.z m.z;
}

pub fraction_law : RayTold → (c : Bounds) (v : Point) (b : Bounds) → IsTrue (in_cast c v b) ↔ CastMeets c v b
fraction_law laws c v b = (λ e. cast_of c v b (slides c v b laws e), λ m. unslides c v b laws (record { meets = ray_of c v b m; at_most_one = m.at_most_one }))

-- what is no later than a fraction up to 1 is up to 1
up_to_one : (p q p' q' : ℕ) → 0 < q' → p * q' ≤ p' * q → p' ≤ q' → p ≤ q
up_to_one p q p' q' h le one =
    let wide : (pos p' *ℤ pos q) ≤ℤ (pos q' *ℤ pos q) = scaled (pos p') (pos q') (pos q) (omega (arith, ints)) (omega (arith, ints)) in
    let done : pos p ≤ℤ pos q = unscaled (pos p) (pos q) (pos q') (omega (arith, ints)) (omega (arith, ints)) in
    omega (arith, ints)

pub met_law : RayTold → (c : Bounds) (v : Point) (b : Bounds)
    → in_cast c v b ≡ (in_ray origin (widened v) (widened_by b c) && reached (first origin (widened v) (widened_by b c)))
met_law laws c v b =
    let w : WideBounds = widened_by b c in
    let f : Fraction = first origin (widened v) w in
    same_bool (in_cast c v b) (in_ray origin (widened v) w && reached f)
    (λ e.
    let s : Slides c v b = slides c v b laws e in
    let there : IsTrue (in_ray origin (widened v) w) = (laws.ray origin (widened v) w).1 s.meets in
    let m : RayMeetsFirst origin (widened v) w f = laws.entry origin (widened v) w there in
    let one : m.meets.p ≤ m.meets.q = up_to_one m.meets.p m.meets.q s.meets.p s.meets.q s.meets.above_zero (m.least s.meets) s.at_most_one in
    λ i. there i && (test_of_le f.num f.den (subst (λ n. n ≤ℤ f.den) (sym m.num) (subst (λ n. pos m.meets.p ≤ℤ n) (sym m.den) (omega (arith, ints))))) i)
    (λ e.
    let there : IsTrue (in_ray origin (widened v) w) = first_so (in_ray origin (widened v) w) (reached f) e in
    let m : RayMeetsFirst origin (widened v) w f = laws.entry origin (widened v) w there in
    let le : f.num ≤ℤ f.den = le_of_test f.num f.den (second_so (in_ray origin (widened v) w) (reached f) e) in
    let le' : pos m.meets.p ≤ℤ pos m.meets.q = subst (λ n. n ≤ℤ pos m.meets.q) m.num (subst (λ n. f.num ≤ℤ n) m.den le) in
    unslides c v b laws (record { meets = m.meets; at_most_one = omega (arith, ints) }))
