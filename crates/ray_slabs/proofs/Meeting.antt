-- A fraction that fits, in the words of the law.
use Rattle.std.proofs.Common.{◌≡◌, refl, ℕ, ◌<◌, ◌≤◌, true, ◌&&◌, ℤ, pos, negsuc, ◌+ℤ◌, ◌*ℤ◌, ◌≤ℤ◌, ◌<ℤ◌, int_le, IsTrue, ◌↔◌, arith}
use Rattle.std.specs.List.{list_all}
use Rattle.std.proofs.lemmas.Int.{ints}
use Rattle.ray_slabs.specs.Vector.{Vector, displacement}
use Rattle.ray_slabs.specs.WideBounds.{WideBounds}
use Rattle.ray_slabs.specs.Crossing.{Slab, Fraction, fits, slabs_of, fits_ray, fits_seg, in_ray, in_seg}
use Rattle.ray_slabs.specs.Law.{IsWithin, RayMeets, SegMeets}
use Rattle.ray_slabs.proofs.Order.{le_of_test, test_of_le}
use Rattle.ray_slabs.proofs.Passing.{all_of}
use Rattle.fixed_box.proofs.Bools.{and_left, and_right}
use Rattle.ray_slabs.proofs.Candidates.{Found, found_among, ray_candidate, seg_candidate}

within : (p q : ℕ) (f d lo hi : ℤ) → fits (record { num = pos p; den = pos q }) (record { from = f; dir = d; lo = lo; hi = hi }) ≡ true → IsWithin p q f d lo hi
within p q f d lo hi e =
    let place : ℤ = pos q *ℤ f +ℤ pos p *ℤ d in (
      le_of_test (pos q *ℤ lo) place (and_left (int_le (pos q *ℤ lo) place) (int_le place (pos q *ℤ hi)) e),
      le_of_test place (pos q *ℤ hi)
          (and_right (int_le (pos q *ℤ lo) place) (int_le place (pos q *ℤ hi)) e),
    )

tested : (p q : ℕ) (f d lo hi : ℤ) → IsWithin p q f d lo hi → fits (record { num = pos p; den = pos q }) (record { from = f; dir = d; lo = lo; hi = hi }) ≡ true
tested p q f d lo hi h =
    let place : ℤ = pos q *ℤ f +ℤ pos p *ℤ d in
    all_of (int_le (pos q *ℤ lo) place) (int_le place (pos q *ℤ hi)) (test_of_le (pos q *ℤ lo) place h.0) (test_of_le place (pos q *ℤ hi) h.1)

-- The fraction's numbers, and what fits at them.
pub record Numbers (f d : Vector) (b : WideBounds) (num den : ℤ) : Type 0 where
  pub meets : RayMeets f d b
  pub num_is : pos meets.p ≡ num
  pub den_is : pos meets.q ≡ den

pub numbers : (f d : Vector) (b : WideBounds) (num den : ℤ) → pos 0 <ℤ den → fits_ray (slabs_of f d b) (record { num = num; den = den }) ≡ true
    → Numbers f d b num den
numbers f d b (pos p) (pos q) h e =
    let t : Fraction = record { num = pos p; den = pos q } in
    let x : Slab = record { from = f.x; dir = d.x; lo = b.lo.x; hi = b.hi.x } in
    let y : Slab = record { from = f.y; dir = d.y; lo = b.lo.y; hi = b.hi.y } in
    let z : Slab = record { from = f.z; dir = d.z; lo = b.lo.z; hi = b.hi.z } in
    let xyz : (fits t x && (fits t y && (fits t z && true))) ≡ true = and_right (int_le (pos 0) (pos p)) (list_all (fits t) (slabs_of f d b)) e in
    let yz : (fits t y && (fits t z && true)) ≡ true = and_right (fits t x) (fits t y && (fits t z && true)) xyz in
    record {
      meets = record {
        p = p;
        q = q;
        above_zero = omega (arith, ints);
        x = within p q f.x d.x b.lo.x b.hi.x (and_left (fits t x) (fits t y && (fits t z && true)) xyz);
        y = within p q f.y d.y b.lo.y b.hi.y (and_left (fits t y) (fits t z && true) yz);
        z = within p q f.z d.z b.lo.z b.hi.z (and_left (fits t z) true (and_right (fits t y) (fits t z && true) yz));
      };
      num_is = refl;
      den_is = refl;
    }
numbers f d b (pos p) (negsuc q) h e = absurd (omega (arith, ints))
numbers f d b (negsuc p) den h e = let no : ⊥ = cc in absurd no

pub fitted : (f d : Vector) (b : WideBounds) (m : RayMeets f d b) → fits_ray (slabs_of f d b) (record { num = pos m.p; den = pos m.q }) ≡ true
fitted f d b m =
    let t : Fraction = record { num = pos m.p; den = pos m.q } in
    let x : Slab = record { from = f.x; dir = d.x; lo = b.lo.x; hi = b.hi.x } in
    let y : Slab = record { from = f.y; dir = d.y; lo = b.lo.y; hi = b.hi.y } in
    let z : Slab = record { from = f.z; dir = d.z; lo = b.lo.z; hi = b.hi.z } in
    all_of (int_le (pos 0) (pos m.p)) (list_all (fits t) (slabs_of f d b)) (test_of_le (pos 0) (pos m.p) (omega (arith, ints)))
    (all_of (fits t x) (fits t y && (fits t z && true)) (tested m.p m.q f.x d.x b.lo.x b.hi.x m.x)
    (all_of (fits t y) (fits t z && true) (tested m.p m.q f.y d.y b.lo.y b.hi.y m.y) (all_of (fits t z) true (tested m.p m.q f.z d.z b.lo.z b.hi.z m.z) refl)))

pub ray_law : (f d : Vector) (b : WideBounds) → IsTrue (in_ray f d b) ↔ RayMeets f d b
unfolding in_ray
ray_law f d b = (
  λ e. let t : Found (fits_ray (slabs_of f d b)) = found_among (fits_ray (slabs_of f d b)) (slabs_of f d b) e in
      (numbers f d b t.place.num t.place.den t.above_zero t.passes).meets,
  λ m. ray_candidate (slabs_of f d b) (record { num = pos m.p; den = pos m.q }) (let h : 0 < m.q = m.above_zero in omega (arith, ints)) (fitted f d b m),
)

pub seg_law : (a c : Vector) (b : WideBounds) → IsTrue (in_seg a c b) ↔ SegMeets a c b
unfolding in_seg
seg_law a c b = (
  λ e.
      let t : Found (fits_seg (slabs_of a (displacement a c) b)) = found_among (fits_seg (slabs_of a (displacement a c) b))
      (slabs_of a (displacement a c) b) e in
      let n : Numbers a (displacement a c) b t.place.num t.place.den = numbers a (displacement a c) b t.place.num t.place.den t.above_zero
      (and_right (int_le t.place.num t.place.den) (fits_ray (slabs_of a (displacement a c) b) t.place) t.passes) in
      let le : t.place.num ≤ℤ t.place.den =
      le_of_test t.place.num t.place.den (and_left (int_le t.place.num t.place.den) (fits_ray (slabs_of a (displacement a c) b) t.place) t.passes) in
      record {
        ahead = n.meets;
        at_most_one = let e : pos n.meets.p ≡ t.place.num = n.num_is in let f : pos n.meets.q ≡ t.place.den = n.den_is in
            omega (arith, ints);
      },
  λ m. seg_candidate (slabs_of a (displacement a c) b) (record { num = pos m.ahead.p; den = pos m.ahead.q }) (let h : 0 < m.ahead.q = m.ahead.above_zero in
      omega (arith, ints))
      (all_of (int_le (pos m.ahead.p) (pos m.ahead.q)) (fits_ray (slabs_of a (displacement a c) b) (record { num = pos m.ahead.p; den = pos m.ahead.q }))
      (test_of_le (pos m.ahead.p) (pos m.ahead.q) (let h : m.ahead.p ≤ m.ahead.q = m.at_most_one in omega (arith, ints)))
      (fitted a (displacement a c) b m.ahead)),
)
