-- Corners stay ordered where a box is moved or made wider.
use Rattle.std.proofs.Common.{◌≡◌, true, ◌&&◌, ℤ, pos, negsuc, ◌+ℤ◌, ◌-ℤ◌, ◌≤ℤ◌, int_le, arith}
use Rattle.std.specs.Int.{saturate_signed, w32}
use Rattle.std.specs.Cmp.{first_so, second_so}
use Rattle.std.specs.Cmp.Derive.{both_true}
use Rattle.std.proofs.lemmas.Int.{ints}
use Rattle.fixed_box.specs.Bounds.{Bounds}
use Rattle.fixed_box.specs.Point.{is_at_most}
use Rattle.fixed_box.specs.declared.point.Point.{Point}
use Rattle.ray_slabs.specs.Vector as wide
use Rattle.fixed_box.proofs.Numbers.{le_of_test, test_of_le}
use Rattle.box_cast.specs.Hull.{moved_point}
use Rattle.box_cast.specs.Widening.{apart}

-- the three tests of two corners
pub record Each (p r : Point) : Type 0 where
  pub x : int_le p.x r.x ≡ true
  pub y : int_le p.y r.y ≡ true
  pub z : int_le p.z r.z ≡ true

pub each : (p r : Point) → is_at_most p r ≡ true → Each p r
each p r e =
    let xy : (int_le p.x r.x && int_le p.y r.y) ≡ true = first_so (int_le p.x r.x && int_le p.y r.y) (int_le p.z r.z) e in
    record {
      x = first_so (int_le p.x r.x) (int_le p.y r.y) xy;
      y = second_so (int_le p.x r.x) (int_le p.y r.y) xy;
      z = second_so (int_le p.x r.x && int_le p.y r.y) (int_le p.z r.z) e;
    }

wider : (lo hi lo' hi' : ℤ) → int_le lo hi ≡ true → int_le lo' hi' ≡ true → int_le (lo -ℤ hi') (hi -ℤ lo') ≡ true
wider lo hi lo' hi' e f =
    let h : lo ≤ℤ hi = le_of_test lo hi e in let g : lo' ≤ℤ hi' = le_of_test lo' hi' f in test_of_le (lo -ℤ hi') (hi -ℤ lo') (omega (arith, ints))

pub apart_ordered : (b c : Bounds) → is_at_most b.lo b.hi ≡ true → is_at_most c.lo c.hi ≡ true → wide.is_at_most (apart b.lo c.hi) (apart b.hi c.lo) ≡ true
apart_ordered b c e f =
    let h : Each b.lo b.hi = each b.lo b.hi e in
    let g : Each c.lo c.hi = each c.lo c.hi f in
    both_true (both_true (wider b.lo.x b.hi.x c.lo.x c.hi.x h.x g.x) (wider b.lo.y b.hi.y c.lo.y c.hi.y h.y g.y)) (wider b.lo.z b.hi.z c.lo.z c.hi.z h.z g.z)

stopped_rise : (x y : ℤ) → x ≤ℤ y → saturate_signed w32 x ≤ℤ saturate_signed w32 y
stopped_rise (pos m) (pos n) h = omega (arith, ints)
stopped_rise (pos m) (negsuc n) h = omega (arith, ints)
stopped_rise (negsuc m) (pos n) h = omega (arith, ints)
stopped_rise (negsuc m) (negsuc n) h = omega (arith, ints)

moved_rise : (x y v : ℤ) → int_le x y ≡ true → int_le (saturate_signed w32 (x +ℤ v)) (saturate_signed w32 (y +ℤ v)) ≡ true
moved_rise x y v e =
    let h : x ≤ℤ y = le_of_test x y e in
    test_of_le (saturate_signed w32 (x +ℤ v)) (saturate_signed w32 (y +ℤ v)) (stopped_rise (x +ℤ v) (y +ℤ v) (omega (arith, ints)))

pub moved_ordered : (c : Bounds) (v : Point) → is_at_most c.lo c.hi ≡ true → is_at_most (moved_point c.lo v) (moved_point c.hi v) ≡ true
moved_ordered c v e =
    let h : Each c.lo c.hi = each c.lo c.hi e in
    both_true (both_true (moved_rise c.lo.x c.hi.x v.x h.x) (moved_rise c.lo.y c.hi.y v.y h.y)) (moved_rise c.lo.z c.hi.z v.z h.z)

-- A wider box makes the box of displacements wider.
apart_rises : (z y k : ℤ) → int_le z y ≡ true → int_le (z -ℤ k) (y -ℤ k) ≡ true
apart_rises z y k e = let h : z ≤ℤ y = le_of_test z y e in test_of_le (z -ℤ k) (y -ℤ k) (omega (arith, ints))

pub apart_wider : (p r c : Point) → is_at_most p r ≡ true → wide.is_at_most (apart p c) (apart r c) ≡ true
apart_wider p r c e =
    let h : Each p r = each p r e in
    both_true (both_true (apart_rises p.x r.x c.x h.x) (apart_rises p.y r.y c.y h.y)) (apart_rises p.z r.z c.z h.z)
