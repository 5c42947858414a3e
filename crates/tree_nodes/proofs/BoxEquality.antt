-- Boxes whose six numbers are same_int are the same, as the two unions of two boxes are.
use Rattle.std.proofs.Common.{◌≡◌, Bool, true, false, not, ◌&&◌, ℤ, int_eq, refl, arith}
use Rattle.std.proofs.lemmas.Bool.{and_parts}
use Rattle.std.proofs.lemmas.Int.{ints}
use Rattle.fixed_box.specs.declared.point.Point.{Point}
use Rattle.std.specs.Int.{int_min, int_max}
use Rattle.fixed_box.specs.Bounds.{Bounds, hull as union}
use Rattle.fixed_box.proofs.Numbers.{same_int}

not_false : (b : Bool) → not b ≡ false → b ≡ true
not_false true h = refl
not_false false h = cc

same_point : (p q : Point) → (int_eq p.x q.x && (int_eq p.y q.y && int_eq p.z q.z)) ≡ true → p ≡ q
same_point p q h =
    let first = and_parts (int_eq p.x q.x) (int_eq p.y q.y && int_eq p.z q.z) h in
    let rest = and_parts (int_eq p.y q.y) (int_eq p.z q.z) first.1 in
    let x = same_int p.x q.x first.0 in
    let y = same_int p.y q.y rest.0 in
    let z = same_int p.z q.z rest.1 in
    let all : ◌≡◌ {A = Point} (record { x = p.x; y = p.y; z = p.z }) (record { x = q.x; y = q.y; z = q.z }) = cc in
    all

pub equal_box : (a b : Bounds)
    → ((int_eq a.lo.x b.lo.x && (int_eq a.lo.y b.lo.y && int_eq a.lo.z b.lo.z)) &&
    (int_eq a.hi.x b.hi.x && (int_eq a.hi.y b.hi.y && int_eq a.hi.z b.hi.z))) ≡ true
    → a ≡ b
equal_box a b h =
    let lo = int_eq a.lo.x b.lo.x && (int_eq a.lo.y b.lo.y && int_eq a.lo.z b.lo.z) in
    let hi = int_eq a.hi.x b.hi.x && (int_eq a.hi.y b.hi.y && int_eq a.hi.z b.hi.z) in
    let parts = and_parts lo hi h in
    let low = same_point a.lo b.lo parts.0 in
    let high = same_point a.hi b.hi parts.1 in
    let all : ◌≡◌ {A = Bounds} (record { lo = a.lo; hi = a.hi }) (record { lo = b.lo; hi = b.hi }) = cc in
    all

pub same_box : (a b : Bounds)
    → not ((int_eq a.lo.x b.lo.x && (int_eq a.lo.y b.lo.y && int_eq a.lo.z b.lo.z)) &&
    (int_eq a.hi.x b.hi.x && (int_eq a.hi.y b.hi.y && int_eq a.hi.z b.hi.z))) ≡ false
    → a ≡ b
same_box a b h =
    let lo = int_eq a.lo.x b.lo.x && (int_eq a.lo.y b.lo.y && int_eq a.lo.z b.lo.z) in
    let hi = int_eq a.hi.x b.hi.x && (int_eq a.hi.y b.hi.y && int_eq a.hi.z b.hi.z) in
    equal_box a b (not_false (lo && hi) h)

lesser_of : (x y : ℤ) → int_min x y ≡ int_min y x
lesser_of x y = grind (arith, ints)

greater_of : (x y : ℤ) → int_max x y ≡ int_max y x
greater_of x y = grind (arith, ints)

pub either_way : (a b : Bounds) → union a b ≡ union b a
either_way a b =
    rw (
      lesser_of a.lo.x b.lo.x,
      lesser_of a.lo.y b.lo.y,
      lesser_of a.lo.z b.lo.z,
      greater_of a.hi.x b.hi.x,
      greater_of a.hi.y b.hi.y,
      greater_of a.hi.z b.hi.z,
    )
    refl
