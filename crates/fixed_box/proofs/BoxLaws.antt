-- What encloses a box, and what meets it.
use Rattle.std.proofs.Common.{◌≡◌, true, ◌&&◌, ℤ, int_le, arith}
use Rattle.std.proofs.lemmas.Int.{ints}
use Rattle.std.proofs.lemmas.Bool.{and_parts, and_from}
use Rattle.fixed_box.specs.declared.point.Point.{Point}
use Rattle.fixed_box.specs.Point.{is_at_most}
use Rattle.fixed_box.specs.Bounds.{Bounds, meets, holds, encloses, hull}
use Rattle.fixed_box.proofs.Corners.{at_most_chain, lower_left, lower_right, upper_left, upper_right}
use Rattle.fixed_box.proofs.Bools.{and_comm}

own_coordinate : (x : ℤ) → int_le x x ≡ true
own_coordinate x = grind (arith, ints)

at_most_itself : (p : Point) → is_at_most p p ≡ true
at_most_itself p =
    and_from (int_le p.x p.x && int_le p.y p.y) (int_le p.z p.z)
    (and_from (int_le p.x p.x) (int_le p.y p.y) (own_coordinate p.x) (own_coordinate p.y)) (own_coordinate p.z)

-- the corners of a box that another encloses
inside : (a b : Bounds) → encloses a b ≡ true → (is_at_most a.lo b.lo ≡ true) × (is_at_most b.hi a.hi ≡ true)
inside a b h = and_parts (is_at_most a.lo b.lo) (is_at_most b.hi a.hi) h

pub encloses_itself : (a : Bounds) → encloses a a ≡ true
encloses_itself a = and_from (is_at_most a.lo a.lo) (is_at_most a.hi a.hi) (at_most_itself a.lo) (at_most_itself a.hi)

pub encloses_chain : (a b c : Bounds) → encloses a b ≡ true → encloses b c ≡ true → encloses a c ≡ true
encloses_chain a b c outer inner =
    let p = inside a b outer in
    let q = inside b c inner in
    and_from (is_at_most a.lo c.lo) (is_at_most c.hi a.hi) (at_most_chain a.lo b.lo c.lo p.0 q.0) (at_most_chain c.hi b.hi a.hi q.1 p.1)

pub hull_this : (a b : Bounds) → encloses (hull a b) a ≡ true
hull_this a b =
    and_from (is_at_most (hull a b).lo a.lo) (is_at_most a.hi (hull a b).hi) (lower_left a.lo b.lo) (upper_left a.hi b.hi)

pub hull_that : (a b : Bounds) → encloses (hull a b) b ≡ true
hull_that a b =
    and_from (is_at_most (hull a b).lo b.lo) (is_at_most b.hi (hull a b).hi) (lower_right a.lo b.lo) (upper_right a.hi b.hi)

pub meets_either_way : (a b : Bounds) → meets a b ≡ meets b a
meets_either_way a b = and_comm (is_at_most a.lo b.hi) (is_at_most b.lo a.hi)

pub met_outside : (outer inner other : Bounds) → encloses outer inner ≡ true → meets inner other ≡ true → meets outer other ≡ true
met_outside outer inner other h m =
    let p = inside outer inner h in
    let q = and_parts (is_at_most inner.lo other.hi) (is_at_most other.lo inner.hi) m in
    and_from (is_at_most outer.lo other.hi) (is_at_most other.lo outer.hi)
    (at_most_chain outer.lo inner.lo other.hi p.0 q.0) (at_most_chain other.lo inner.hi outer.hi q.1 p.1)

pub held_outside : (outer inner : Bounds) (at : Point) → encloses outer inner ≡ true → holds inner at ≡ true → holds outer at ≡ true
held_outside outer inner at h m =
    let p = inside outer inner h in
    let q = and_parts (is_at_most inner.lo at) (is_at_most at inner.hi) m in
    and_from (is_at_most outer.lo at) (is_at_most at outer.hi)
    (at_most_chain outer.lo inner.lo at p.0 q.0) (at_most_chain at inner.hi outer.hi q.1 p.1)
