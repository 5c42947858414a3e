-- Lesser and greater corners, and corners moved outwards.
use Rattle.std.proofs.Common.{◌≡◌, true, ◌&&◌, Option, None, Some, IsSome, ℤ, int_le, SFits, to_z, of_z, refl, ap, ◌∙◌, arith}
use Rattle.std.specs.Int.{int_min, int_max, w32}
use Rattle.std.specs.Option.{SomeIff}
use Rattle.std.proofs.lemmas.Int.{ints, to_z-of_z}
use Rattle.std.proofs.lemmas.Bool.{and_parts, and_from}
use Rattle.fixed_box.specs.declared.point.Point.{Point}
use Rattle.fixed_box.specs.Bounds.{Bounds}
use Rattle.fixed_box.specs.Point.{is_at_most, lower_corner, upper_corner}

min_left : (x y : ℤ) → int_le (int_min x y) x ≡ true
min_left x y = grind (arith, ints)

min_right : (x y : ℤ) → int_le (int_min x y) y ≡ true
min_right x y = grind (arith, ints)

max_left : (x y : ℤ) → int_le x (int_max x y) ≡ true
max_left x y = grind (arith, ints)

max_right : (x y : ℤ) → int_le y (int_max x y) ≡ true
max_right x y = grind (arith, ints)

min_greatest : (x y z : ℤ) → int_le z x ≡ true → int_le z y ≡ true → int_le z (int_min x y) ≡ true
min_greatest x y z a b = grind (arith, ints)

max_least : (x y z : ℤ) → int_le x z ≡ true → int_le y z ≡ true → int_le (int_max x y) z ≡ true
max_least x y z a b = grind (arith, ints)

le_chain : (x y z : ℤ) → int_le x y ≡ true → int_le y z ≡ true → int_le x z ≡ true
le_chain x y z a b = grind (arith, ints)

pub all_three : (p q : Point) → int_le p.x q.x ≡ true → int_le p.y q.y ≡ true → int_le p.z q.z ≡ true → is_at_most p q ≡ true
all_three p q x y z = and_from (int_le p.x q.x && int_le p.y q.y) (int_le p.z q.z) (and_from (int_le p.x q.x) (int_le p.y q.y) x y) z

pub record Axes (p q : Point) : Type 0 where
  pub x : int_le p.x q.x ≡ true
  pub y : int_le p.y q.y ≡ true
  pub z : int_le p.z q.z ≡ true

pub axes : (p q : Point) → is_at_most p q ≡ true → Axes p q
axes p q h =
    let parts = and_parts (int_le p.x q.x && int_le p.y q.y) (int_le p.z q.z) h in
    let firsts = and_parts (int_le p.x q.x) (int_le p.y q.y) parts.0 in
    record { x = firsts.0; y = firsts.1; z = parts.1 }

pub lower_left : (p q : Point) → is_at_most (lower_corner p q) p ≡ true
lower_left p q = all_three (lower_corner p q) p (min_left p.x q.x) (min_left p.y q.y) (min_left p.z q.z)

pub lower_right : (p q : Point) → is_at_most (lower_corner p q) q ≡ true
lower_right p q = all_three (lower_corner p q) q (min_right p.x q.x) (min_right p.y q.y) (min_right p.z q.z)

pub upper_left : (p q : Point) → is_at_most p (upper_corner p q) ≡ true
upper_left p q = all_three p (upper_corner p q) (max_left p.x q.x) (max_left p.y q.y) (max_left p.z q.z)

pub upper_right : (p q : Point) → is_at_most q (upper_corner p q) ≡ true
upper_right p q = all_three q (upper_corner p q) (max_right p.x q.x) (max_right p.y q.y) (max_right p.z q.z)

pub lower_greatest : (p q r : Point) → is_at_most r p ≡ true → is_at_most r q ≡ true → is_at_most r (lower_corner p q) ≡ true
lower_greatest p q r a b =
    let first = axes r p a in
    let second = axes r q b in
    all_three r (lower_corner p q) (min_greatest p.x q.x r.x first.x second.x) (min_greatest p.y q.y r.y first.y second.y)
    (min_greatest p.z q.z r.z first.z second.z)

pub upper_least : (p q r : Point) → is_at_most p r ≡ true → is_at_most q r ≡ true → is_at_most (upper_corner p q) r ≡ true
upper_least p q r a b =
    let first = axes p r a in
    let second = axes q r b in
    all_three (upper_corner p q) r (max_least p.x q.x r.x first.x second.x) (max_least p.y q.y r.y first.y second.y) (max_least p.z q.z r.z first.z second.z)

pub at_most_chain : (p q r : Point) → is_at_most p q ≡ true → is_at_most q r ≡ true → is_at_most p r ≡ true
at_most_chain p q r a b =
    let first = axes p q a in
    let second = axes q r b in
    all_three p r (le_chain p.x q.x r.x first.x second.x) (le_chain p.y q.y r.y first.y second.y) (le_chain p.z q.z r.z first.z second.z)

-- a coordinate as code reads it
pub min_read : (m x y : ℤ) → SFits w32 m → SFits w32 x → SFits w32 y → m ≡ int_min (to_z w32 (of_z w32 x)) (to_z w32 (of_z w32 y))
    → to_z w32 (of_z w32 m) ≡ int_min x y
min_read m x y fits left right e = to_z-of_z w32 m fits ∙ e ∙ ap (λ a. int_min a (to_z w32 (of_z w32 y))) (to_z-of_z w32 x left)
    ∙ ap (int_min x) (to_z-of_z w32 y right)

pub max_read : (m x y : ℤ) → SFits w32 m → SFits w32 x → SFits w32 y → m ≡ int_max (to_z w32 (of_z w32 x)) (to_z w32 (of_z w32 y))
    → to_z w32 (of_z w32 m) ≡ int_max x y
max_read m x y fits left right e = to_z-of_z w32 m fits ∙ e ∙ ap (λ a. int_max a (to_z w32 (of_z w32 y))) (to_z-of_z w32 x left)
    ∙ ap (int_max x) (to_z-of_z w32 y right)

pub same_point : (a b c x y z : ℤ) → a ≡ x → b ≡ y → c ≡ z → ◌≡◌ {A = Point} (record { x = a; y = b; z = c }) (record { x = x; y = y; z = z })
same_point a b c x y z d e f = cc

-- a box is made of corners for which that is said
pub made : (o : Option Bounds) (P : Type 0) (v : Bounds) → SomeIff o P v → P → IsSome o
made None P v h p = absurd (h p)
made (Some x) P v h p = refl
