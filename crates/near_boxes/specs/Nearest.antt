-- Definitions: how far boxes lie from a point and from each other, and the nearest boxes of a map.
use Rattle.std.specs.Prelude.{◌≡◌, ◌⊎◌, ℕ, ◌+◌, ◌*◌, ◌<◌, min, max, ℤ, ◌-ℤ◌, unsigned_abs, int_lt, if◌then◌else◌, List, map, take, length, get_or, Some}
use Rattle.std.specs.Ordering.{nat_cmp, on, then_cmp}
use Rattle.std.specs.declared.cmp.Ordering.{Ordering}
use Rattle.std.specs.FinMap.{FinMap, entries, get, len}
use Rattle.std.specs.List.{Contains}
use Rattle.fixed_box.specs.declared.point.Point.{Point}
use Rattle.fixed_box.specs.Bounds.{Bounds}
use Rattle.ordered_lists.specs.Ordered.{ordered_by}
use Rattle.near_boxes.specs.declared.near.Near.{Near}

-- how far a number lies above another, and 0 where it doesn't
abbrev pub above : ℤ → ℤ → ℕ
above low high = if int_lt low high then unsigned_abs (high -ℤ low) else 0

-- how far a coordinate lies from an interval: below its lower end or above its upper end, and 0 within it
abbrev pub gap : ℤ → ℤ → ℤ → ℕ
gap lo hi at = max (above at lo) (above hi at)

-- the square of a number
abbrev pub squared : ℕ → ℕ
squared n = n * n

-- The square of the distance from a point to a box (Ericson, Real-Time Collision Detection, 2005, 5.1.3.1).
abbrev pub square : Point → Bounds → ℕ
square at b = squared (gap b.lo.x b.hi.x at.x) + squared (gap b.lo.y b.hi.y at.y) + squared (gap b.lo.z b.hi.z at.z)

-- how far two intervals lie apart: a's upper end below b's lower one or b's below a's, and 0 if they have a common number
abbrev pub gap_between : ℤ → ℤ → ℤ → ℤ → ℕ
gap_between a_lo a_hi b_lo b_hi = max (above a_hi b_lo) (above b_hi a_lo)

-- The square of the distance of two boxes: that of their gaps on the three axes.
abbrev pub square_apart : Bounds → Bounds → ℕ
square_apart a b =
    squared (gap_between a.lo.x a.hi.x b.lo.x b.hi.x) + squared (gap_between a.lo.y a.hi.y b.lo.y b.hi.y)
    + squared (gap_between a.lo.z a.hi.z b.lo.z b.hi.z)

-- the flat box at a point
abbrev pub spot : Point → Bounds
spot at = record { lo = at; hi = at }

-- the square of the distance between two points
abbrev pub square_between : Point → Point → ℕ
square_between p q = squared (unsigned_abs (p.x -ℤ q.x)) + squared (unsigned_abs (p.y -ℤ q.y)) + squared (unsigned_abs (p.z -ℤ q.z))

-- by the square, and then by the slot
abbrev pub near_cmp : Near → Near → Ordering
near_cmp = then_cmp (on (λ n. n.square) nat_cmp) (on (λ n. n.slot) nat_cmp)

-- a slot with the square of its box
abbrev pub seen_from : Point → ℕ × Bounds → Near
seen_from at e = record { slot = e.0; square = square at e.1 }

-- of entries, those whose boxes are nearest to a point, in rising order, and at most so many
abbrev pub nearest_of : List (ℕ × Bounds) → Point → ℕ → List Near
nearest_of es at want = take want (ordered_by near_cmp (map (seen_from at) es))

-- The slots whose boxes are nearest to a point, with their squares, in rising order of the square and then of the slot, and at most so many.
abbrev pub nearest : FinMap nat_cmp Bounds → Point → ℕ → List Near
nearest bodies at want = nearest_of (entries bodies) at want

-- a slot with the square of its box's distance from another box
abbrev pub seen_about : Bounds → ℕ × Bounds → Near
seen_about to e = record { slot = e.0; square = square_apart to e.1 }

-- of entries, those whose boxes are nearest to a box, in rising order, and at most so many
abbrev pub nearest_about_of : List (ℕ × Bounds) → Bounds → ℕ → List Near
nearest_about_of es to want = take want (ordered_by near_cmp (map (seen_about to) es))

-- The slots whose boxes are nearest to a box, with their squares, in rising order of the square and then of the slot, and at most so many.
abbrev pub nearest_about : FinMap nat_cmp Bounds → Bounds → ℕ → List Near
nearest_about bodies to want = nearest_about_of (entries bodies) to want

-- a slot of the map, with the square of its box
abbrev pub IsSeen : FinMap nat_cmp Bounds → Point → Near → Type 0
IsSeen bodies at near = (b : Bounds) × ((get bodies near.slot ≡ Some b) × (near.square ≡ square at b))

-- m is nearer than n, or as near under a lower slot
abbrev pub Precedes : Near → Near → Type 0
Precedes m n = (m.square < n.square) ⊎ ((m.square ≡ n.square) × (m.slot < n.slot))

-- What a list of the nearest is, in its own words: it has as many slots of the map as are wanted, or all, each with its square. Each comes before all
-- later ones, and before each slot that is left out.
pub record AreNearest (bodies : FinMap nat_cmp Bounds) (at : Point) (want : ℕ) (nears : List Near) : Type 0 where
  pub count : length nears ≡ min want (len bodies)
  pub seen : (near : Near) → Contains nears near → IsSeen bodies at near
  pub rising : (i j : ℕ) (d : Near) → i < j → j < length nears → Precedes (get_or nears i d) (get_or nears j d)
  pub left_out : (near other : Near) → Contains nears near → IsSeen bodies at other → ¬ Contains nears other → Precedes near other

-- a slot of the map, with the square of its box's distance from another box
abbrev pub IsSeenAbout : FinMap nat_cmp Bounds → Bounds → Near → Type 0
IsSeenAbout bodies to near = (b : Bounds) × ((get bodies near.slot ≡ Some b) × (near.square ≡ square_apart to b))

-- The same of the nearest to a box.
pub record AreNearestAbout (bodies : FinMap nat_cmp Bounds) (to : Bounds) (want : ℕ) (nears : List Near) : Type 0 where
  pub count : length nears ≡ min want (len bodies)
  pub seen : (near : Near) → Contains nears near → IsSeenAbout bodies to near
  pub rising : (i j : ℕ) (d : Near) → i < j → j < length nears → Precedes (get_or nears i d) (get_or nears j d)
  pub left_out : (near other : Near) → Contains nears near → IsSeenAbout bodies to other → ¬ Contains nears other → Precedes near other
