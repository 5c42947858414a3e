-- What a box is to a clause: its two corners.
use Rattle.std.specs.Prelude.{ℕ, ◌+◌, ◌*◌, ◌^◌, ℤ, ◌-ℤ◌, unsigned_abs, max, Bool, ◌&&◌, nat_lt, find, unwrap_or, refl}
use Rattle.std.specs.List.{range_with_len}
use Rattle.std.specs.Coded.{Coded, code_by, coded×, coded_ℤ}
use Rattle.fixed_box.specs.declared.point.Point.{Point}
use Rattle.fixed_box.specs.Point.{is_at_most, lower_corner, upper_corner, lowered_corner, raised_corner}

-- All points with `lo <= p <= hi` on each axis.
pub record Bounds : Type 0 where
  pub lo : Point
  pub hi : Point

-- Closed boxes have a common point exactly where their intervals overlap on each axis (Ericson, Real-Time Collision Detection, 2005, 4.2.1).
abbrev pub meets : Bounds → Bounds → Bool
meets a b = is_at_most a.lo b.hi && is_at_most b.lo a.hi

-- a point belongs to a closed box where it lies between the corners on each axis
abbrev pub holds : Bounds → Point → Bool
holds b p = is_at_most b.lo p && is_at_most p b.hi

-- a's interval holds b's on each axis
abbrev pub encloses : Bounds → Bounds → Bool
encloses a b = is_at_most a.lo b.lo && is_at_most b.hi a.hi

-- the least box that encloses two (Ericson, 6.5.2)
abbrev pub hull : Bounds → Bounds → Bounds
hull a b = record { lo = lower_corner a.lo b.lo; hi = upper_corner a.hi b.hi }

-- each side moved outwards
abbrev pub fattened : Bounds → ℕ → Bounds
fattened b by = record { lo = lowered_corner b.lo by; hi = raised_corner b.hi by }

-- the greatest length over the axes
abbrev pub longest_side : Bounds → ℕ
longest_side b = max (max (unsigned_abs (b.hi.x -ℤ b.lo.x)) (unsigned_abs (b.hi.y -ℤ b.lo.y))) (unsigned_abs (b.hi.z -ℤ b.lo.z))

-- the side of a grid's cells at each level from 0 to 10: 2 ^ (12 + 2 * level) raw units
abbrev pub cell_side : ℕ → ℕ
cell_side level = 2 ^ (12 + 2 * level)

-- the least level whose cells are longer than a side, which is below 2 ^ 32
abbrev pub level_for : ℕ → ℕ
level_for side = unwrap_or (find (λ level. nat_lt side (cell_side level)) (range_with_len 0 11)) 10

-- An object's level in a hierarchical grid is chosen by its size (Ericson, 7.2).
abbrev pub level_of : Bounds → ℕ
level_of b = level_for (longest_side b)

-- stored as its six numbers
abbrev pub coded_bounds : Coded Bounds
coded_bounds = code_by ((ℤ × (ℤ × ℤ)) × (ℤ × (ℤ × ℤ))) (coded× (coded× coded_ℤ (coded× coded_ℤ coded_ℤ)) (coded× coded_ℤ (coded× coded_ℤ coded_ℤ)))
    (λ b. ((b.lo.x, (b.lo.y, b.lo.z)), (b.hi.x, (b.hi.y, b.hi.z))))
    (λ t. record { lo = record { x = t.0.0; y = t.0.1.0; z = t.0.1.1 }; hi = record { x = t.1.0; y = t.1.1.0; z = t.1.1.1 } }) (λ _. refl)
