-- Definitions: on how many axes the intervals of two boxes overlap.
use Rattle.std.specs.Prelude.{ℕ, ◌+◌, ℤ, int_le, Bool, ◌&&◌, Option, None, Some}
use Rattle.std.specs.Ordering.{nat_cmp}
use Rattle.std.specs.FinMap.{FinMap, get}
use Rattle.fixed_box.specs.Bounds.{Bounds}
use Rattle.fixed_box.specs.declared.point.Point.{Point}
use Rattle.sweep_prune.specs.declared.axis.Axis.TheVariants.{X, Y, Z}
use Rattle.sweep_prune.specs.Keyed.{coord}
use Rattle.sweep_prune.specs.Places.{one_if}

-- on the axis that a coordinate stands for
abbrev pub overlaps_on : (Point → ℤ) → Bounds → Bounds → Bool
overlaps_on axis a b = int_le (axis a.lo) (axis b.hi) && int_le (axis b.lo) (axis a.hi)

abbrev pub axes_of : Option Bounds → Option Bounds → ℕ
axes_of None b = 0
axes_of (Some a) None = 0
axes_of (Some a) (Some b) = one_if (overlaps_on (coord X) a b) + one_if (overlaps_on (coord Y) a b) + one_if (overlaps_on (coord Z) a b)

-- of two slots of a map, and 0 where one is absent
abbrev pub axes : FinMap nat_cmp Bounds → ℕ → ℕ → ℕ
axes bodies a b = axes_of (get bodies a) (get bodies b)
