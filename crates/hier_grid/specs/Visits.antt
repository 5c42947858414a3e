-- Definitions: what of a grid's boxes a visitor is shown at once.
use Rattle.std.specs.Prelude.{◌≡◌, ℕ, ℤ, Bool, false, not, ◌&&◌, List, Option, None, Some, IsTrue, filter}
use Rattle.std.specs.Ordering.{nat_cmp}
use Rattle.std.specs.FinMap.{FinMap, entries, get}
use Rattle.fixed_box.specs.declared.point.Point.{Point}
use Rattle.fixed_box.specs.Bounds.{Bounds, encloses, meets}
use Rattle.fixed_box.specs.Point.{is_at_most}
use Rattle.grid_boxes.specs.Grid.{meets_part}
use Rattle.grid_cells.specs.Sized.{is_held}
use Rattle.grid_cells.specs.declared.block_cut.CutAxis.{CutAxis}
use Rattle.grid_cells.specs.declared.block_cut.CutAxis.TheVariants.{X, Y, Z}
use Rattle.hier_grid.specs.declared.area.Area.{Area}
use Rattle.hier_grid.specs.declared.area.Area.TheVariants.{Ring, Rest, Part}

-- whether a box is shown with an area
abbrev pub in_area : Area → Bounds → Bool
in_area (Ring ring inner) b = meets ring b && not (meets_part inner b)
in_area (Rest inner) b = not (meets_part inner b)
in_area (Part body left) b = encloses body b && not (is_held left b)

-- a box that is there, meets a region, and is shown with an area
abbrev pub has_box : Area → Bounds → Option Bounds → Bool
has_box area region None = false
has_box area region (Some b) = meets region b && in_area area b

-- a slot with such a box
abbrev pub is_slot_in : Area → Bounds → FinMap nat_cmp Bounds → ℕ → Bool
is_slot_in area region bodies slot = has_box area region (get bodies slot)

-- the entries whose boxes pass a test
abbrev pub entries_in : (Bounds → Bool) → FinMap nat_cmp Bounds → List (ℕ × Bounds)
entries_in p bodies = filter (λ e. p e.1) (entries bodies)

-- where a point is on an axis
abbrev pub coordinate : CutAxis → Point → ℤ
coordinate X p = p.x
coordinate Y p = p.y
coordinate Z p = p.z

-- a point with another place on an axis
abbrev pub with_coordinate : CutAxis → Point → ℤ → Point
with_coordinate X p at = record p { x = at }
with_coordinate Y p at = record p { y = at }
with_coordinate Z p at = record p { z = at }

-- A box in the one that was cut meets the first part, if it doesn't lie in what is left, which lies in what was cut.
pub record IsCutInTwo (body : Bounds) (parts : Bounds × Bounds) : Type 0 where
  pub near : (b : Bounds) → IsTrue (is_at_most b.lo b.hi) → IsTrue (encloses body b) → encloses parts.1 b ≡ false → IsTrue (meets parts.0 b)
  pub within : IsTrue (encloses body parts.1)
