-- Definitions: boxes in space that are shorter than the cells of their levels, and a box that holds another.
use Rattle.std.specs.Prelude.{◌<◌, Bool, false, IsTrue, Option, None, Some}
use Rattle.fixed_box.specs.Bounds.{Bounds, cell_side, encloses, level_of, longest_side, meets}
use Rattle.fixed_box.specs.Point.{is_at_most}
use Rattle.fixed_box.specs.Space.{space}

-- a box in space with its corners in order, which is shorter than the cells of its level
pub record IsSized (b : Bounds) : Type 0 where
  pub ordered : IsTrue (is_at_most b.lo b.hi)
  pub fits : longest_side b < cell_side (level_of b)
  pub in_space : IsTrue (meets space b)
  pub inside : IsTrue (encloses space b)

-- a box lies in another, if there is one
abbrev pub is_held : Option Bounds → Bounds → Bool
is_held None b = false
is_held (Some outer) b = encloses outer b
