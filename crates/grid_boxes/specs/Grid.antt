-- Definitions: what a grid keeps of its boxes.
use Rattle.std.specs.Prelude.{◌≡◌, ℕ, Bool, false, IsTrue, Option, None, Some, option_map}
use Rattle.std.specs.Ordering.{nat_cmp}
use Rattle.std.specs.FinMap.{FinMap, get}
use Rattle.fixed_box.specs.Bounds.{Bounds, meets}
use Rattle.cell_table.specs.declared.cell_key.CellKey.{CellKey}
use Rattle.grid_cells.specs.Cells.{cell_of}
use Rattle.grid_cells.specs.Sized.{IsSized, is_held}

-- exactly the present slots have cells, each that of its box
abbrev pub AreKeyed : FinMap nat_cmp Bounds → FinMap nat_cmp CellKey → Type 0
AreKeyed bodies cells = (s : ℕ) → get cells s ≡ option_map cell_of (get bodies s)

-- a box meets another, if there is one
abbrev pub meets_part : Option Bounds → Bounds → Bool
meets_part None b = false
meets_part (Some a) b = meets a b

-- The boxes are keyed by their cells, each is sized, and all lie in the hull.
pub record IsGrid (bodies : FinMap nat_cmp Bounds) (cells : FinMap nat_cmp CellKey) (hull : Option Bounds) : Type 0 where
  pub keyed : AreKeyed bodies cells
  pub held : (s : ℕ) (b : Bounds) → get bodies s ≡ Some b → IsTrue (is_held hull b)
  pub sized : (s : ℕ) (b : Bounds) → get bodies s ≡ Some b → IsSized b
