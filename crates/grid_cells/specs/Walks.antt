-- Definitions: a walk of cells, row by row.
use Rattle.std.specs.Prelude.{◌⊎◌, List, [], ◌∷◌}
use Rattle.cell_table.specs.declared.cell_key.CellKey.{CellKey}
use Rattle.grid_cells.specs.declared.cell_row.CellRow.{CellRow}
use Rattle.grid_cells.specs.Cells.{IsInRow}

-- a cell is in one of some rows
unfoldable pub IsInOne : List CellRow → CellKey → Type 0
IsInOne [] k = ⊥
IsInOne (row ∷ rows) k = IsInRow row k ⊎ IsInOne rows k

-- a search looked into rows that have all cells which are sought
pub record Covers {T : Type 0} (searched : List CellRow → T → T → Type 0) (IsThere : CellKey → Type 0) (old new : T) : Type 0 where
  pub rows : List CellRow
  pub all : (k : CellKey) → IsThere k → IsInOne rows k
  pub looked : searched rows old new
