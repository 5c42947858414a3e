-- Definitions: the cells in which boxes stand in a list by bucket, where none stands below a floor.
use Rattle.std.specs.Prelude.{◌≡◌, ℕ, refl, option_map}
use Rattle.std.specs.Ordering.{nat_cmp}
use Rattle.std.specs.Coded.{Coded, code_by, coded×, coded_ℕ}
use Rattle.std.specs.FinMap.{FinMap, code, get}
use Rattle.fixed_box.specs.Bounds.{Bounds}
use Rattle.cell_table.specs.declared.cell_key.CellKey.{CellKey}
use Rattle.cell_table.specs.Cells.{coded_key}
use Rattle.grid_cells.specs.Cells.{standing_cell}

-- exactly the present slots have cells, each that in which its box stands
abbrev pub AreStanding : FinMap nat_cmp Bounds → ℕ → FinMap nat_cmp CellKey → Type 0
AreStanding bodies floor cells = (s : ℕ) → get cells s ≡ option_map (standing_cell floor) (get bodies s)

-- a table of such cells with its floor
pub record Merged : Type 0 where
  pub cells : FinMap nat_cmp CellKey
  pub floor : ℕ

-- stored as the pair of its fields
abbrev pub coded_merged : Coded Merged
coded_merged =
    code_by (FinMap nat_cmp CellKey × ℕ) (coded× (code coded_ℕ coded_key) coded_ℕ)
    (λ m. (m.cells, m.floor)) (λ t. record { cells = t.0; floor = t.1 }) (λ _. refl)

-- its cells are those of the boxes
abbrev pub IsMerged : FinMap nat_cmp Bounds → Merged → Type 0
IsMerged bodies m = AreStanding bodies m.floor m.cells
