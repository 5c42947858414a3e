-- Definitions: what visits of cells append to a list of slots.
use Rattle.std.specs.Prelude.{◌≡◌, ℕ, true, List, ◌++◌, length, take, Some}
use Rattle.std.specs.Ordering.{nat_cmp}
use Rattle.std.specs.FinMap.{FinMap, get}
use Rattle.fixed_box.specs.Bounds.{Bounds}
use Rattle.broad_index.specs.declared.query.Query.{Query}
use Rattle.broad_index.specs.Found.{query_meets}
use Rattle.broad_index.specs.Members.{has_slot}
use Rattle.cell_table.specs.declared.cell_key.CellKey.{CellKey}
use Rattle.grid_cells.specs.declared.cell_block.CellBlock.{CellBlock}
use Rattle.grid_cells.specs.Cells.{cell_of, IsInBlock}
use Rattle.grid_cells.specs.Sized.{IsSized}

-- what was in a list is still its beginning
abbrev pub Stays : List ℕ → List ℕ → Type 0
Stays old new = take (length old) new ≡ old

-- Slots stand behind what was in a list, and all that are sought are among them.
pub record Appends (Has : List ℕ → Type 0) (old new : List ℕ) : Type 0 where
  pub slots : List ℕ
  pub appended : new ≡ old ++ slots
  pub has : Has slots

-- the slots whose values meet a condition are in a list
abbrev pub HasWhere : {X : Type 0} → FinMap nat_cmp X → (X → Type 0) → List ℕ → Type 0
HasWhere {X} table Meets slots = (q : ℕ) (x : X) → get table q ≡ Some x → Meets x → has_slot slots q ≡ true

-- the slots of some cells are in a list
abbrev pub HasCells : FinMap nat_cmp CellKey → (CellKey → Type 0) → List ℕ → Type 0
HasCells cells IsThere = HasWhere cells IsThere

-- a cell of a block is that of a box which meets a query
pub record IsCrossed (block : CellBlock) (query : Query) (k : CellKey) : Type 0 where
  pub body : Bounds
  pub cell : k ≡ cell_of body
  pub sized : IsSized body
  pub there : IsInBlock block k
  pub met : query_meets query body ≡ true

-- the slots in a block's cells whose boxes meet a query are in a list
abbrev pub HasCrossed : FinMap nat_cmp CellKey → CellBlock → Query → List ℕ → Type 0
HasCrossed cells block query = HasWhere cells (IsCrossed block query)
