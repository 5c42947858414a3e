-- Definitions: the cell of a box, and the cells beside a box (Ericson, Real-Time Collision Detection, 2005, 7.2.1).
use Rattle.std.specs.Prelude.{◌≡◌, ◌⊎◌, ℕ, ℤ, pos, max, ◌-ℤ◌, ◌≤ℤ◌, ◌<ℤ◌}
use Rattle.std.specs.Int.{int_div_euclid}
use Rattle.fixed_box.specs.Bounds.{Bounds, cell_side, level_of}
use Rattle.fixed_box.specs.declared.point.Point.{Point}
use Rattle.cell_table.specs.declared.cell_key.CellKey.{CellKey}
use Rattle.grid_cells.specs.declared.cell_block.CellBlock.{CellBlock}
use Rattle.grid_cells.specs.declared.cell_row.CellRow.{CellRow}
use Rattle.grid_cells.specs.declared.later_cells.LaterCells.{LaterCells}

-- the place of a coordinate among the cells of a level: the quotient by their side, rounded down
abbrev pub cell_at : ℕ → ℤ → ℤ
cell_at level x = int_div_euclid x (pos (cell_side level))

-- the cell of a level that a point lies in
abbrev pub cell_on : ℕ → Point → CellKey
cell_on level p = record { level = level; x = cell_at level p.x; y = cell_at level p.y; z = cell_at level p.z }

-- A box lies at the least level whose cells are longer than it, in the cell of its lower corner.
abbrev pub cell_of : Bounds → CellKey
cell_of b = cell_on (level_of b) b.lo

-- A box stands at its level, or at the floor where that is higher, in the cell of its lower corner. It is shorter than those cells.
abbrev pub standing_cell : ℕ → Bounds → CellKey
standing_cell floor b = cell_on (max (level_of b) floor) b.lo

-- c is among the cells of an interval, or it is the one before the first
pub record IsFrom (level : ℕ) (lo hi c : ℤ) : Type 0 where
  pub low : (cell_at level lo -ℤ pos 1) ≤ℤ c
  pub high : c ≤ℤ cell_at level hi

-- A cell is beside a box: a box of this cell, which reaches at most into the next one, may meet it.
pub record IsBeside (level : ℕ) (a : Bounds) (c : CellKey) : Type 0 where
  pub x : IsFrom level a.lo.x a.hi.x c.x
  pub y : IsFrom level a.lo.y a.hi.y c.y
  pub z : IsFrom level a.lo.z a.hi.z c.z

-- a cell is in a block: on each axis it comes from the first corner on, and before the second
pub record IsInBlock (block : CellBlock) (k : CellKey) : Type 0 where
  pub level : k.level ≡ block.from.level
  pub low_x : block.from.x ≤ℤ k.x
  pub high_x : k.x <ℤ block.end.x
  pub low_y : block.from.y ≤ℤ k.y
  pub high_y : k.y <ℤ block.end.y
  pub low_z : block.from.z ≤ℤ k.z
  pub high_z : k.z <ℤ block.end.z

-- two parts of a block have all its cells
pub record IsCut (block a b : CellBlock) : Type 0 where
  pub level_a : a.from.level ≡ block.from.level
  pub level_b : b.from.level ≡ block.from.level
  pub whole : (k : CellKey) → IsInBlock block k → IsInBlock a k ⊎ IsInBlock b k

-- A cell comes after another in the order of x, then y, then z.
abbrev pub IsAfter : CellKey → CellKey → Type 0
IsAfter k c = (c.x <ℤ k.x) ⊎ (((k.x ≡ c.x) × (c.y <ℤ k.y)) ⊎ ((k.x ≡ c.x) × ((k.y ≡ c.y) × (c.z <ℤ k.z))))

-- a cell is in a row
pub record IsInRow (row : CellRow) (k : CellKey) : Type 0 where
  pub low : row.key.z ≤ℤ k.z
  pub high : k.z <ℤ row.end
  pub column : k ≡ record row.key { z = k.z }

-- a cell at the x of one corner is in a plane of cells: from that corner on, and before another, on y and z
pub record IsInPlane (from end : CellKey) (k : CellKey) : Type 0 where
  pub low_y : from.y ≤ℤ k.y
  pub high_y : k.y <ℤ end.y
  pub low_z : from.z ≤ℤ k.z
  pub high_z : k.z <ℤ end.z
  pub plane : k ≡ record from { y = k.y; z = k.z }

-- a cell is among those that come later: in the rest of a row, in a plane or in a block
abbrev pub IsAmong : LaterCells → CellKey → Type 0
IsAmong cells k =
    IsInRow (record { key = cells.row; end = cells.end.z }) k
    ⊎ (IsInPlane cells.plane cells.end k ⊎ IsInBlock (record { from = cells.block; end = cells.end }) k)
