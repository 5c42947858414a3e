-- Serves proofs alone: the way back in an index.
use Rattle.std.specs.Prelude.{◌≡◌}
use Rattle.std.specs.Ordering.{nat_cmp}
use Rattle.std.specs.FinMap.{FinMap}
use Rattle.fixed_box.specs.Bounds.{Bounds}
use Rattle.live_table.specs.Bodies.{bodies_of}
use Rattle.live_table.specs.Table.{Table, IsTable}
use Rattle.world_marks.specs.declared.undo.Undo.{Undo}
use Rattle.world_marks.specs.Undone.{CanUndo}

-- the boxes are those of a table in which the change can be undone
pub record IsReadyFor (undo : Undo) (boxes : FinMap nat_cmp Bounds) : Type 0 where
  pub table : Table
  pub is : IsTable table
  pub can : CanUndo undo table
  pub same : boxes ≡ bodies_of table.entries
