-- An index that has the boxes of a table is ready for what can be undone there.
use Rattle.std.proofs.Common.{◌≡◌}
use Rattle.std.specs.Ordering.{nat_cmp}
use Rattle.std.specs.FinMap.{FinMap}
use Rattle.fixed_box.specs.Bounds.{Bounds}
use Rattle.live_table.specs.Bodies.{bodies_of}
use Rattle.live_table.specs.Table.{Table, IsTable}
use Rattle.world_marks.specs.declared.undo.Undo.{Undo}
use Rattle.world_marks.specs.Undone.{CanUndo}
use Rattle.world_marks.specs.WayBack.{IsReadyFor}

pub ready_for : (undo : Undo) (boxes : FinMap nat_cmp Bounds) (t : Table) → IsTable t → CanUndo undo t → boxes ≡ bodies_of t.entries
    → IsReadyFor undo boxes
ready_for undo boxes t is can same = record { table = t; is = is; can = can; same = same }
