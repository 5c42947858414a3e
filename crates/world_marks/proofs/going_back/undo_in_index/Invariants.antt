use Rattle.std.proofs.Common.{◌≡◌, ◌++◌, List, false, length}
use Rattle.live_table.specs.Bodies.{bodies_of}
use Rattle.live_table.specs.Table.{IsTable}
use Rattle.world_marks.specs.declared.undo.Undo.{Undo}
use Rattle.world_marks.specs.Undone.{undone}
use Rattle.world_marks.proofs.going_back.undo_in_index.Given as goal

-- the index has the boxes of the table before the changes that are undone so far
abbrev pub invariant-undone : goal.invariant-undone
invariant-undone g l = record {
  done : List Undo;
  split : l.fn.undos ≡ l.left ++ done;
  table : IsTable (undone done l.fn.table);
  sound : g.B.BroadPhase.spent l.index ≡ false;
  boxes : g.B.BroadPhase.bodies l.index ≡ bodies_of (undone done l.fn.table).entries;
}

abbrev pub decreases-undone : goal.decreases-undone
decreases-undone g l = length l.left
