-- The index has the table's boxes.
use Rattle.std.proofs.Common.{◌≡◌, false}
use Rattle.live_table.specs.Bodies.{bodies_of}
use Rattle.live_table.specs.Table.{IsTable}
use Rattle.world_tests.proofs.queries.answer.Given as goal

abbrev pub invariant-loop-corners : goal.invariant-loop-corners
invariant-loop-corners l = record {
  table : IsTable l.table;
  sound : l.index.spent ≡ false;
  boxes : l.index.bodies ≡ bodies_of l.table.entries;
}
