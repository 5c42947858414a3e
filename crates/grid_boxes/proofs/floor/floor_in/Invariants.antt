-- The floor is a level.
use Rattle.std.proofs.Common.{◌<◌}
use Rattle.cell_table.specs.declared.TheConstants.{LEVELS}
use Rattle.grid_boxes.proofs.floor.floor_in.Given as goal

abbrev pub invariant-levels : goal.invariant-levels
invariant-levels l = l.floor < LEVELS
