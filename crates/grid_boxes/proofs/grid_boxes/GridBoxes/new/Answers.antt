-- No slot has a box, and none has a cell.
use Rattle.grid_boxes.proofs.GridLemmas.{grid_new}
use Rattle.grid_boxes.proofs.grid_boxes.GridBoxes.new.Goals as goal

pub invariant_of-result : goal.invariant_of-result
invariant_of-result c = grid_new c.in_ok-new.field-0 c.in_ok-new-2.field-0 c.in_ok-new.ensures c.in_ok-new-2.ensures
