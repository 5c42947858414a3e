-- The levels below this one are done.
use Rattle.grid_cells.specs.Appended.{Appends}
use Rattle.grid_boxes.specs.Candidates.{HasHitsIn}
use Rattle.grid_boxes.proofs.grid_boxes.GridBoxes.push_along_levels.Given as goal

abbrev pub invariant-levels : goal.invariant-levels
invariant-levels g l = Appends (HasHitsIn l.self l.level l.region (g.T.BoxTest.asks l.test)) l.fn.slots.items l.slots.items
