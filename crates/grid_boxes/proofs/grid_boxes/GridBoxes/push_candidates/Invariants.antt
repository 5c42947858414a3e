-- The levels below this one are done.
use Rattle.grid_cells.specs.Appended.{Appends}
use Rattle.grid_boxes.specs.Candidates.{HasMetIn}
use Rattle.grid_boxes.proofs.grid_boxes.GridBoxes.push_candidates.Given as goal

abbrev pub invariant-levels : goal.invariant-levels
invariant-levels l = Appends (HasMetIn l.self 0 l.level l.region) l.fn.slots.items l.slots.items
