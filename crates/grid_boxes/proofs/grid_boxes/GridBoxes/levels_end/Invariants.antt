-- No box has a level from this one on.
use Rattle.grid_boxes.specs.Candidates.{IsEnd}
use Rattle.grid_boxes.proofs.grid_boxes.GridBoxes.levels_end.Given as goal

abbrev pub invariant-end : goal.invariant-end
invariant-end l = IsEnd l.self l.end

abbrev pub decreases-end : goal.decreases-end
decreases-end l = l.end
