-- Each box was put in from space.
use Rattle.grid_boxes.proofs.grid_boxes.GridBoxes.space_law.Goals as goal

pub returns : goal.returns
returns c q b e = (c.sized_law.ensures q b e).in_space
