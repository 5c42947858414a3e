-- Where no box is left there is none to hold.
use Rattle.grid_boxes.proofs.GridLemmas.{no_box}
use Rattle.grid_boxes.proofs.grid_boxes.hull_left.Goals as goal

pub returns-then-is_bare : goal.returns-then-is_bare
returns-then-is_bare c s b e h = absurd (no_box c.args.boxes.now s b (c.is_bare.ensures c.if-is_bare.true) e)
