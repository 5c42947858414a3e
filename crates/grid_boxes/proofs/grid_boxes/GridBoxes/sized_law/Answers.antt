-- Each box was put in with its level.
use Rattle.std.proofs.Common.{ap, ◌∙◌}
use Rattle.std.specs.FinMap.{get}
use Rattle.grid_boxes.proofs.grid_boxes.GridBoxes.sized_law.Goals as goal

pub returns : goal.returns
returns c q b e = c.self.invariant.sized q b (ap (λ m. get m q) c.self.view_is ∙ e)
