-- Each box was put in where the hull grew.
use Rattle.std.proofs.Common.{ap, ◌∙◌}
use Rattle.std.specs.FinMap.{get}
use Rattle.grid_boxes.proofs.grid_boxes.GridBoxes.hull.Goals as goal

pub returns : goal.returns
returns c q b e = c.self.invariant.held q b (ap (λ m. get m q) c.self.view_is ∙ e)
