-- The boxes have it.
use Rattle.std.proofs.Common.{ap, ◌∙◌}
use Rattle.std.specs.FinMap.{get}
use Rattle.grid_boxes.proofs.grid_boxes.GridBoxes.slots_law.Goals as goal

pub returns : goal.returns
returns c q b e = c.slots_law.ensures q b (ap (λ m. get m q) c.self.view_is ∙ e)
