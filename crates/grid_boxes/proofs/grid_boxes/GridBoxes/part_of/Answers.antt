-- Each box lies in the hull.
use Rattle.std.proofs.Common.{◌≡◌, true, Option, ap, ◌∙◌, subst}
use Rattle.std.specs.FinMap.{get}
use Rattle.fixed_box.specs.Bounds.{Bounds}
use Rattle.grid_cells.specs.Sized.{is_held}
use Rattle.grid_boxes.proofs.grid_boxes.GridBoxes.part_of.Goals as goal

pub returns-in-Some : goal.returns-in-Some
returns-in-Some c q b e m =
    c.part_in.ensures b (c.sized_law.ensures q b e).ordered
    (subst (λ (o : Option Bounds). is_held o b ≡ true) c.in-Some.is (c.self.invariant.held q b (ap (λ m. get m q) c.self.view_is ∙ e))) m

pub returns-in-None : goal.returns-in-None
returns-in-None c q b e m =
    subst (λ (o : Option Bounds). is_held o b ≡ true) c.in-None.is (c.self.invariant.held q b (ap (λ m. get m q) c.self.view_is ∙ e))
