-- The slot has no box, and no cell. Where none is left nothing has to be held.
use Rattle.std.proofs.Common.{◌∙◌, ap}
use Rattle.std.specs.FinMap.{contains_key, get, remove}
use Rattle.grid_boxes.proofs.GridLemmas.{grid_held, grid_take, same_slots}
use Rattle.grid_boxes.proofs.grid_boxes.GridBoxes.take.Goals as goal

pub take-requires : goal.take-requires
take-requires c =
    same_slots c.self.inside.boxes c.self.inside.cells c.args.slot c.self.invariant.keyed ∙ ap (λ m. contains_key m c.args.slot) c.self.view_is ∙ c.requires

pub invariant_of-self : goal.invariant_of-self
invariant_of-self c =
    let bodies = c.self.inside.boxes in
    let cells = c.self.inside.cells in
    rw (c.take.ensures, c.take-2.ensures) (grid_held (remove bodies c.args.slot) (remove cells c.args.slot) c.self.inside.hull c.hull_left-self-inside.result
    (grid_take bodies cells c.self.inside.hull c.args.slot c.self.invariant)
    (λ s b e h. c.hull_left-self-inside.ensures s b (ap (λ m. get m s) (c.boxes.ensures ∙ c.take-2.ensures) ∙ e) h))
