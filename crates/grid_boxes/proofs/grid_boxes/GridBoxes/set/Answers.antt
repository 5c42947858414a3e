-- The slot has the box, and the cell of the box.
use Rattle.std.proofs.Common.{◌∙◌, ap}
use Rattle.std.specs.FinMap.{contains_key}
use Rattle.grid_boxes.proofs.GridLemmas.{grid_put, same_slots}
use Rattle.grid_boxes.proofs.grid_boxes.GridBoxes.set.Goals as goal

pub rekey-requires-clause-present : goal.rekey-requires-clause-present
rekey-requires-clause-present c =
    same_slots c.self.inside.boxes c.self.inside.cells c.args.slot c.self.invariant.keyed
    ∙ ap (λ m. contains_key m c.args.slot) c.self.view_is ∙ c.requires.present

pub invariant_of-self : goal.invariant_of-self
invariant_of-self c =
    rw (c.rekey.ensures, c.set.ensures, c.cell_of.ensures.value)
    (grid_put c.self.inside.boxes c.self.inside.cells c.self.inside.hull c.args.slot c.args.body c.grown.result
    c.self.invariant c.cell_of.ensures.sized c.grown.ensures.body c.grown.ensures.kept)
