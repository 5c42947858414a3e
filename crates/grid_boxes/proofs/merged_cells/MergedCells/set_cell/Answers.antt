-- The slot has the cell of its box, and the others stay.
use Rattle.std.proofs.Common.{ap, sym, ◌∙◌, subst}
use Rattle.std.specs.FinMap.{get, insert}
use Rattle.grid_boxes.specs.Standing.{IsMerged}
use Rattle.grid_boxes.proofs.StandingLemmas.{standing_put}
use Rattle.grid_boxes.proofs.merged_cells.MergedCells.set_cell.Goals as goal

pub returns : goal.returns
returns c bodies h s =
    let cells = c.self.inside.cells in
    ap (λ m. get m s) (c.set_key.ensures ∙ ap (insert cells c.args.slot) c.standing_cell.ensures.value)
    ∙ standing_put bodies c.self.inside.floor cells c.args.slot c.args.body.now (subst (IsMerged bodies) (sym c.self.view_is) h) s
