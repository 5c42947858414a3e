-- The slot has no cell, and the others stay.
use Rattle.std.proofs.Common.{ap, sym, ◌∙◌, subst}
use Rattle.std.specs.FinMap.{get}
use Rattle.grid_boxes.specs.Standing.{IsMerged}
use Rattle.grid_boxes.proofs.StandingLemmas.{standing_take}
use Rattle.grid_boxes.proofs.merged_cells.MergedCells.drop_cell.Goals as goal

pub returns : goal.returns
returns c bodies h s =
    ap (λ m. get m s) c.drop_key.ensures
    ∙ standing_take bodies c.self.inside.floor c.self.inside.cells c.args.slot (subst (IsMerged bodies) (sym c.self.view_is) h) s
