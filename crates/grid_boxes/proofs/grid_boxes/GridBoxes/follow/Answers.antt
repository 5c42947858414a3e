-- The cell of each box that meets the line is beside the region.
use Rattle.std.proofs.Common.{refl}
use Rattle.grid_cells.specs.Cells.{cell_of}
use Rattle.grid_cells.specs.CellLaws.{met_beside}
use Rattle.grid_boxes.proofs.GridLemmas.{boxes_in_cells}
use Rattle.grid_boxes.proofs.grid_boxes.GridBoxes.follow.Goals as goal

pub returns-else-not-whole-clause-whole : goal.returns-else-not-whole-clause-whole
returns-else-not-whole-clause-whole g c whole = boxes_in_cells _ _ _ _ _ _ _ c.self.invariant.keyed c.self.view_is (λ q b e m.
    let sized = c.sized_law.ensures q b e in
    let beside = met_beside c.args.level c.args.region.now b sized m.0 m.1.0 in
    record { body = b; cell = refl; sized = sized; there = c.block_beside-block.ensures.whole (cell_of b) m.0 beside; met = m.1.1 })
    (c.in_ok-whole.ensures.found whole)
