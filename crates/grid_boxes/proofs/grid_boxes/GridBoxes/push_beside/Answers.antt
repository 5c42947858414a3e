-- All cells beside the region are visited.
use Rattle.std.proofs.lemmas.Result.{on_ok_weaker}
use Rattle.grid_cells.specs.Cells.{cell_of}
use Rattle.grid_cells.specs.CellLaws.{met_beside}
use Rattle.grid_boxes.proofs.GridLemmas.{boxes_in_cells}
use Rattle.grid_boxes.proofs.grid_boxes.GridBoxes.push_beside.Goals as goal

pub returns-clause-ok : goal.returns-clause-ok
returns-clause-ok c = on_ok_weaker c.visit_block.result (boxes_in_cells _ _ _ _ _ _ _ c.self.invariant.keyed c.self.view_is (λ q b e m.
    c.block_beside.ensures.whole (cell_of b) m.0 (met_beside c.args.level c.args.region.now b (c.sized_law.ensures q b e) m.0 m.1))) c.visit_block.ensures.ok
