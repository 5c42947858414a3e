-- All cells beside the body that come after its cell are visited.
use Rattle.std.proofs.lemmas.Result.{on_ok_weaker}
use Rattle.grid_cells.specs.Cells.{cell_of}
use Rattle.grid_cells.specs.CellLaws.{met_beside}
use Rattle.grid_boxes.proofs.GridLemmas.{boxes_in_cells}
use Rattle.grid_boxes.proofs.grid_boxes.GridBoxes.push_later.Goals as goal

pub returns : goal.returns
returns c = on_ok_weaker c.visit_later.result (boxes_in_cells _ _ _ _ _ _ _ c.self.invariant.keyed c.self.view_is (λ q b e m.
    c.cells_after.ensures (cell_of b) m.0 (met_beside c.args.level c.args.body.now b (c.sized_law.ensures q b e) m.0 m.1.1) m.1.0)) c.visit_later.ensures.ok
