-- With no floor each box stands in its own cell.
use Rattle.grid_boxes.proofs.StandingLemmas.{standing_own}
use Rattle.grid_boxes.proofs.bucket_boxes.BucketBoxes.fill_own.Goals as goal

pub fill_cells-requires-clause-standing : goal.fill_cells-requires-clause-standing
fill_cells-requires-clause-standing c = standing_own c.args.kept.now c.cells.result.now c.cells.ensures
