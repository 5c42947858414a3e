-- The table that is kept has no part in what the copies are.
use Rattle.grid_boxes.proofs.bucket_boxes.BucketBoxes.fill_merged.Goals as goal

pub returns-clause-filled : goal.returns-clause-filled
returns-clause-filled c =
    let all = c.in_ok-fill_cells.ensures.filled in
    record { cells = all.cells; low = all.low; keyed = all.keyed; listed = all.listed; same = all.same; right = all.right }
