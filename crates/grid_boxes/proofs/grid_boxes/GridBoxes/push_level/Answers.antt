-- A level with no box has none that meets the region.
use Rattle.grid_cells.specs.AppendLaws.{none_where}
use Rattle.grid_boxes.proofs.grid_boxes.GridBoxes.push_level.Goals as goal

pub returns-then-not-has_some-clause-ok : goal.returns-then-not-has_some-clause-ok
returns-then-not-has_some-clause-ok c = none_where _ _ _ (λ q b e m. c.has_some.ensures c.if-not-has_some.true q b e m.0)
