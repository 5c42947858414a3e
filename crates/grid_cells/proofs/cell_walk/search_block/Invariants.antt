-- The cells of smaller x are done.
use Rattle.grid_cells.specs.Cells.{IsInBlock}
use Rattle.grid_cells.specs.Walks.{Covers}
use Rattle.grid_cells.proofs.cell_walk.search_block.Given as goal

abbrev pub invariant-block : goal.invariant-block
invariant-block g l = Covers g.S.RowSearch.searched (IsInBlock (record l.block { end = record l.block.end { x = l.x } })) l.fn.search l.search
