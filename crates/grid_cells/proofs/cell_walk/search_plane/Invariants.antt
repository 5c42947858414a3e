-- The rows of smaller y are done.
use Rattle.grid_cells.specs.Cells.{IsInPlane}
use Rattle.grid_cells.specs.Walks.{Covers}
use Rattle.grid_cells.proofs.cell_walk.search_plane.Given as goal

abbrev pub invariant-plane : goal.invariant-plane
invariant-plane g l = Covers g.S.RowSearch.searched (IsInPlane l.from (record l.end { y = l.y })) l.fn.search l.search
