-- The rows of the walk have all cells that come later.
use Rattle.std.proofs.Common.{true, subst, sym, rules}
use Rattle.grid_cells.specs.Cells.{IsAmong}
use Rattle.hier_grid.specs.Listing.{FindsIn}
use Rattle.hier_grid.specs.WalkFinds.{finds_covered}
use Rattle.hier_grid.proofs.cell_pairs.later_pairs.Goals as goal

pub returns : goal.returns
returns c =
    let walk = c.in_ok-search_later.ensures.ok in
    let boxes = c.args.boxes.now in
    let own = c.args.own.now in
    let all = finds_covered boxes own walk.rows _ _ _ walk.all walk.looked.1.1.1 in
    subst (FindsIn boxes own true (IsAmong c.args.cells.now) c.args.found.now.pairs.items) {x = c.search_later.new.search.found.now.pairs.items}
    (sym (search rules)) all
