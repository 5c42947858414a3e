-- The rows of the walk have all cells of the block.
use Rattle.std.proofs.Common.{true, subst, sym, rules}
use Rattle.grid_cells.specs.Cells.{IsInBlock}
use Rattle.hier_grid.specs.Listing.{FindsIn}
use Rattle.hier_grid.specs.WalkFinds.{finds_covered}
use Rattle.hier_grid.proofs.cell_pairs.block_pairs.Goals as goal

pub returns : goal.returns
returns c =
    let walk = c.in_ok-search_block.ensures.ok in
    let boxes = c.args.boxes.now in
    let own = c.args.own.now in
    let all = finds_covered boxes own walk.rows _ _ _ walk.all walk.looked.1.1.1 in
    subst (FindsIn boxes own true (IsInBlock c.args.block.now) c.args.found.now.pairs.items) {x = c.search_block.new.search.found.now.pairs.items}
    (sym (search rules)) all
