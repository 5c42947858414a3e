-- A box that stands at the level stands in a cell beside each box that it meets.
use Rattle.hier_grid.proofs.pair_search.pairs_beside.Goals as goal

pub returns : goal.returns
returns c =
    let beside = c.in_ok-block_pairs.ensures in
    record {
      sound = beside.sound;
      more = beside.more;
      found = λ q b e at m other any. beside.found q b e (c.cells_beside.ensures q b e at m) m other any;
    }
