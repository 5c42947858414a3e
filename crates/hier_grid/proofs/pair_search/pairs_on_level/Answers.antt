-- A box of the level stands there, since the level isn't below the floor.
use Rattle.std.proofs.Common.{arith}
use Rattle.hier_grid.proofs.pair_search.pairs_on_level.Goals as goal

pub returns-in_ok-pairs_beside : goal.returns-in_ok-pairs_beside
returns-in_ok-pairs_beside c =
    let beside = c.in_ok-pairs_beside.ensures in
    record {
      sound = beside.sound;
      more = beside.more;
      found = λ q b e at m other any. beside.found q b e (omega (arith, at, c.requires.high)) m other any;
    }
