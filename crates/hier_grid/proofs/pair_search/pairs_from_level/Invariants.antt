-- The levels below this one are done.
use Rattle.std.proofs.Common.{◌<◌, ◌≤◌, true}
use Rattle.fixed_box.specs.Bounds.{level_of}
use Rattle.hier_grid.specs.Search.{Finds}
use Rattle.hier_grid.proofs.pair_search.pairs_from_level.Given as goal

abbrev pub invariant-levels : goal.invariant-levels
invariant-levels l = record {
  low : l.first ≤ l.level;
  finds : Finds l.boxes.bodies l.own true (λ _ b. (l.first ≤ level_of b) × (level_of b < l.level)) l.fn.found.pairs.items l.found.pairs.items;
}
