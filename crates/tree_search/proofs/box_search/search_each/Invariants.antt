use Rattle.std.proofs.Common.{◌≡◌, ◌<◌, ◌^◌, ◌++◌, length}
use Rattle.tree_search.specs.Looked.{raised}
use Rattle.tree_search.specs.Exact.{exact_in}
use Rattle.tree_search.specs.Crossed.{crossed, all_visits_in}
use Rattle.tree_search.proofs.box_search.search_each.Given as goal

abbrev pub invariant-touched : goal.invariant-touched
invariant-touched l = record {
  found : l.found.pairs.items ++ crossed (exact_in l.boxes.bodies l.boxes.tree) l.rest ≡ l.fn.found.pairs.items ++ crossed
      (exact_in l.boxes.bodies l.boxes.tree) l.touched;
  count : raised l.number (all_visits_in l.boxes.tree l.rest) ≡ raised l.fn.looked (all_visits_in l.boxes.tree l.touched);
  fits : l.number < 2 ^ 64;
}

abbrev pub decreases-touched : goal.decreases-touched
decreases-touched l = length l.rest
