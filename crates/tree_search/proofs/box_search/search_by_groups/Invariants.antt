use Rattle.std.proofs.Common.{◌≡◌, ◌<◌, ◌^◌, length, ◌||◌, true}
use Rattle.broad_index.specs.declared.pair.Pair.{Pair}
use Rattle.broad_index.specs.Members.{has_pair}
use Rattle.tree_search.specs.Looked.{raised}
use Rattle.tree_search.specs.Exact.{exact_in}
use Rattle.tree_search.specs.Crossed.{crossed, all_visits_in, touched_of, AreOf}
use Rattle.tree_search.proofs.box_search.search_by_groups.Given as goal

abbrev pub invariant-groups : goal.invariant-groups
invariant-groups l = record {
  found : (p : Pair) → (has_pair l.found.pairs.items p || has_pair (crossed (exact_in l.boxes.bodies l.boxes.tree) l.rest) p)
      ≡ (has_pair l.fn.found.pairs.items p || has_pair (crossed (exact_in l.boxes.bodies l.boxes.tree) l.touched) p);
  -- the pairs of slots that are done were found
  older : (p : Pair) → has_pair (crossed (exact_in l.boxes.bodies l.boxes.tree) (touched_of l.done (exact_in l.boxes.bodies l.boxes.tree))) p ≡ true
      → has_pair l.found.pairs.items p ≡ true;
  own : AreOf l.boxes.bodies l.rest;
  count : raised l.number (all_visits_in l.boxes.tree l.rest) ≡ raised l.fn.looked (all_visits_in l.boxes.tree l.touched);
  fits : l.number < 2 ^ 64;
}

abbrev pub decreases-groups : goal.decreases-groups
decreases-groups l = length l.rest
