use Rattle.std.proofs.Common.{◌<◌, ◌^◌, length, List, Option}
use Rattle.fixed_box.specs.Bounds.{Bounds}
use Rattle.tree_nodes.specs.Tree.{Tree}
use Rattle.tree_search.specs.Reading.{IsListed, Reads}
use Rattle.tree_search.proofs.group.read_onwards.Given as goal

abbrev pub invariant-nodes : goal.invariant-nodes
invariant-nodes l = record {
  reads : (bodies : List (Option Bounds)) (t : Tree) → IsListed bodies t l.preorder
      → Reads bodies t l.done l.group l.rest l.fn.found.items l.found.items l.looked l.number;
  fits : l.number < 2 ^ 64;
}

abbrev pub decreases-nodes : goal.decreases-nodes
decreases-nodes l = length l.rest
