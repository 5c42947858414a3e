use Rattle.std.proofs.Common.{length}
use Rattle.tree_nodes.proofs.linked_nodes.LinkedNodes.+remove_below.Given as goal

abbrev pub decreases-remove_below : goal.decreases-remove_below
decreases-remove_below l = length l.path.now
