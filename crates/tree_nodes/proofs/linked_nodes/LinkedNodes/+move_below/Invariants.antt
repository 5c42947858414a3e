use Rattle.std.proofs.Common.{length}
use Rattle.tree_nodes.proofs.linked_nodes.LinkedNodes.+move_below.Given as goal

abbrev pub decreases-move_below : goal.decreases-move_below
decreases-move_below l = length l.path.now
