use Rattle.std.proofs.Common.{◌≡◌, ◌-◌, length}
use Rattle.tree_nodes.specs.declared.path.TheConstants.{PATH_ROOM}
use Rattle.tree_nodes.proofs.linked_nodes.LinkedNodes.follow_parents.Given as goal

abbrev pub invariant-follow_parents : goal.invariant-follow_parents
invariant-follow_parents l = l.path.capacity ≡ PATH_ROOM

abbrev pub decreases-follow_parents : goal.decreases-follow_parents
decreases-follow_parents l = PATH_ROOM - length l.path.items
