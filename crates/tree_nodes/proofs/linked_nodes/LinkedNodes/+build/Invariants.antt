use Rattle.std.proofs.Common.{length}
use Rattle.tree_nodes.proofs.linked_nodes.LinkedNodes.+build.Given as goal

abbrev pub decreases-build : goal.decreases-build
decreases-build l = length l.inner.now
