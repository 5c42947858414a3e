use Rattle.std.proofs.Common.{length}
use Rattle.tree_nodes.proofs.linked_nodes.LinkedNodes.+leads_to.Given as goal

abbrev pub decreases-leads_to : goal.decreases-leads_to
decreases-leads_to l = length l.path.now
