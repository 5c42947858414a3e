use Rattle.tree_nodes.specs.Parts.{height_shown}
use Rattle.tree_nodes.specs.Tree.{view_in}
use Rattle.tree_search.proofs.preorder.+push_preorder.Given as goal

abbrev pub decreases-push_preorder : goal.decreases-push_preorder
decreases-push_preorder l = height_shown (view_in l.nodes.now l.at)
