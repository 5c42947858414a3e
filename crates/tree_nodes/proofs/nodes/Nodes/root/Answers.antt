-- The invariant says what stands under the root.
use Rattle.tree_nodes.proofs.Heights.{seen_tree, no_root}
use Rattle.tree_nodes.proofs.nodes.Nodes.root.Goals as goal

pub returns-clause-none : goal.returns-clause-none
returns-clause-none c = no_root c.self.inside.links c.self.inside.root _ _ c.self.invariant.1 c.self.view_is

pub returns-clause-tree : goal.returns-clause-tree
returns-clause-tree c = seen_tree c.self.inside.links c.self.inside.root _ _ c.self.invariant.1 c.self.view_is
