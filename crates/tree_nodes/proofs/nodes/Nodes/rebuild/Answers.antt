-- What the slab keeps afterwards is a tree of the same leaves.
use Rattle.std.proofs.Common.{◌≡◌, Some, sym, subst}
use Rattle.tree_nodes.specs.declared.node_view.NodeView.TheVariants.{Leaf}
use Rattle.tree_nodes.specs.Stored.{tree_of}
use Rattle.tree_nodes.specs.Tree.{view_in}
use Rattle.tree_nodes.proofs.Heights.{is_tree_in}
use Rattle.tree_nodes.proofs.NodesViews.{all_there}
use Rattle.tree_nodes.proofs.nodes.Nodes.rebuild.Goals as goal

pub returns-clause-tree : goal.returns-clause-tree
returns-clause-tree c =
    let new = c.rebuild_tree-root.new.self in
    let root = c.rebuild_tree-root.result.0 in
    is_tree_in new root (tree_of new root) c.rebuild_tree-root.ensures.sound

pub returns-clause-others : goal.returns-clause-others
returns-clause-others c other s b e =
    let old = tree_of c.self.inside.links c.self.inside.root in
    let new = tree_of c.rebuild_tree-root.new.self c.rebuild_tree-root.result.0 in
    let before = subst (λ t. view_in t other ≡ Some (Leaf s b)) (sym c.self.view_is) e in
    all_there old new other s b (returns-clause-tree c) c.rebuild_tree-root.ensures.leaves before
