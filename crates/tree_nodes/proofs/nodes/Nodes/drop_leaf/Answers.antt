-- What the slab keeps afterwards is a tree, and what showed as another leaf is one of its leaves still.
use Rattle.std.proofs.Common.{◌≡◌, Some, sym, subst}
use Rattle.tree_nodes.specs.declared.node_view.NodeView.TheVariants.{Leaf}
use Rattle.tree_nodes.specs.Stored.{tree_of}
use Rattle.tree_nodes.specs.Tree.{view_in}
use Rattle.tree_nodes.proofs.Heights.{is_tree_in}
use Rattle.tree_nodes.proofs.NodesViews.{left_there}
use Rattle.tree_nodes.proofs.nodes.Nodes.drop_leaf.Goals as goal

pub returns-clause-tree : goal.returns-clause-tree
returns-clause-tree c =
    let new = c.remove_leaf-self-inside.new.self in
    let root = c.remove_leaf-self-inside.result in
    is_tree_in new root (tree_of new root) c.remove_leaf-self-inside.ensures.sound

pub returns-clause-others : goal.returns-clause-others
returns-clause-others c other s b e differ =
    let old = tree_of c.self.inside.links c.self.inside.root in
    let new = tree_of c.remove_leaf-self-inside.new.self c.remove_leaf-self-inside.result in
    let gone = c.requires in
    let before = subst (λ t. view_in t other ≡ Some (Leaf s b)) (sym c.self.view_is) e in
    let it = subst (λ t. view_in t c.args.node ≡ Some (Leaf gone.0 gone.1)) (sym c.self.view_is) gone.2 in
    left_there old new (record { node = c.args.node; slot = gone.0; fat = gone.1 }) other s b
    (returns-clause-tree c) (c.remove_leaf-self-inside.ensures.leaves gone.0 gone.1 it) before differ
