-- What the slab keeps afterwards is a tree, and what showed as a leaf is one of its leaves still.
use Rattle.std.proofs.Common.{◌≡◌, ℕ, Option, Some, sym, subst}
use Rattle.tree_nodes.specs.declared.node_view.NodeView.TheVariants.{Leaf}
use Rattle.tree_nodes.specs.Stored.{tree_of}
use Rattle.tree_nodes.specs.Tree.{view_in}
use Rattle.tree_nodes.proofs.Heights.{is_tree_in}
use Rattle.tree_nodes.proofs.NodesViews.{added, still_there}
use Rattle.tree_nodes.proofs.nodes.Nodes.add_leaf.Goals as goal

pub returns-clause-tree : goal.returns-clause-tree
returns-clause-tree c =
    let new = c.insert_leaf-leaf.new.self in
    let root : Option ℕ = Some c.insert_leaf-leaf.result.1 in
    is_tree_in new root (tree_of new root) c.insert_leaf-leaf.ensures.sound

pub returns-clause-leaf : goal.returns-clause-leaf
returns-clause-leaf c =
    let old = tree_of c.self.inside.links c.self.inside.root in
    let new = tree_of c.insert_leaf-leaf.new.self (Some c.insert_leaf-leaf.result.1) in
    added old new (record { node = c.insert_leaf-leaf.result.0; slot = c.args.slot; fat = c.args.fat })
    (returns-clause-tree c) c.insert_leaf-leaf.ensures.leaves

pub returns-clause-others : goal.returns-clause-others
returns-clause-others c other s b e =
    let old = tree_of c.self.inside.links c.self.inside.root in
    let new = tree_of c.insert_leaf-leaf.new.self (Some c.insert_leaf-leaf.result.1) in
    let before = subst (λ t. view_in t other ≡ Some (Leaf s b)) (sym c.self.view_is) e in
    still_there old new (record { node = c.insert_leaf-leaf.result.0; slot = c.args.slot; fat = c.args.fat }) other s b
    (returns-clause-tree c) c.insert_leaf-leaf.ensures.leaves before
