-- What the slab keeps afterwards is the tree with the box moved.
use Rattle.std.proofs.Common.{ap, ◌∙◌, option_map}
use Rattle.tree_nodes.specs.Moved.{with_fat}
use Rattle.tree_nodes.specs.Stored.{tree_of}
use Rattle.tree_nodes.proofs.Heights.{is_tree_in}
use Rattle.tree_nodes.proofs.LeafMoves.{moved_in}
use Rattle.tree_nodes.proofs.NodesViews.{moved_there, unmoved_there}
use Rattle.tree_nodes.proofs.nodes.Nodes.move_leaf.Goals as goal

pub returns-clause-leaves : goal.returns-clause-leaves
returns-clause-leaves c =
    (moved_in c.self.inside.links c.self.inside.root (tree_of c.self.inside.links c.self.inside.root) c.args.self.now
    (tree_of c.move_in_place.new.self c.self.inside.root) c.args.node c.args.fat c.self.invariant.1 c.self.view_is
    (c.move_in_place.ensures.moved ∙ ap (option_map (with_fat c.args.node c.args.fat)) c.self.view_is)).0

pub returns-clause-height : goal.returns-clause-height
returns-clause-height c =
    (moved_in c.self.inside.links c.self.inside.root (tree_of c.self.inside.links c.self.inside.root) c.args.self.now
    (tree_of c.move_in_place.new.self c.self.inside.root) c.args.node c.args.fat c.self.invariant.1 c.self.view_is
    (c.move_in_place.ensures.moved ∙ ap (option_map (with_fat c.args.node c.args.fat)) c.self.view_is)).1

pub returns-clause-tree : goal.returns-clause-tree
returns-clause-tree c =
    let new = c.move_in_place.new.self in
    let root = c.self.inside.root in
    is_tree_in new root (tree_of new root) c.move_in_place.ensures.sound

pub returns-clause-leaf : goal.returns-clause-leaf
returns-clause-leaf c slot old e =
    let new = tree_of c.move_in_place.new.self c.self.inside.root in
    moved_there c.args.self.now new c.args.node slot c.args.fat old (returns-clause-tree c) (returns-clause-leaves c) e

pub returns-clause-others : goal.returns-clause-others
returns-clause-others c other s b e differ =
    let new = tree_of c.move_in_place.new.self c.self.inside.root in
    unmoved_there c.args.self.now new c.args.node other s c.args.fat b (returns-clause-tree c) (returns-clause-leaves c) e differ
