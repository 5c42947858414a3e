-- A path that leads nowhere is searched afresh.
use Rattle.std.proofs.Common.{ap, ◌∙◌, sym, subst, refl, Some, IsSome, reverse}
use Rattle.tree_nodes.proofs.Paths.{path_found}
use Rattle.tree_nodes.proofs.Views.{viewed_in_slab}
use Rattle.tree_nodes.specs.declared.node_view.NodeView.TheVariants.{Leaf as LeafNode}
use Rattle.tree_nodes.proofs.linked_nodes.LinkedNodes.path_to.Goals as goal

pub view-requires : goal.view-requires
view-requires c = let q = c.requires.tree in subst IsSome (sym (viewed_in_slab c.args.self.now q.0 c.args.node (LeafNode q.2 q.3) q.1.kept.holds q.4)) refl

pub returns-in-Leaf : goal.returns-in-Leaf
returns-in-Leaf c t s b w e =
    let g = viewed_in_slab c.args.self.now t c.args.node (LeafNode s b) w.kept.holds e in
    let h = c.view.ensures ∙ ap Some c.in-Leaf.is in
    path_found c.args.self.now c.args.node s c.in-Leaf.slot b c.in-Leaf.fat t c.find_path.result c.find_path.new.path.items c.reverse.new.self g h e
    (c.find_path.ensures.sought t w) (c.reverse.ensures.after ∙ ap reverse c.as_mut_slice.ensures.value)

pub returns-in_default : goal.returns-in_default
returns-in_default c t s b w e =
    let g = viewed_in_slab c.args.self.now t c.args.node (LeafNode s b) w.kept.holds e in
    absurd (c.in_default.not-Leaf s b (let h = c.view.ensures in cc))
