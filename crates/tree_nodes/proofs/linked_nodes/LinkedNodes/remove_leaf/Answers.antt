-- The path to the leaf leads down the tree that the slab keeps.
use Rattle.std.proofs.Common.{◌≡◌, ◌∷◌, ap, ◌∙◌, sym, subst, Some}
use Rattle.std.specs.List.Sorted.{IsPermutation}
use Rattle.tree_nodes.specs.declared.node_view.NodeView.TheVariants.{Leaf as LeafNode}
use Rattle.tree_nodes.specs.Stored.{SoundIn, tree_of}
use Rattle.tree_nodes.specs.Tree.{leaves_in, view_at, view_in}
use Rattle.tree_nodes.proofs.Heights.{under_root}
use Rattle.tree_nodes.proofs.LeafViews.{ready_to_search, shows, same_leaf}
use Rattle.tree_nodes.proofs.linked_nodes.LinkedNodes.remove_leaf.Goals as goal

pub path_to-requires-clause-tree : goal.path_to-requires-clause-tree
path_to-requires-clause-tree c =
    let u = under_root c.args.self.now c.in-Some.at _ (subst (λ r. SoundIn c.args.self.now r (tree_of c.args.self.now r)) c.in-Some.is c.requires.sound) in
    let is = ap (tree_of c.args.self.now) c.in-Some.is ∙ u.1 in
    let s = shows _ u.0 c.args.node is c.requires.leaf in
    (u.0, ready_to_search c.args.self.now c.in-Some.at u.0 u.2 u.3 u.4, s.0, s.1, s.2)

pub remove_at-requires : goal.remove_at-requires
remove_at-requires c =
    let u = under_root c.args.self.now c.in-Some.at _ (subst (λ r. SoundIn c.args.self.now r (tree_of c.args.self.now r)) c.in-Some.is c.requires.sound) in
    let is = ap (tree_of c.args.self.now) c.in-Some.is ∙ u.1 in
    let s = shows _ u.0 c.args.node is c.requires.leaf in
    (u.0, u.2, u.3, rw c.as_slice.ensures (c.path_to.ensures u.0 s.0 s.1 (ready_to_search c.args.self.now c.in-Some.at u.0 u.2 u.3 u.4) s.2))

pub returns-clause-leaves : goal.returns-clause-leaves
returns-clause-leaves c s b e =
    let u = under_root c.args.self.now c.in-Some.at _ (subst (λ r. SoundIn c.args.self.now r (tree_of c.args.self.now r)) c.in-Some.is c.requires.sound) in
    let is = ap (tree_of c.args.self.now) c.in-Some.is ∙ u.1 in
    let e2 : view_at u.0 c.args.node ≡ Some (LeafNode s b) = subst (λ x. view_in x c.args.node ≡ Some (LeafNode s b)) is e in
    let way = c.path_to.ensures u.0 s b (ready_to_search c.args.self.now c.in-Some.at u.0 u.2 u.3 u.4) e2 in
    let p = c.remove_at.ensures.leaves u.0 u.2 u.3 (rw c.as_slice.ensures way) in
    subst (λ t. IsPermutation (record { node = c.args.node; slot = s; fat = b } ∷ leaves_in (tree_of c.remove_at.new.self c.remove_at.result))
    (leaves_in t)) (sym is)
    (same_leaf u.0 p.0 (leaves_in (tree_of c.remove_at.new.self c.remove_at.result)) c.args.node s b u.3.is_tree.apart p.1 p.2 e2)
