-- The invariant says what stands under the root.
use Rattle.std.proofs.Common.{sym, subst, arith}
use Rattle.tree_nodes.specs.Stored.{SoundIn, tree_of}
use Rattle.tree_nodes.proofs.Heights.{under_root, seen_tree}
use Rattle.tree_nodes.proofs.nodes.Nodes.height.Goals as goal

pub returns-in-Some-clause-most : goal.returns-in-Some-clause-most
returns-in-Some-clause-most c =
    let u = under_root c.self.inside.links c.in-Some.at _ (subst (λ r. SoundIn c.self.inside.links r (tree_of c.self.inside.links r)) c.in-Some.is
    c.self.invariant.1) in
    let e = c.height_at.ensures u.0 u.3.holds (sym u.2) in
    omega arith

pub returns-in-Some-clause-tree : goal.returns-in-Some-clause-tree
returns-in-Some-clause-tree c = seen_tree c.self.inside.links c.self.inside.root _ _ c.self.invariant.1 c.self.view_is
