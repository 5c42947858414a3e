-- The slab keeps what the tree shows.
use Rattle.std.proofs.Common.{◌≡◌, IsSome, Some, ℕ, Option, sym, subst, ap, ◌∙◌, refl}
use Rattle.slab.specs.Slab.{Slab, get}
use Rattle.tree_nodes.specs.declared.node_view.NodeView.{NodeView}
use Rattle.tree_nodes.specs.Shown.{shown}
use Rattle.tree_nodes.specs.Stored.{SoundIn}
use Rattle.tree_nodes.specs.Tree.{Tree, view_in}
use Rattle.tree_nodes.proofs.Heights.{seen_tree}
use Rattle.tree_nodes.proofs.NodesViews.{children_shown}
use Rattle.tree_nodes.proofs.Views.{some_is, sound_viewed}
use Rattle.tree_nodes.proofs.nodes.Nodes.node.Goals as goal

found : (slab : Slab NodeView) (root : Option ℕ) (t u : Option Tree) (k : ℕ) → SoundIn slab root t → t ≡ u → IsSome (view_in u k)
    → (v : NodeView) × (get slab k ≡ Some v) × (view_in u k ≡ Some v)
found slab root t u k h e some =
    let p = some_is (view_in u k) some in
    (p.0, sound_viewed slab root t k p.0 h (ap (λ t. view_in t k) e ∙ p.1), p.1)

pub node-requires : goal.node-requires
node-requires c =
    let p = found c.self.inside.links c.self.inside.root _ c.args.self.now c.args.node c.self.invariant.1 c.self.view_is c.requires in
    subst IsSome (sym p.1) refl

pub returns-clause-value : goal.returns-clause-value
returns-clause-value c =
    let p = found c.self.inside.links c.self.inside.root _ c.args.self.now c.args.node c.self.invariant.1 c.self.view_is c.requires in
    cc

pub returns-clause-tree : goal.returns-clause-tree
returns-clause-tree c = seen_tree c.self.inside.links c.self.inside.root _ _ c.self.invariant.1 c.self.view_is

pub returns-clause-children : goal.returns-clause-children
returns-clause-children c = children_shown c.args.self.now c.args.node (shown c.node.result.now) (returns-clause-value c)
