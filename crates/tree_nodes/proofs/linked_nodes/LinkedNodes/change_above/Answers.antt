-- The noted parent is a key of the slab, so it stands in the tree, and the noted sibling is its other child.
use Rattle.std.proofs.Common.{◌≡◌, ◌⊎◌, inl, inr, ℕ, ap, ◌∙◌, sym, subst, Some, option_map}
use Rattle.slab.specs.Slab.{Slab, get}
use Rattle.fixed_box.specs.Bounds.{Bounds, hull as union}
use Rattle.tree_nodes.specs.declared.node_view.NodeView.{NodeView}
use Rattle.tree_nodes.specs.declared.node_view.NodeView.TheVariants.{Inner}
use Rattle.tree_nodes.specs.Resized.{Raises}
use Rattle.tree_nodes.specs.Shown.{shown, shown_as}
use Rattle.tree_nodes.specs.Stored.{Sound, Holds}
use Rattle.tree_nodes.specs.Tree.{Tree, bounds, top}
use Rattle.tree_nodes.proofs.BoxEquality.{either_way}
use Rattle.tree_nodes.proofs.OccupiedKeys.{inner_standing, raises_left, raises_right}
use Rattle.tree_nodes.proofs.linked_nodes.LinkedNodes.change_above.Goals.{In-Inner, After-union-raised}
use Rattle.tree_nodes.proofs.linked_nodes.LinkedNodes.change_above.Goals as goal

-- what stands under the noted parent
noted : (c : In-Inner) → get c.args.self.now c.parent-parent.result
    ≡ Some (Inner c.in-Inner.left c.in-Inner.right c.in-Some-get.node.now.bounds c.in-Inner.height)
noted c = sym c.get.ensures ∙ ap (option_map (λ n. shown n.now)) c.in-Some-get.is ∙ ap (λ r. Some (shown_as c.in-Some-get.node.now.bounds r)) c.in-Inner.is

-- two nodes are the children, in either order
abbrev AreChildren : ℕ → ℕ → ℕ → ℕ → Type 0
AreChildren left right at sibling = ((left ≡ at) × (right ≡ sibling)) ⊎ ((right ≡ at) × (left ≡ sibling))

-- so the sibling is one
standing : (slab : Slab NodeView) (t : Tree) (parent left right k at sibling : ℕ) (hu : Bounds) → Sound slab t
    → get slab parent ≡ Some (Inner left right hu k) → AreChildren left right at sibling → (u : Tree) × Holds slab u × (top u ≡ sibling)
standing slab t parent left right k at sibling hu s e (inl o) = let i = inner_standing slab t parent left right k hu s e in (i.1, i.4.0, i.4.1 ∙ o.1)
standing slab t parent left right k at sibling hu s e (inr o) = let i = inner_standing slab t parent left right k hu s e in (i.0, i.3.0, i.3.1 ∙ o.1)

-- and the union with it is the hull that the parent gets
raises : (slab : Slab NodeView) (t : Tree) (parent left right k at sibling : ℕ) (hu b other raised : Bounds) → Sound slab t
    → get slab parent ≡ Some (Inner left right hu k) → AreChildren left right at sibling
    → ((u : Tree) → Holds slab u → top u ≡ sibling → other ≡ bounds u) → raised ≡ union b other → Raises t at parent b hu raised
raises slab t parent left right k at sibling hu b other raised s e (inl o) shown is =
    subst (λ x. Raises t x parent b hu raised) o.0
    (raises_left slab t parent left right k hu b other raised s e (λ u h z. shown u h (z ∙ o.1)) is)
raises slab t parent left right k at sibling hu b other raised s e (inr o) shown is =
    subst (λ x. Raises t x parent b hu raised) o.0
    (raises_right slab t parent left right k hu b other raised s e (λ u h z. shown u h (z ∙ o.1)) (is ∙ either_way b other))

pub bounds_at-requires : goal.bounds_at-requires
bounds_at-requires c =
    standing c.args.self.now c.requires.0 c.parent-parent.result c.in-Inner.left c.in-Inner.right c.in-Inner.height c.args.at
    c.sibling-sibling.result c.in-Some-get.node.now.bounds c.requires.1 (noted (goal.at.bounds_at-requires c).In-Inner)
    (c.are_children.ensures c.if-are_children.true)

above : (c : After-union-raised) (t : Tree) → Sound c.args.self.now t
    → get c.args.self.now c.parent-parent.result
    ≡ Some (Inner c.in-Inner.left c.in-Inner.right c.in-Some-get.node.now.bounds c.in-Inner.height)
    → Raises t c.args.at c.parent-parent.result c.args.bounds.now c.in-Some-get.node.now.bounds c.union-raised.result
above c t s e =
    raises c.args.self.now t c.parent-parent.result c.in-Inner.left c.in-Inner.right c.in-Inner.height c.args.at
    c.sibling-sibling.result c.in-Some-get.node.now.bounds c.args.bounds.now c.bounds_at.result c.union-raised.result s e
    (c.are_children.ensures c.if-are_children.true) c.bounds_at.ensures c.union-raised.ensures.corners

-- The parent and the hull that are answered are these.
pub returns-then-are_children-clause-changes : goal.returns-then-are_children-clause-changes
returns-then-are_children-clause-changes c t p h s is =
    let at = goal.at.returns-then-are_children-clause-changes c in
    let same = c.change_of.ensures.changes p h is in
    let here = above at.After-union-raised t s (noted at.In-Inner) in
    let b = c.args.bounds.now in (
      c.in-Some-get.node.now.bounds,
      subst (λ x. Raises t c.args.at x b c.in-Some-get.node.now.bounds h) (sym same.0)
          (subst (λ x. Raises t c.args.at c.parent-parent.result b c.in-Some-get.node.now.bounds x) (sym same.1) here),
    )

-- The hull stays.
pub returns-then-are_children-clause-stays : goal.returns-then-are_children-clause-stays
returns-then-are_children-clause-stays c t s is =
    let at = goal.at.returns-then-are_children-clause-stays c in (
      c.parent-parent.result,
      c.in-Some-get.node.now.bounds,
      subst (λ x. Raises t c.args.at c.parent-parent.result c.args.bounds.now c.in-Some-get.node.now.bounds x) (c.change_of.ensures.stays is)
          (above at.After-union-raised t s (noted at.In-Inner)),
    )
