-- Serves proofs alone: a tree gains a leaf.
use Rattle.std.specs.Prelude.{◌≡◌, ℕ, ◌+◌, ◌≤◌, IsSome, ◌∷◌, Some}
use Rattle.std.specs.List.Sorted.{IsPermutation}
use Rattle.slab.specs.Slab.{Slab, get}
use Rattle.fixed_box.specs.Bounds.{Bounds}
use Rattle.tree_nodes.specs.declared.node_view.NodeView.{NodeView}
use Rattle.tree_nodes.specs.declared.node_view.NodeView.TheVariants.{Leaf as LeafNode}
use Rattle.tree_nodes.specs.Tree.{Tree, top, bounds, height, count_of, one, leaves, Balanced}
use Rattle.tree_nodes.specs.Stored.{StandsAt}
use Rattle.tree_nodes.specs.Rotation.{BalancedNear, FitsByte}

-- a tree that a leaf and a new parent may go into
pub record ToInsert (slab : Slab NodeView) (at leaf new_parent slot : ℕ) (fat : Bounds) (t : Tree) : Type 0 where
  pub kept : StandsAt slab at t
  pub balanced : Balanced t
  pub low : FitsByte (height t) 2
  pub leaf_there : get slab leaf ≡ Some (LeafNode slot fat)
  pub room : IsSome (get slab new_parent)
  pub apart : (k : ℕ) → count_of t k + (one leaf k + one new_parent k) ≤ 1

-- The top of a tree has this number, these bounds and this height.
pub record IsSame (t : Tree) (at : ℕ) (b : Bounds) (k : ℕ) : Type 0 where
  pub top_is : top t ≡ at
  pub bounds_is : bounds t ≡ b
  pub height_is : height t ≡ k

-- The top of a tree has the number, the bounds and the height of that of another.
abbrev pub Alike : Tree → Tree → Type 0
Alike t u = IsSame u (top t) (bounds t) (height t)

-- the tree with one more leaf
pub record Inserted (slab : Slab NodeView) (at leaf new_parent slot : ℕ) (fat : Bounds) (t u : Tree) : Type 0 where
  pub kept : StandsAt slab at u
  pub leaves_are : IsPermutation (record { node = leaf; slot = slot; fat = fat } ∷ leaves t) (leaves u)
  pub counts_are : (k : ℕ) → count_of u k ≡ count_of t k + (one leaf k + one new_parent k)
  pub good : BalancedNear u (height t)
