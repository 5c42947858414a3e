-- Serves proofs alone: paths down to a leaf, and what is done at their end.
use Rattle.std.specs.Prelude.{◌≡◌, ◌⊎◌, ℕ, ◌+◌, ◌≤◌, Bool, true, false, List, [], ◌∷◌, reverse, length, Some}
use Rattle.std.specs.List.Sorted.{IsPermutation}
use Rattle.slab.specs.Slab.{Slab}
use Rattle.fixed_box.specs.Bounds.{Bounds}
use Rattle.tree_nodes.specs.declared.TheConstants.{MOST_HEIGHT}
use Rattle.tree_nodes.specs.declared.node_view.NodeView.{NodeView}
use Rattle.tree_nodes.specs.declared.node_view.NodeView.TheVariants.{Leaf as LeafNode}
use Rattle.tree_nodes.specs.Tree.{Tree, Leaf, tip, fork, top, height, count_of, one, leaves, view_at, Balanced}
use Rattle.tree_nodes.specs.Rotation.{FitsByte}
use Rattle.tree_nodes.specs.Stored.{StandsAt}

-- a path down to a leaf: at each inner node the child that is next, and nothing at the leaf
abbrev pub Leads : Tree → List ℕ → ℕ → Type 0
Leads (tip n s b) [] node = n ≡ node
Leads (tip n s b) (p ∷ ps) node = ⊥
Leads (fork n h k l r) [] node = ⊥
Leads (fork n h k l r) (p ∷ ps) node = ((top l ≡ p) × Leads l ps node) ⊎ ((top r ≡ p) × Leads r ps node)

-- a tree that is searched
pub record ToSearch (slab : Slab NodeView) (at : ℕ) (t : Tree) : Type 0 where
  pub kept : StandsAt slab at t
  pub balanced : Balanced t
  pub low : height t ≤ MOST_HEIGHT

-- what a search tells; the path has the leaf first
pub record PathFound (node : ℕ) (fat : Bounds) (t : Tree) (found : Bool) (path : List ℕ) : Type 0 where
  pub leads : found ≡ true → Leads t (reverse path) node
  pub missed : found ≡ false → path ≡ []
  pub none : (s : ℕ) → found ≡ false → view_at t node ≡ Some (LeafNode s fat) → ⊥
  pub short : length path ≤ height t

-- a tree with a path down to a leaf that gets another box
pub record ToMove (slab : Slab NodeView) (at node : ℕ) (path : List ℕ) (t : Tree) : Type 0 where
  pub kept : StandsAt slab at t
  pub balanced : Balanced t
  pub low : FitsByte (height t) 2
  pub apart : (k : ℕ) → count_of t k ≤ 1
  pub leads : Leads t path node

-- a tree with a path down to a leaf that goes, and more than this leaf
pub record ToRemove (slab : Slab NodeView) (at node next : ℕ) (rest : List ℕ) (t : Tree) : Type 0 where
  pub kept : StandsAt slab at t
  pub balanced : Balanced t
  pub low : FitsByte (height t) 2
  pub apart : (k : ℕ) → count_of t k ≤ 1
  pub leads : Leads t (next ∷ rest) node

-- the tree with one leaf fewer
pub record Removed (slab : Slab NodeView) (at node freed : ℕ) (t u : Tree) : Type 0 where
  pub leaf : Leaf
  pub is : leaf.node ≡ node
  pub kept : StandsAt slab at u
  pub leaves_are : IsPermutation (leaf ∷ leaves u) (leaves t)
  pub counts_are : (k : ℕ) → count_of t k ≡ count_of u k + (one node k + one freed k)
  pub balanced : Balanced u
  pub least : height u ≤ height t
  pub most : height t ≤ height u + 1
