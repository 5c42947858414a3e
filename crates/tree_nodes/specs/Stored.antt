-- How a slab keeps a tree: what ties the nodes of a `Nodes` to the tree that clauses see.
use Rattle.std.specs.Prelude.{◌≡◌, ℕ, zero, suc, ◌+◌, Option, None, Some, IsSome}
use Rattle.slab.specs.Slab.{Slab, get, slab_len}
use Rattle.fixed_box.specs.Bounds.{Bounds}
use Rattle.tree_nodes.specs.declared.node_view.NodeView.{NodeView}
use Rattle.tree_nodes.specs.declared.node_view.NodeView.TheVariants.{Leaf, Inner}
use Rattle.tree_nodes.specs.Tree.{Tree, tip, fork, top, IsTree}

-- each node stands under its number
abbrev pub Holds : Slab NodeView → Tree → Type 0
Holds slab (tip n s b) = get slab n ≡ Some (Leaf s b)
Holds slab (fork n h k l r) = (get slab n ≡ Some (Inner (top l) (top r) h k)) × Holds slab l × Holds slab r

-- an inner node over the trees under its two children, where both are there
abbrev pub inner_of : ℕ → Bounds → ℕ → Option Tree → Option Tree → Option Tree
inner_of key hull height None r = None
inner_of key hull height (Some l) None = None
inner_of key hull height (Some l) (Some r) = Some (fork key hull height l r)

-- what a node under a key stands for, where it is known what stands below
abbrev pub below_node : (ℕ → Option Tree) → ℕ → Option NodeView → Option Tree
below_node below key None = None
below_node below key (Some (Leaf slot fat)) = Some (tip key slot fat)
below_node below key (Some (Inner left right hull height)) = inner_of key hull height (below left) (below right)

-- the tree under a key, where it has at most so many levels
abbrev pub tree_at : ℕ → Slab NodeView → ℕ → Option Tree
tree_at zero slab key = None
tree_at (suc levels) slab key = below_node (λ k. tree_at levels slab k) key (get slab key)

-- heights 0 to 18 are 19 levels
unfoldable pub tree_under : Slab NodeView → ℕ → Option Tree
tree_under slab key = tree_at 19 slab key

-- the tree under a root
abbrev pub tree_of : Slab NodeView → Option ℕ → Option Tree
tree_of slab None = None
tree_of slab (Some key) = tree_under slab key

-- how many nodes there are
abbrev pub size : Tree → ℕ
size (tip n s b) = 1
size (fork n h j l r) = 1 + (size l + size r)

-- the slab holds this tree and nothing else
pub record Sound (slab : Slab NodeView) (t : Tree) : Type 0 where
  pub holds : Holds slab t
  pub counted : slab_len slab ≡ size t
  pub is_tree : IsTree t

-- the same under a root, where there may be no tree
abbrev pub SoundIn : Slab NodeView → Option ℕ → Option Tree → Type 0
SoundIn slab None None = slab_len slab ≡ 0
SoundIn slab None (Some t) = ⊥ × Unit {0}
SoundIn slab (Some key) None = ⊥
SoundIn slab (Some key) (Some t) = (key ≡ top t) × Sound slab t

-- the tree stands in the slab under this number
pub record StandsAt (slab : Slab NodeView) (at : ℕ) (t : Tree) : Type 0 where
  pub holds : Holds slab t
  pub is_at : top t ≡ at

-- no key is freed, and none is taken
pub record KeepsKeys (old new : Slab NodeView) : Type 0 where
  pub here : (k : ℕ) → IsSome (get old k) → IsSome (get new k)
  pub len : slab_len new ≡ slab_len old

-- What is written stands under these keys, given by how often each is one of them. So a tree that has none of them stays.
pub record Writes (old new : Slab NodeView) (keys : ℕ → ℕ) : Type 0 where
  pub others : (k : ℕ) → keys k ≡ 0 → get new k ≡ get old k
  pub kept : KeepsKeys old new
