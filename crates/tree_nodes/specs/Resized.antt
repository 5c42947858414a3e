-- Serves proofs alone: a node gets other bounds, and the nodes above it are refitted.
use Rattle.std.specs.Prelude.{◌≡◌, ◌≢◌, ◌⊎◌, ℕ, ◌==◌, if◌then◌else◌, option_map}
use Rattle.slab.specs.Slab.{Slab, get}
use Rattle.fixed_box.specs.Bounds.{Bounds, hull as union}
use Rattle.tree_nodes.specs.declared.node_view.NodeView.{NodeView}
use Rattle.tree_nodes.specs.declared.node_view.NodeView.TheVariants.{Leaf as LeafNode, Inner}
use Rattle.tree_nodes.specs.Moved.{refitted}
use Rattle.tree_nodes.specs.Tree.{Tree, tip, fork, top, bounds, Within}

-- what a node shows, with other bounds
abbrev pub with_bounds : Bounds → NodeView → NodeView
with_bounds b (LeafNode slot fat) = LeafNode slot b
with_bounds b (Inner left right hull height) = Inner left right b height

-- the node with the number has these bounds, and each node above it is refitted
abbrev pub resized : ℕ → Bounds → Tree → Tree
resized key b (tip n s c) = tip n s (if n == key then b else c)
resized key b (fork n h k l r) = if n == key then fork n b k l r else refitted n (resized key b l) (resized key b r)

-- In the tree the parent stands over a node, and has a hull. Where the node gets the bounds, the parent gets another.
pub record Raises (t : Tree) (at parent : ℕ) (b hull raised : Bounds) : Type 0 where
  pub height : ℕ
  pub left : Tree
  pub right : Tree
  pub inside : Within t (fork parent hull height left right)
  pub child : ((top left ≡ at) × (raised ≡ union b (bounds right))) ⊎ ((top right ≡ at) × (raised ≡ union (bounds left) b))

-- one node has other bounds, and the other nodes stay
pub record Rebounded (old new : Slab NodeView) (at : ℕ) (b : Bounds) : Type 0 where
  pub there : get new at ≡ option_map (with_bounds b) (get old at)
  pub others : (k : ℕ) → k ≢ at → get new k ≡ get old k
