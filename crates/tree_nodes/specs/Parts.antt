-- Serves proofs alone: the two trees below a node, and a tree with the same leaves.
use Rattle.std.specs.Prelude.{◌≡◌, ℕ, ◌+◌, ◌≤◌, max, ◌++◌, Option, None, Some}
use Rattle.std.specs.List.Sorted.{IsPermutation}
use Rattle.slab.specs.Slab.{Slab}
use Rattle.tree_nodes.specs.declared.node_view.NodeView.{NodeView}
use Rattle.tree_nodes.specs.declared.node_view.NodeView.TheVariants.{Leaf as LeafNode, Inner}
use Rattle.tree_nodes.specs.Tree.{Tree, height, leaves, count_of, one, Balanced}
use Rattle.tree_nodes.specs.Stored.{StandsAt}

-- the height that a node shows
abbrev pub height_shown : Option NodeView → ℕ
height_shown None = 0
height_shown (Some (LeafNode slot fat)) = 0
height_shown (Some (Inner left right hull height)) = height

-- the two trees below an inner node, in one order or the other
pub record Opened (slab : Slab NodeView) (at down stay : ℕ) (t d s : Tree) : Type 0 where
  pub down_kept : StandsAt slab down d
  pub stay_kept : StandsAt slab stay s
  pub counts_are : (k : ℕ) → count_of t k ≡ one at k + (count_of d k + count_of s k)
  pub leaves_are : IsPermutation (leaves d ++ leaves s) (leaves t)
  pub down_balanced : Balanced d
  pub stay_balanced : Balanced s
  pub height_is : height t ≡ 1 + max (height d) (height s)
  pub down_low : height d ≤ height s + 1
  pub stay_low : height s ≤ height d + 1

-- the same leaves and numbers at the same height
pub record SameLeaves (slab : Slab NodeView) (at : ℕ) (t u : Tree) : Type 0 where
  pub kept : StandsAt slab at u
  pub balanced : Balanced u
  pub height_is : height u ≡ height t
  pub counts_are : (k : ℕ) → count_of u k ≡ count_of t k
  pub leaves_are : IsPermutation (leaves t) (leaves u)
