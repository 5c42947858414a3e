-- Serves proofs alone: where a descent stands that shows boxes to a visitor.
use Rattle.std.specs.Prelude.{◌≡◌, ℕ, ◌+◌, ◌^◌, ◌≤◌, List, [], ◌∷◌, ◌++◌, length, Option, Some}
use Rattle.std.specs.List.Sorted.{IsPermutation}
use Rattle.fixed_box.specs.Bounds.{Bounds}
use Rattle.tree_nodes.specs.declared.node_view.NodeView.{NodeView}
use Rattle.tree_nodes.specs.declared.node_view.NodeView.TheVariants.{Leaf as LeafNode, Inner}
use Rattle.tree_nodes.specs.declared.TheConstants.{MOST_HEIGHT}
use Rattle.tree_nodes.specs.Tree.{Tree, leaves, height, view_of, IsTree, Within}
use Rattle.tree_search.specs.Descent.{all_leaves, views, AreLow, AllWithin}
use Rattle.tree_search.specs.Exact.{exact, IsInside}

-- more than what the two children of a node have together
abbrev pub weight : NodeView → ℕ
weight (LeafNode slot fat) = 1
weight (Inner left right hull k) = 3 ^ k

abbrev pub weights : List NodeView → ℕ
weights [] = 0
weights (x ∷ xs) = weight x + weights xs

-- what was shown, with what stands below the waiting trees, is all, in some order
pub record Shows (o : Option Tree) (bodies : List (Option Bounds)) (before now : List (ℕ × Bounds) → Type 0) (stack : List NodeView) : Type 0 where
  pub t : Tree
  pub us : List Tree
  pub is : o ≡ Some t
  pub is_tree : IsTree t
  pub inside : IsInside bodies t
  pub stack_is : stack ≡ views us
  pub low : AreLow us
  pub within : AllWithin t us
  pub shown : List (ℕ × Bounds)
  pub all : IsPermutation (shown ++ exact bodies (all_leaves us)) (exact bodies (leaves t))
  pub saw : (seen : List (ℕ × Bounds)) → before seen → now (seen ++ shown)

-- and where its next tree is taken from the stack
pub record NextShown (o : Option Tree) (bodies : List (Option Bounds)) (before now : List (ℕ × Bounds) → Type 0) (rest : List NodeView) (node : NodeView)
    : Type 0 where
  pub t : Tree
  pub u : Tree
  pub us : List Tree
  pub is : o ≡ Some t
  pub is_tree : IsTree t
  pub inside : IsInside bodies t
  pub node_is : node ≡ view_of u
  pub rest_is : rest ≡ views us
  pub low_here : height u + length us ≤ MOST_HEIGHT
  pub low : AreLow us
  pub here : Within t u
  pub within : AllWithin t us
  pub shown : List (ℕ × Bounds)
  pub all : IsPermutation (shown ++ exact bodies (leaves u ++ all_leaves us)) (exact bodies (leaves t))
  pub saw : (seen : List (ℕ × Bounds)) → before seen → now (seen ++ shown)
