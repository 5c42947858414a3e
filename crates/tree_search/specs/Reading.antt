-- Serves proofs alone: searches that read a list in preorder onwards.
use Rattle.std.specs.Prelude.{◌≡◌, ℕ, ◌+◌, Bool, List, [], ◌∷◌, ◌++◌, Option}
use Rattle.fixed_box.specs.Bounds.{Bounds}
use Rattle.broad_index.specs.declared.pair.Pair.{Pair}
use Rattle.tree_nodes.specs.Tree.{Tree, leaves, Balanced}
use Rattle.tree_search.specs.declared.preorder.ListedNode.{ListedNode}
use Rattle.tree_search.specs.Looked.{raised}
use Rattle.tree_search.specs.Exact.{exact, IsInside}
use Rattle.tree_search.specs.Crossed.{crossed}
use Rattle.tree_search.specs.Preorder.{preorder}
use Rattle.tree_search.specs.Descent.{all_leaves}
use Rattle.tree_search.specs.Group.{undone, all_below}

-- the list is that of a tree whose hulls and fat boxes enclose what stands below them
pub record IsListed (bodies : List (Option Bounds)) (t : Tree) (list : List ListedNode) : Type 0 where
  pub list_is : list ≡ preorder bodies t
  pub balanced : Balanced t
  pub inside : IsInside bodies t

-- trees that are still to be read, one behind another
abbrev pub all_preorder : List (Option Bounds) → List Tree → List ListedNode
all_preorder bodies [] = []
all_preorder bodies (u ∷ us) = preorder bodies u ++ all_preorder bodies us

abbrev pub AllSound : List (Option Bounds) → List Tree → Type 0
AllSound bodies [] = Unit {0}
AllSound bodies (u ∷ us) = (Balanced u × IsInside bodies u) × AllSound bodies us

-- how many nodes below their tops some look at
abbrev pub below_each : List Tree → List (ℕ × Bounds) → ℕ
below_each [] es = 0
below_each (u ∷ us) es = all_below u es + below_each us es

-- where a search stands that reads on: what it has found, with what it will find in the trees to come, is what is found of all
pub record Reads (bodies : List (Option Bounds)) (t : Tree) (done : List Bool) (group : List (ℕ × Bounds)) (rest : List ListedNode)
    (before now : List Pair) (looked number : ℕ) : Type 0 where
  pub us : List Tree
  pub rest_is : rest ≡ all_preorder bodies us
  pub sound : AllSound bodies us
  pub found_is : now ++ crossed group (undone done (exact bodies (all_leaves us))) ≡ before ++ crossed group (undone done (exact bodies (leaves t)))
  pub count_is : raised number (below_each us group) ≡ raised looked (all_below t group)
