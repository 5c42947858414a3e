-- Serves proofs alone: searches for the pairs of a group of boxes at once.
use Rattle.std.specs.Prelude.{◌≡◌, ℕ, ◌+◌, ◌%◌, ◌/◌, ◌==◌, Bool, false, not, if◌then◌else◌}
use Rattle.std.specs.Prelude.{List, [], ◌∷◌, filter, Option, Some, slice_index_or}
use Rattle.fixed_box.specs.Bounds.{Bounds, meets}
use Rattle.broad_index.specs.declared.pair.Pair.{Pair}
use Rattle.broad_index.specs.declared.query.Query.{Query}
use Rattle.broad_index.specs.Touched.{ordered_pairs}
use Rattle.tree_nodes.specs.declared.node_view.NodeView.{NodeView}
use Rattle.tree_nodes.specs.declared.node_view.NodeView.TheVariants.{Leaf as LeafNode, Inner}
use Rattle.tree_nodes.specs.Tree.{Tree, tip, fork, top, view_in, visits, Balanced, IsRefitted}
use Rattle.tree_search.specs.Exact.{IsLeafInside, IsInside}
use Rattle.tree_search.specs.Descent.{Laws}

-- the entries whose slots are not done
abbrev pub undone : List Bool → List (ℕ × Bounds) → List (ℕ × Bounds)
undone done es = filter (λ e. not (slice_index_or done e.0 false)) es

-- how many nodes below the top a descent with a box looks at
abbrev pub below : Tree → Bounds → ℕ
below (tip n s f) b = 0
below (fork n h k l r) b = if meets h b then visits l b + visits r b else 0

abbrev pub all_below : Tree → List (ℕ × Bounds) → ℕ
all_below t [] = 0
all_below t (e ∷ es) = below t e.1 + all_below t es

-- the slots of entries whose bits are set, from the lowest on
abbrev pub picked : ℕ → List (ℕ × Bounds) → List ℕ
picked bits [] = []
picked bits (e ∷ es) = if bits % 2 == 1 then e.0 ∷ picked (bits / 2) es else picked (bits / 2) es

-- the pairs of a slot with those of entries whose bits are set, unless it is done
abbrev pub left_pairs : List Bool → ℕ → ℕ → List (ℕ × Bounds) → List Pair
left_pairs done slot bits es =
    if slice_index_or done slot false then [] else ordered_pairs slot (filter (λ s. not (s == slot)) (picked bits es))

-- each node shows under its number
abbrev pub IsShown : Option Tree → Tree → Type 0
IsShown o (tip n s f) = view_in o n ≡ Some (LeafNode s f)
IsShown o (fork n h k l r) = (view_in o n ≡ Some (Inner (top l) (top r) h k)) × (IsShown o l × IsShown o r)

-- a tree that stands below a node's number
pub record IsBelow (o : Option Tree) (bodies : List (Option Bounds)) (at : ℕ) (t : Tree) : Type 0 where
  pub at_is : at ≡ top t
  pub shown : IsShown o t
  pub balanced : Balanced t
  pub inside : IsInside bodies t

-- what is known of boxes
pub record BoxLaws : Type 0 where
  pub each : (q : Query) → Laws q
  pub either_way : (a b : Bounds) → meets a b ≡ meets b a

-- a node's view tells its tree
abbrev pub OpenedAs : Option Tree → List (Option Bounds) → NodeView → Tree → Type 0
OpenedAs o bodies (LeafNode slot fat) t = (n : ℕ) × (t ≡ tip n slot fat) × IsLeafInside bodies slot fat
OpenedAs o bodies (Inner left right h k) t =
    (n : ℕ) × (l : Tree) × (r : Tree) × (t ≡ fork n h k l r) × IsBelow o bodies left l × IsBelow o bodies right r × IsRefitted h k l r
