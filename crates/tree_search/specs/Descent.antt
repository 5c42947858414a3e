-- Serves proofs alone: what a descent with a query looks at, and what it finds.
use Rattle.std.specs.Prelude.{◌≡◌, ℕ, Bool, false, ◌+◌, ◌≤◌, List, [], ◌∷◌, ◌++◌, length, Option, None, Some, if◌then◌else◌, slice_index_or, IsTrue}
use Rattle.fixed_box.specs.Bounds.{Bounds, encloses, hull}
use Rattle.broad_index.specs.declared.query.Query.{Query}
use Rattle.broad_index.specs.Found.{query_meets, found_of}
use Rattle.broad_index.specs.Members.{meets_query}
use Rattle.tree_nodes.specs.declared.node_view.NodeView.{NodeView}
use Rattle.tree_nodes.specs.declared.node_view.NodeView.TheVariants.{Leaf as LeafNode, Inner}
use Rattle.tree_nodes.specs.declared.TheConstants.{MOST_HEIGHT}
use Rattle.tree_nodes.specs.Tree.{Tree, tip, fork, top, bounds, leaves, Leaf, height, count_of, view_of, view_at, IsTree, Balanced, Within}
use Rattle.tree_search.specs.Exact.{exact, IsInside}
use Rattle.tree_search.specs.Visits.{visits_by}

-- what is known of trees and queries
pub record Laws (q : Query) : Type 0 where
  pub missed : (outer inner : Bounds) → IsTrue (encloses outer inner) → query_meets q outer ≡ false → query_meets q inner ≡ false
  pub this : (a b : Bounds) → IsTrue (encloses (hull a b) a)
  pub that : (a b : Bounds) → IsTrue (encloses (hull a b) b)
  pub itself : (t : Tree) → Within t t
  pub deeper : (t u v : Tree) → Within t u → Within u v → Within t v
  pub children : (n k : ℕ) (h : Bounds) (l r : Tree) → Within (fork n h k l r) l × Within (fork n h k l r) r
  pub within : (t u : Tree) → Within t u → Balanced t → Balanced u
  pub shown : (t u : Tree) → Within t u → ((k : ℕ) → count_of t k ≤ 1) → view_at t (top u) ≡ Some (view_of u)

-- what stands below a node that was looked at is still to be looked at, where the node is met
abbrev pub owed : Tree → Query → ℕ
owed (tip n s b) q = 0
owed (fork n h k l r) q = if query_meets q h then visits_by l q + visits_by r q else 0

-- trees that wait on a stack, the next one first
abbrev pub all_leaves : List Tree → List Leaf
all_leaves [] = []
all_leaves (u ∷ us) = leaves u ++ all_leaves us

abbrev pub all_owed : List Tree → Query → ℕ
all_owed [] q = 0
all_owed (u ∷ us) q = owed u q + all_owed us q

-- what their top nodes show, the next one last
abbrev pub views : List Tree → List NodeView
views [] = []
views (u ∷ us) = views us ++ view_of u ∷ []

-- The higher a waiting tree is, the fewer wait behind it.
abbrev pub AreLow : List Tree → Type 0
AreLow [] = Unit {0}
AreLow (u ∷ us) = (height u + length us ≤ MOST_HEIGHT) × AreLow us

abbrev pub AllWithin : Tree → List Tree → Type 0
AllWithin t [] = Unit {0}
AllWithin t (u ∷ us) = Within t u × AllWithin t us

-- Only trees that are met wait.
abbrev pub AreMet : Query → List Tree → Type 0
AreMet q [] = Unit {0}
AreMet q (u ∷ us) = IsTrue (query_meets q (bounds u)) × AreMet q us

-- the trees of t that wait on a stack
pub record Wait (q : Query) (t : Tree) (stack : List NodeView) (us : List Tree) : Type 0 where
  pub stack_is : stack ≡ views us
  pub low : AreLow us
  pub within : AllWithin t us
  pub met : AreMet q us

-- where a descent stands: what it has found, with what it will find below the waiting trees, is what is found of all
pub record Stands (o : Option Tree) (bodies : List (Option Bounds)) (q : Query) (stack : List NodeView) (before now : List ℕ) (count : ℕ) : Type 0 where
  pub t : Tree
  pub us : List Tree
  pub is : o ≡ Some t
  pub is_tree : IsTree t
  pub inside : IsInside bodies t
  pub wait : Wait q t stack us
  pub found_is : now ++ found_of (exact bodies (all_leaves us)) q ≡ before ++ found_of (exact bodies (leaves t)) q
  pub count_is : count + all_owed us q ≡ visits_by t q

-- and where its next tree is taken from the stack
pub record Popped (o : Option Tree) (bodies : List (Option Bounds)) (q : Query) (rest : List NodeView) (node : NodeView)
    (before now : List ℕ) (count : ℕ) : Type 0 where
  pub t : Tree
  pub u : Tree
  pub us : List Tree
  pub is : o ≡ Some t
  pub is_tree : IsTree t
  pub inside : IsInside bodies t
  pub node_is : node ≡ view_of u
  pub wait : Wait q t rest us
  pub low_here : height u + length us ≤ MOST_HEIGHT
  pub here : Within t u
  pub met_here : IsTrue (query_meets q (bounds u))
  pub found_is : now ++ found_of (exact bodies (leaves u ++ all_leaves us)) q ≡ before ++ found_of (exact bodies (leaves t)) q
  pub count_is : count + (owed u q + all_owed us q) ≡ visits_by t q

-- a query meets the hull of an inner node, or the fat box of a leaf
abbrev pub meets_node : Query → NodeView → Bool
meets_node q (LeafNode slot fat) = query_meets q fat
meets_node q (Inner left right hull height) = query_meets q hull

-- a node that is met
abbrev pub met_in : Query → Option NodeView → List NodeView
met_in q None = []
met_in q (Some node) = if meets_node q node then node ∷ [] else []

-- what the leaf of a slot adds to what is found
abbrev pub found_at : List (Option Bounds) → Query → ℕ → List ℕ
found_at bodies q slot = if meets_query q (slice_index_or bodies slot None) then slot ∷ [] else []
