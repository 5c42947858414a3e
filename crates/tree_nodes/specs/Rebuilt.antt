-- Serves proofs alone: a tree is built anew over its leaves.
use Rattle.std.specs.Prelude.{◌≡◌, ℕ, ◌+◌, ◌<◌, ◌≤◌, ◌^◌, pos, List, [], ◌∷◌, ◌++◌, map, length, Option, None, Some, IsSome}
use Rattle.std.specs.List.{sum_by}
use Rattle.std.specs.List.Sorted.{IsPermutation}
use Rattle.slab.specs.Slab.{Slab, get}
use Rattle.fixed_box.specs.declared.TheConstants.{SLOTS}
use Rattle.fixed_box.specs.Bounds.{Bounds}
use Rattle.tree_nodes.specs.declared.leaf_key.LeafKey.{LeafKey}
use Rattle.tree_nodes.specs.declared.node_view.NodeView.{NodeView}
use Rattle.tree_nodes.specs.declared.node_view.NodeView.TheVariants.{Leaf as LeafNode, Inner}
use Rattle.tree_nodes.specs.Tree.{Tree, tip, fork, Leaf, height, leaves, count_of, one, Balanced}
use Rattle.tree_nodes.specs.Stored.{StandsAt}

-- the numbers of some leaves
abbrev pub numbers : List LeafKey → List ℕ
numbers keys = map (λ k. k.number) keys

-- how often a number stands in a list
abbrev pub uses : List ℕ → ℕ → ℕ
uses ns k = sum_by (λ n. one n k) ns

-- the numbers of the inner nodes
abbrev pub inner_numbers : Tree → List ℕ
inner_numbers (tip n s b) = []
inner_numbers (fork n h k l r) = n ∷ (inner_numbers l ++ inner_numbers r)

-- a list of a length has room for the leaves of a tree
abbrev pub HasRoom : ℕ → ℕ → Tree → Type 0
HasRoom len capacity t = len + length (leaves t) ≤ capacity

abbrev pub no_extent : Bounds
no_extent = record { lo = record { x = pos 0; y = pos 0; z = pos 0 }; hi = record { x = pos 0; y = pos 0; z = pos 0 } }

-- the leaf that a number shows, and any where it shows none
abbrev pub shown_leaf : ℕ → Option NodeView → Leaf
shown_leaf n None = record { node = n; slot = 0; fat = no_extent }
shown_leaf n (Some (LeafNode s b)) = record { node = n; slot = s; fat = b }
shown_leaf n (Some (Inner l r h k)) = record { node = n; slot = 0; fat = h }

-- the leaves that some numbers show
abbrev pub shown_leaves : Slab NodeView → List ℕ → List Leaf
shown_leaves slab ns = map (λ n. shown_leaf n (get slab n)) ns

-- leaves and inner nodes that make a tree
pub record ToBuild (slab : Slab NodeView) (ns inner : List ℕ) : Type 0 where
  pub leaves_there : (n : ℕ) → 1 ≤ uses ns n → (s : ℕ) × (b : Bounds) × (get slab n ≡ Some (LeafNode s b))
  pub room : (n : ℕ) → 1 ≤ uses inner n → IsSome (get slab n)
  pub apart : (k : ℕ) → uses ns k + uses inner k ≤ 1
  pub count : length ns ≡ length inner + 1
  pub few : length ns ≤ SLOTS

-- the tree that they make, as low as so many leaves may stand
pub record Built (old new : Slab NodeView) (at : ℕ) (ns inner : List ℕ) (t : Tree) : Type 0 where
  pub kept : StandsAt new at t
  pub balanced : Balanced t
  pub counts_are : (k : ℕ) → count_of t k ≡ uses ns k + uses inner k
  pub leaves_are : IsPermutation (shown_leaves old ns) (leaves t)
  pub enough : length ns ≤ 2 ^ height t
  pub least : 2 ^ height t < length ns + length ns
