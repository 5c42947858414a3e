-- Definitions: the nodes of a tree listed in preorder (Ericson, Real-Time Collision Detection, 2005, 6.6.2).
use Rattle.std.specs.Prelude.{ℕ, List, [], ◌∷◌, ◌++◌, length, Option, None, Some, slice_index_or}
use Rattle.fixed_box.specs.Bounds.{Bounds}
use Rattle.tree_nodes.specs.Tree.{Tree, tip, fork}
use Rattle.tree_search.specs.declared.preorder.ListedNode.{ListedNode}
use Rattle.tree_search.specs.declared.preorder.NodeKind.{NodeKind}
use Rattle.tree_search.specs.declared.preorder.NodeKind.TheVariants.{Leaf as LeafKind, Inner as InnerKind}

-- the leaf of a slot with its exact box, where it has one
abbrev pub leaf_node : ℕ → Option Bounds → List ListedNode
leaf_node slot None = []
leaf_node slot (Some b) = record { bounds = b; kind = LeafKind slot } ∷ []

-- An inner node comes before those below it, and tells how many these are.
abbrev pub preorder : List (Option Bounds) → Tree → List ListedNode
preorder bodies (tip n s f) = leaf_node s (slice_index_or bodies s None)
preorder bodies (fork n h k l r) =
    record { bounds = h; kind = InnerKind (length (preorder bodies l ++ preorder bodies r)) } ∷ (preorder bodies l ++ preorder bodies r)

abbrev pub preorder_in : List (Option Bounds) → Option Tree → List ListedNode
preorder_in bodies None = []
preorder_in bodies (Some t) = preorder bodies t

-- the slot of a leaf with its box
abbrev pub entry_at : Bounds → NodeKind → List (ℕ × Bounds)
entry_at b (LeafKind slot) = (slot, b) ∷ []
entry_at b (InnerKind below) = []

-- and of each leaf of a list
abbrev pub listed : List ListedNode → List (ℕ × Bounds)
listed [] = []
listed (x ∷ xs) = entry_at x.bounds x.kind ++ listed xs
