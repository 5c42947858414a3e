-- Definitions: the exact boxes of the leaves of a tree.
use Rattle.std.specs.Prelude.{◌≡◌, ℕ, ◌<◌, List, [], ◌∷◌, ◌++◌, length, Option, None, Some, slice_index_or, IsTrue}
use Rattle.fixed_box.specs.Bounds.{Bounds, encloses}
use Rattle.tree_nodes.specs.Tree.{Tree, tip, fork, leaves, Leaf}

-- the exact box of a slot, where it has one
abbrev pub entry_of : ℕ → Option Bounds → List (ℕ × Bounds)
entry_of slot None = []
entry_of slot (Some b) = (slot, b) ∷ []

-- the slots of leaves with their exact boxes
abbrev pub exact : List (Option Bounds) → List Leaf → List (ℕ × Bounds)
exact bodies [] = []
exact bodies (x ∷ xs) = entry_of x.slot (slice_index_or bodies x.slot None) ++ exact bodies xs

abbrev pub exact_in : List (Option Bounds) → Option Tree → List (ℕ × Bounds)
exact_in bodies None = []
exact_in bodies (Some t) = exact bodies (leaves t)

-- a leaf's slot is one of the list, and its fat box encloses its exact one
pub record IsLeafInside (bodies : List (Option Bounds)) (slot : ℕ) (fat : Bounds) : Type 0 where
  pub small : slot < length bodies
  pub inside : (b : Bounds) → slice_index_or bodies slot None ≡ Some b → IsTrue (encloses fat b)

-- each leaf is so
abbrev pub IsInside : List (Option Bounds) → Tree → Type 0
IsInside bodies (tip n s f) = IsLeafInside bodies s f
IsInside bodies (fork n h k l r) = IsInside bodies l × IsInside bodies r

abbrev pub IsInsideIn : List (Option Bounds) → Option Tree → Type 0
IsInsideIn bodies None = Unit {0}
IsInsideIn bodies (Some t) = IsInside bodies t
