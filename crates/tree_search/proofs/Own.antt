-- The exact boxes of leaves are those of their slots.
use Rattle.std.proofs.Common.{◌≡◌, ℕ, Option, None, Some, List, [], ◌∷◌, ◌++◌, get_or, refl}
use Rattle.fixed_box.specs.Bounds.{Bounds}
use Rattle.tree_nodes.specs.Tree.{Tree, Leaf, leaves}
use Rattle.tree_search.specs.Exact.{entry_of, exact, exact_in}
use Rattle.tree_search.specs.Crossed.{AreOf}

entry_own : (bodies : List (Option Bounds)) (s : ℕ) (p : Option Bounds) (es : List (ℕ × Bounds)) → get_or bodies s None ≡ p → AreOf bodies es
    → AreOf bodies (entry_of s p ++ es)
entry_own bodies s None es e own = own
entry_own bodies s (Some b) es e own = (e, own)

exact_own : (bodies : List (Option Bounds)) (xs : List Leaf) → AreOf bodies (exact bodies xs)
exact_own bodies [] = tt
exact_own bodies (x ∷ xs) = entry_own bodies x.slot (get_or bodies x.slot None) (exact bodies xs) refl (exact_own bodies xs)

pub exact_in_own : (bodies : List (Option Bounds)) (o : Option Tree) → AreOf bodies (exact_in bodies o)
exact_in_own bodies None = tt
exact_in_own bodies (Some t) = exact_own bodies (leaves t)
