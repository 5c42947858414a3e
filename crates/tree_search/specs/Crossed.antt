-- Definitions: the pairs of boxes with those that they meet.
use Rattle.std.specs.Prelude.{◌≡◌, ℕ, ◌+◌, ◌==◌, Bool, false, not, ◌||◌}
use Rattle.std.specs.Prelude.{List, [], ◌∷◌, ◌++◌, filter, Option, None, Some, slice_index_or}
use Rattle.fixed_box.specs.Bounds.{Bounds}
use Rattle.broad_index.specs.declared.pair.Pair.{Pair}
use Rattle.broad_index.specs.declared.query.Query.TheVariants.{Region}
use Rattle.broad_index.specs.Found.{found_of}
use Rattle.broad_index.specs.Members.{has_pair}
use Rattle.broad_index.specs.Touched.{ordered_pairs}
use Rattle.tree_nodes.specs.Tree.{Tree, visits_in}

-- the entries whose slots are marked
abbrev pub touched_of : List Bool → List (ℕ × Bounds) → List (ℕ × Bounds)
touched_of marks es = filter (λ e. slice_index_or marks e.0 false) es

-- the slots of entries that meet one with another slot
abbrev pub others_met : List (ℕ × Bounds) → ℕ × Bounds → List ℕ
others_met es x = filter (λ s. not (s == x.0)) (found_of es (Region x.1))

-- each of some entries with those of others that it meets
abbrev pub crossed : List (ℕ × Bounds) → List (ℕ × Bounds) → List Pair
crossed es [] = []
crossed es (x ∷ xs) = ordered_pairs x.0 (others_met es x) ++ crossed es xs

-- each entry is the box of its slot
abbrev pub AreOf : List (Option Bounds) → List (ℕ × Bounds) → Type 0
AreOf bodies [] = Unit {0}
AreOf bodies (e ∷ es) = (slice_index_or bodies e.0 None ≡ Some e.1) × AreOf bodies es

-- the pairs that a list has are those that another has, and more
abbrev pub Adds : List Pair → List Pair → List Pair → Type 0
Adds old new more = (p : Pair) → has_pair new p ≡ (has_pair old p || has_pair more p)

-- and how many nodes a descent with each of some looks at
abbrev pub all_visits_in : Option Tree → List (ℕ × Bounds) → ℕ
all_visits_in o [] = 0
all_visits_in o (e ∷ es) = visits_in o e.1 + all_visits_in o es
