-- Definitions: the pairs of boxes that meet, of a map from slot to box.
use Rattle.std.specs.Prelude.{ℕ, Bool, ◌&&◌, ◌||◌, nat_lt, ◌==◌, List, [], ◌∷◌, ◌++◌, map, filter}
use Rattle.std.specs.Ordering.{nat_cmp}
use Rattle.std.specs.FinMap.{FinMap, entries}
use Rattle.fixed_box.specs.Bounds.{Bounds, meets}
use Rattle.slot_lists.specs.Rising.{rises_by}
use Rattle.broad_index.specs.declared.pair.Pair.{Pair}

-- a slot with each later one whose box meets its box
abbrev pub partners : ℕ → Bounds → List (ℕ × Bounds) → List Pair
partners slot body later = map (λ e. record { a = slot; b = e.0 }) (filter (λ e. meets body e.1) later)

-- of a list of entries, each with each later one that it meets
abbrev pub near_of : List (ℕ × Bounds) → List Pair
near_of [] = []
near_of (e ∷ later) = partners e.0 e.1 later ++ near_of later

-- All pairs a < b of present slots whose boxes meet, rising by a and then by b. The entries stand in the order of their slots.
abbrev pub near : FinMap nat_cmp Bounds → List Pair
near bodies = near_of (entries bodies)

-- p stands before q: by a, and then by b
abbrev pub precedes : Pair → Pair → Bool
precedes p q = nat_lt p.a q.a || (p.a == q.a && nat_lt p.b q.b)

-- each pair stands before all later ones
abbrev pub rises : List Pair → Bool
rises pairs = rises_by precedes pairs
