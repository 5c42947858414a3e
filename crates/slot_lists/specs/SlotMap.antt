-- What a list with a value or none for each slot means: a map from slot to value.
use Rattle.std.specs.Prelude.{ℕ, ◌+◌, List, [], ◌∷◌, Option, None, Some}
use Rattle.std.specs.Ordering.{nat_cmp}
use Rattle.std.specs.FinMap.{FinMap, from_sorted}

-- the values with their slots, counted from n
abbrev pub entries_from : {X : Type 0} → ℕ → List (Option X) → List (ℕ × X)
entries_from n [] = []
entries_from n (None ∷ xs) = entries_from (n + 1) xs
entries_from n (Some v ∷ xs) = (n, v) ∷ entries_from (n + 1) xs

-- the map of these values
abbrev pub map_of : {X : Type 0} → List (Option X) → FinMap nat_cmp X
map_of xs = from_sorted (entries_from 0 xs)
