-- Definitions: the entries of a map where they stand in any order.
use Rattle.std.specs.Prelude.{◌≡◌, ℕ, Bool, true, not, ◌&&◌, List, [], ◌∷◌, map, Some, Contains}
use Rattle.std.specs.Ordering.{nat_cmp}
use Rattle.std.specs.FinMap.{FinMap, get}
use Rattle.fixed_box.specs.Bounds.{Bounds}
use Rattle.broad_index.specs.Members.{has_slot}

-- each entry any number of times
pub record Holds (bodies : FinMap nat_cmp Bounds) (es : List (ℕ × Bounds)) : Type 0 where
  pub present : (k : ℕ) (b : Bounds) → Contains es (k, b) → get bodies k ≡ Some b
  pub whole : (k : ℕ) (b : Bounds) → get bodies k ≡ Some b → Contains es (k, b)

-- no slot stands twice among entries
abbrev pub apart : List (ℕ × Bounds) → Bool
apart [] = true
apart (e ∷ es) = not (has_slot (map (λ e. e.0) es) e.0) && apart es
