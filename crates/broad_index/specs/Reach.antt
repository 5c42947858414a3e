-- Definitions: what meets the box of a slot.
use Rattle.std.specs.Prelude.{ℕ, not, ◌&&◌, ◌==◌, List, [], map, filter, Option, Some, None}
use Rattle.std.specs.Ordering.{nat_cmp}
use Rattle.std.specs.FinMap.{FinMap, entries, get}
use Rattle.fixed_box.specs.Bounds.{Bounds, meets}

-- the other slots of entries whose boxes meet a slot's box
abbrev pub reach_of : ℕ → Option Bounds → List (ℕ × Bounds) → List ℕ
reach_of slot None es = []
reach_of slot (Some body) es = map (λ e. e.0) (filter (λ e. not (e.0 == slot) && meets body e.1) es)

-- All other present slots whose boxes meet this one's, rising.
abbrev pub reach : FinMap nat_cmp Bounds → ℕ → List ℕ
reach bodies slot = reach_of slot (get bodies slot) (entries bodies)
