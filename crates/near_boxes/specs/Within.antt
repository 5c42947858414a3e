-- Serves proofs alone: the boxes within a distance of a box, slot by slot.
use Rattle.std.specs.Prelude.{◌≡◌, ◌⊎◌, ℕ, ◌≤◌, Bool, nat_le, if◌then◌else◌, List, map, filter, Option, None, Some}
use Rattle.std.specs.Ordering.{nat_cmp}
use Rattle.std.specs.FinMap.{FinMap, entries, get}
use Rattle.fixed_box.specs.Bounds.{Bounds}
use Rattle.near_boxes.specs.declared.near.Near.{Near}
use Rattle.near_boxes.specs.Nearest.{squared, square_apart, seen_about}

-- at most so far, as a square
abbrev pub is_within : ℕ → Near → Bool
is_within most n = nat_le n.square most

-- those of a map, in order of slots
abbrev pub all_within : FinMap nat_cmp Bounds → Bounds → ℕ → List Near
all_within bodies to most = filter (is_within most) (map (seen_about to) (entries bodies))

-- a slot whose box is known
abbrev pub within_of : Bounds → ℕ → ℕ → Option Bounds → Option Near
within_of to most slot None = None
within_of to most slot (Some b) = if nat_le (square_apart to b) most then Some (record { slot = slot; square = square_apart to b }) else None

-- a slot of a map, where its box is within the distance
abbrev pub within : FinMap nat_cmp Bounds → Bounds → ℕ → ℕ → Option Near
within bodies to most slot = within_of to most slot (get bodies slot)

-- boxes so near meet the box fattened by so much: it reaches as far, or everywhere
abbrev pub Reaches : ℕ → ℕ → Type 0
Reaches margin most = (most ≤ squared margin) ⊎ (margin ≡ 4294967295)
