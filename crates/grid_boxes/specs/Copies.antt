-- Serves proofs alone: boxes beside their slots, stretches of them, and the packets of their boxes.
use Rattle.std.specs.Prelude.{◌≡◌, ◌⊎◌, ℕ, ◌-◌, ◌*◌, ◌<◌, ◌≤◌, true, List, length, map, take, drop, get_or, Some}
use Rattle.std.specs.Ordering.{nat_cmp}
use Rattle.std.specs.FinMap.{FinMap, get}
use Rattle.fixed_box.specs.Bounds.{Bounds}
use Rattle.broad_index.specs.Members.{has_slot}
use Rattle.grid_cells.specs.Cells.{standing_cell}
use Rattle.grid_boxes.specs.declared.slot_box.SlotBox.{SlotBox}

-- the slots of a list of boxes beside their slots
abbrev pub slots_of : List SlotBox → List ℕ
slots_of es = map (λ e. e.slot) es

-- the boxes of such a list
abbrev pub bodies_in : List SlotBox → List Bounds
bodies_in es = map (λ e. e.body) es

-- what stands from a place on and below another
abbrev pub stretch : ℕ → ℕ → List SlotBox → List SlotBox
stretch from to es = take (to - from) (drop from es)

-- packets have the boxes of entries by eights, from the first on
pub record ArePacked (entries : List SlotBox) (packets : List (List Bounds)) : Type 0 where
  pub within : 8 * length packets ≤ length entries
  pub each : (k : ℕ) (d : List Bounds) → k < length packets → get_or packets k d ≡ bodies_in (take 8 (drop (8 * k) entries))

-- What stands in the cell of a box stands before a place, or from it on and before an end.
abbrev pub HasCellBehind : FinMap nat_cmp Bounds → ℕ → Bounds → ℕ → ℕ → List SlotBox → Type 0
HasCellBehind bodies floor body from end es =
    (q : ℕ) (b : Bounds) → get bodies q ≡ Some b → standing_cell floor b ≡ standing_cell floor body
    → (has_slot (slots_of (take from es)) q ≡ true) ⊎ (has_slot (slots_of (stretch from end es)) q ≡ true)
