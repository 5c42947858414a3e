-- Serves proofs alone: boxes beside their slots by bucket, and those of a row of cells.
use Rattle.std.specs.Prelude.{◌≡◌, ◌⊎◌, ℕ, ◌<◌, true, List, length, map, Option, option_map, Some, IfSome, All}
use Rattle.std.specs.Ordering.{nat_cmp}
use Rattle.std.specs.FinMap.{FinMap, get}
use Rattle.fixed_box.specs.Bounds.{Bounds}
use Rattle.broad_index.specs.Members.{has_slot}
use Rattle.cell_table.specs.declared.cell_key.CellKey.{CellKey}
use Rattle.cell_table.specs.Listed.{Lists}
use Rattle.cell_table.specs.declared.TheConstants.{LEVELS}
use Rattle.grid_cells.specs.declared.cell_row.CellRow.{CellRow}
use Rattle.grid_cells.specs.Cells.{IsInRow, standing_cell}
use Rattle.grid_boxes.specs.declared.bucket_boxes.BucketBoxes.{BucketBoxes}
use Rattle.grid_boxes.specs.declared.slot_box.SlotBox.{SlotBox}
use Rattle.grid_boxes.specs.Copies.{slots_of}
use Rattle.grid_boxes.specs.Standing.{AreStanding, IsMerged}

-- beside each slot stands its box
abbrev pub AreOf : FinMap nat_cmp Bounds → List SlotBox → Type 0
AreOf bodies entries = All (λ e. get bodies e.slot ≡ Some e.body) entries

-- a slot beside its box, if it has one
abbrev pub boxed : FinMap nat_cmp Bounds → ℕ → Option SlotBox
boxed bodies slot = option_map (λ body. record { slot = slot; body = body }) (get bodies slot)

-- all boxes, in the order in which the slots of the cells are listed in which they stand
pub record HasBuckets (bodies : FinMap nat_cmp Bounds) (boxes : BucketBoxes) : Type 0 where
  pub cells : FinMap nat_cmp CellKey
  pub low : boxes.floor < LEVELS
  pub keyed : AreStanding bodies boxes.floor cells
  pub listed : Lists cells boxes.list
  pub same : map (λ e. e.slot) boxes.copies ≡ boxes.list.slots
  pub right : AreOf bodies boxes.copies

-- as many boxes are copied as slots are listed
abbrev pub IsEven : BucketBoxes → Type 0
IsEven boxes = length boxes.copies ≡ length boxes.list.slots

-- all boxes that stand in a row of cells are in two stretches, and each slot there stands beside its box
pub record HasRowBoxes (bodies : FinMap nat_cmp Bounds) (floor : ℕ) (row : CellRow) (first rest : List SlotBox) : Type 0 where
  pub first_right : AreOf bodies first
  pub rest_right : AreOf bodies rest
  pub whole : (q : ℕ) (b : Bounds) → get bodies q ≡ Some b → IsInRow row (standing_cell floor b)
      → (has_slot (slots_of first) q ≡ true) ⊎ (has_slot (slots_of rest) q ≡ true)

-- where merged cells are kept, they are those of the boxes
abbrev pub KeepsMerged : FinMap nat_cmp Bounds → BucketBoxes → Type 0
KeepsMerged bodies boxes = IfSome boxes.merged (IsMerged bodies)
