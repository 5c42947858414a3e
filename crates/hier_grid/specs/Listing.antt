-- Serves proofs alone: the list of all boxes by bucket through changes, and what a search finds in it.
use Rattle.std.specs.Prelude.{◌≡◌, refl, ℕ, Bool, true, false, not, ◌&&◌, ◌||◌, ◌==◌, nat_lt, List, map, filter, take}
use Rattle.std.specs.Ordering.{nat_cmp}
use Rattle.std.specs.Coded.{Coded, code_by, coded×, coded_ℕ}
use Rattle.std.specs.FinMap.{FinMap, code}
use Rattle.fixed_box.specs.Bounds.{Bounds, coded_bounds, meets}
use Rattle.broad_index.specs.declared.pair.Pair.{Pair}
use Rattle.broad_index.specs.Members.{has_slot}
use Rattle.broad_index.specs.Touched.{ordered}
use Rattle.cell_table.specs.declared.cell_key.CellKey.{CellKey}
use Rattle.grid_cells.specs.Cells.{standing_cell}
use Rattle.grid_boxes.specs.declared.bucket_boxes.BucketBoxes.{BucketBoxes}
use Rattle.grid_boxes.specs.declared.slot_box.SlotBox.{SlotBox}
use Rattle.grid_boxes.specs.Buckets.{HasBuckets, KeepsMerged}
use Rattle.grid_boxes.specs.Copies.{slots_of}
use Rattle.hier_grid.specs.declared.grid_listing.GridListing.{GridListing}
use Rattle.hier_grid.specs.Search.{Finds}

-- what a search of such a list reads, as clauses see it
pub record Standing : Type 0 where
  pub bodies : FinMap nat_cmp Bounds
  -- no box stands in a cell of a level below this one
  pub floor : ℕ

-- stored as the pair of its fields
abbrev pub coded_standing : Coded Standing
coded_standing =
    code_by (FinMap nat_cmp Bounds × ℕ) (coded× (code coded_ℕ coded_bounds) coded_ℕ)
    (λ s. (s.bodies, s.floor)) (λ t. record { bodies = t.0; floor = t.1 }) (λ _. refl)

-- where a listing is fresh, it has all boxes; merged cells are up to date in any case
pub record IsListing (bodies : FinMap nat_cmp Bounds) (listing : GridListing) : Type 0 where
  pub listed : listing.fresh ≡ true → HasBuckets bodies listing.boxes
  pub merged : KeepsMerged bodies listing.boxes

-- a partner: another slot, any such one or only a higher one, whose box meets the slot's
abbrev pub pairs_up : SlotBox → Bool → SlotBox → Bool
pairs_up own any e = not (e.slot == own.slot) && (any || nat_lt own.slot e.slot) && meets own.body e.body

-- a slot's pairs with its partners among others
abbrev pub met_pairs : SlotBox → Bool → List SlotBox → List Pair
met_pairs own any entries = map (λ e. ordered own.slot e.slot) (filter (pairs_up own any) entries)

-- what a search of a slot finds in some cells
abbrev pub FindsIn : Standing → SlotBox → Bool → (CellKey → Type 0) → List Pair → List Pair → Type 0
FindsIn boxes own any IsThere old new = Finds boxes.bodies own any (λ _ b. IsThere (standing_cell boxes.floor b)) old new

-- what a search of a slot finds in its cell from a place on: each partner there that doesn't stand before it
abbrev pub FindsBehind : BucketBoxes → ℕ → SlotBox → List Pair → List Pair → Type 0
FindsBehind boxes from own old new =
    (bodies : FinMap nat_cmp Bounds) → HasBuckets bodies boxes
    → Finds bodies own true (λ q b. (standing_cell boxes.floor b ≡ standing_cell boxes.floor own.body)
    × (has_slot (slots_of (take from boxes.copies)) q ≡ false)) old new
