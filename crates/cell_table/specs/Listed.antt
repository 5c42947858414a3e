-- What a list of a table's slots by bucket means, and what stands in the stretches of a row of cells.
use Rattle.std.specs.Prelude.{◌≡◌, ◌⊎◌, ℕ, ℤ, ◌+◌, ◌<◌, ◌≤◌, ◌≤ℤ◌, ◌<ℤ◌, true, List, length, slice_index, Some}
use Rattle.std.specs.Ordering.{nat_cmp}
use Rattle.std.specs.FinMap.{FinMap, get, contains_key}
use Rattle.fixed_box.specs.declared.TheConstants.{SLOTS}
use Rattle.cell_table.specs.declared.cell_key.CellKey.{CellKey}
use Rattle.cell_table.specs.declared.row_places.RowPlaces.{RowPlaces}
use Rattle.cell_table.specs.Cells.{bucket_of, IsDistinct}

-- slots, and for each bucket the place where its stretch of them starts
pub record Listed : Type 0 where
  pub starts : List ℕ
  pub slots : List ℕ

-- a slot stands at a place from one on and below another
pub record Stands (slots : List ℕ) (from to slot : ℕ) : Type 0 where
  pub place : ℕ
  pub low : from ≤ place
  pub high : place < to
  pub inside : place < length slots
  pub is : slice_index slots place ≡ slot

-- Exactly the slots that have keys are listed, each once and in the stretch of its key's bucket.
pub record Lists (cells : FinMap nat_cmp CellKey) (list : Listed) : Type 0 where
  pub whole : (slot : ℕ) (key : CellKey) → get cells slot ≡ Some key
      → Stands list.slots (slice_index list.starts (bucket_of key)) (slice_index list.starts (bucket_of key + 1)) slot
  pub present : (place : ℕ) → place < length list.slots → contains_key cells (slice_index list.slots place) ≡ true
  pub once : IsDistinct list.slots
  pub few : length list.slots ≤ SLOTS

-- a slot stands at one of a row's places
pub record StandsIn (slots : List ℕ) (row : RowPlaces) (slot : ℕ) : Type 0 where
  pub place : ℕ
  pub inside : ((row.from ≤ place) × (place < row.to)) ⊎ (place < row.wrapped)
  pub is : slice_index slots place ≡ slot

-- The slots of a row of cells, from that of a key on and below an end of z, stand at these places, whichever table was listed.
abbrev pub HasRow : Listed → CellKey → ℤ → RowPlaces → Type 0
HasRow list key end row =
    (cells : FinMap nat_cmp CellKey) (z : ℤ) (slot : ℕ) → Lists cells list → key.z ≤ℤ z → z <ℤ end → get cells slot ≡ Some (record key { z = z })
    → StandsIn list.slots row slot
