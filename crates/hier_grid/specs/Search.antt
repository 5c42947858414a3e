-- Definitions: what searches find.
use Rattle.std.specs.Prelude.{◌≡◌, ◌⊎◌, ℕ, ◌<◌, Bool, true, not, ◌&&◌, ◌||◌, ◌==◌, nat_lt, List, Some}
use Rattle.std.specs.Ordering.{nat_cmp}
use Rattle.std.specs.FinMap.{FinMap, get}
use Rattle.fixed_box.specs.Bounds.{Bounds, meets}
use Rattle.broad_index.specs.declared.pair.Pair.{Pair}
use Rattle.broad_index.specs.Members.{has_pair, has_slot, both_meet, is_near}
use Rattle.broad_index.specs.Touched.{ordered}
use Rattle.cell_table.specs.declared.cell_key.CellKey.{CellKey}
use Rattle.grid_boxes.specs.declared.slot_box.SlotBox.{SlotBox}
use Rattle.grid_cells.specs.Cells.{cell_of, IsAfter}

-- a slot whose box meets another box
abbrev pub meets_at : FinMap nat_cmp Bounds → Bounds → ℕ → Bool
meets_at bodies body q = both_meet (Some body) (get bodies q)

-- a slot's partner: another one whose box meets its box, any such one or only one with a higher slot
abbrev pub is_partner : FinMap nat_cmp Bounds → ℕ → Bounds → Bool → ℕ → Bool
is_partner bodies slot body any q = not (q == slot) && (any || nat_lt slot q) && meets_at bodies body q

-- a list has partners of a slot alone
abbrev pub AreReached : FinMap nat_cmp Bounds → ℕ → Bounds → List ℕ → Type 0
AreReached bodies slot body slots = (q : ℕ) → has_slot slots q ≡ true → is_partner bodies slot body true q ≡ true

-- of two boxes the other one's cell has a higher level, or it is a later one of the same level
abbrev pub IsOther : (Bounds → CellKey) → Bounds → Bounds → Type 0
IsOther cell body b = ((cell body).level < (cell b).level) ⊎ (((cell b).level ≡ (cell body).level) × IsAfter (cell b) (cell body))

-- Of each two slots one has to find their pair, whichever cells their boxes have: the other's cell has a higher level, or it is later,
-- or in one cell the other slot is higher.
abbrev pub IsDue : (Bounds → CellKey) → ℕ → Bounds → ℕ → Bounds → Type 0
IsDue cell slot body q b = ((cell b ≡ cell body) × (slot < q)) ⊎ IsOther cell body b

-- the other's cell is a later one of the same level
abbrev pub IsLaterBeside : (Bounds → CellKey) → Bounds → Bounds → Type 0
IsLaterBeside cell body b = ((cell b).level ≡ (cell body).level) × IsAfter (cell b) (cell body)

-- what was found is right
abbrev pub IsSound : FinMap nat_cmp Bounds → List Pair → Type 0
IsSound bodies pairs = (p : Pair) → has_pair pairs p ≡ true → is_near bodies p ≡ true

-- what was found is still there
abbrev pub HasPairs : List Pair → List Pair → Type 0
HasPairs old new = (p : Pair) → has_pair old p ≡ true → has_pair new p ≡ true

-- the pairs of a slot with its partners there were found, either any or those with higher slots alone
abbrev pub FindsWhere : FinMap nat_cmp Bounds → SlotBox → Bool → (ℕ → Bounds → Type 0) → List Pair → Type 0
FindsWhere bodies own any IsThere found =
    (q : ℕ) (b : Bounds) → get bodies q ≡ Some b → IsThere q b → meets own.body b ≡ true → not (q == own.slot) ≡ true → (any || nat_lt own.slot q) ≡ true
    → has_pair found (ordered own.slot q) ≡ true

-- A search of a slot has added its pairs with its partners there. What was found still is, and it is right where it was and the slot has this box.
pub record Finds (bodies : FinMap nat_cmp Bounds) (own : SlotBox) (any : Bool) (IsThere : ℕ → Bounds → Type 0) (old new : List Pair) : Type 0 where
  pub sound : get bodies own.slot ≡ Some own.body → IsSound bodies old → IsSound bodies new
  pub more : HasPairs old new
  pub found : FindsWhere bodies own any IsThere new

-- the pairs that are to be found from a slot were found, where boxes have such cells
abbrev pub FindsFrom : (Bounds → CellKey) → FinMap nat_cmp Bounds → ℕ → Bounds → List Pair → Type 0
FindsFrom cell bodies slot body found =
    (q : ℕ) (b : Bounds) → get bodies q ≡ Some b → meets body b ≡ true → not (q == slot) ≡ true → IsDue cell slot body q b
    → has_pair found (ordered slot q) ≡ true

-- the same if the slot is present
abbrev pub FindsFor : (Bounds → CellKey) → FinMap nat_cmp Bounds → ℕ → List Pair → Type 0
FindsFor cell bodies slot found = (body : Bounds) → get bodies slot ≡ Some body → FindsFrom cell bodies slot body found

-- The pairs of a slot with those of its cell were found, and those that are to be found from it, if it is present.
abbrev pub FindsAround : (Bounds → CellKey) → FinMap nat_cmp Bounds → ℕ → List Pair → Type 0
FindsAround cell bodies slot found =
    (body : Bounds) → get bodies slot ≡ Some body → (q : ℕ) (b : Bounds) → get bodies q ≡ Some b → meets body b ≡ true → not (q == slot) ≡ true
    → (cell b ≡ cell body) ⊎ IsOther cell body b → has_pair found (ordered slot q) ≡ true

-- exactly the pairs of boxes that meet were found
abbrev pub FindsAll : FinMap nat_cmp Bounds → List Pair → Type 0
FindsAll bodies found = (p : Pair) → has_pair found p ≡ is_near bodies p

-- a search of a slot, which may be absent, has added all pairs that are to be found from it by the cells of boxes
pub record FindsSlot (bodies : FinMap nat_cmp Bounds) (slot : ℕ) (old new : List Pair) : Type 0 where
  pub sound : IsSound bodies old → IsSound bodies new
  pub more : HasPairs old new
  pub found : FindsFor cell_of bodies slot new

-- Pairs of boxes that meet were found, among them all that are to be found from some slots by the cells of boxes.
pub record FindsRun (bodies : FinMap nat_cmp Bounds) (slots : List ℕ) (found : List Pair) : Type 0 where
  pub sound : IsSound bodies found
  pub whole : (slot : ℕ) → has_slot slots slot ≡ true → FindsFor cell_of bodies slot found
