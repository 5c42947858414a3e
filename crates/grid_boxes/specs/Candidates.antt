-- Definitions: the slots among which a search of a grid's boxes finds what it looks for, and which levels have boxes.
use Rattle.std.specs.Prelude.{◌≡◌, ℕ, ◌<◌, ◌≤◌, true, List, Some}
use Rattle.std.specs.Ordering.{nat_cmp}
use Rattle.std.specs.FinMap.{FinMap, get}
use Rattle.fixed_box.specs.Bounds.{Bounds, meets, level_of}
use Rattle.broad_index.specs.declared.query.Query.{Query}
use Rattle.broad_index.specs.Found.{query_meets}
use Rattle.cell_table.specs.declared.TheConstants.{LEVELS}
use Rattle.grid_cells.specs.Appended.{HasWhere}
use Rattle.grid_cells.specs.Cells.{cell_of, cell_on, IsAfter}

-- the slots of a level whose boxes meet a region are in a list
abbrev pub HasMet : FinMap nat_cmp Bounds → ℕ → Bounds → List ℕ → Type 0
HasMet bodies level region = HasWhere bodies (λ b. (level_of b ≡ level) × (meets region b ≡ true))

-- the same of the levels from one on and below an end
abbrev pub HasMetIn : FinMap nat_cmp Bounds → ℕ → ℕ → Bounds → List ℕ → Type 0
HasMetIn bodies first end region = HasWhere bodies (λ b. (level_of b < end) × ((first ≤ level_of b) × (meets region b ≡ true)))

-- the slots of a level whose boxes meet a body, and lie in cells after that of its lower corner, are in a list
abbrev pub HasMetAfter : FinMap nat_cmp Bounds → ℕ → Bounds → List ℕ → Type 0
HasMetAfter bodies level body = HasWhere bodies (λ b. (level_of b ≡ level) × (IsAfter (cell_of b) (cell_on level body.lo) × (meets body b ≡ true)))

-- a box that all boxes meet which meet a query
abbrev pub IsRegionOf : FinMap nat_cmp Bounds → Query → Bounds → Type 0
IsRegionOf bodies query region = (q : ℕ) (b : Bounds) → get bodies q ≡ Some b → query_meets query b ≡ true → meets region b ≡ true

-- the slots of a level whose boxes meet a region and a query are in a list
abbrev pub HasHits : FinMap nat_cmp Bounds → ℕ → Bounds → Query → List ℕ → Type 0
HasHits bodies level region query = HasWhere bodies (λ b. (level_of b ≡ level) × ((meets region b ≡ true) × (query_meets query b ≡ true)))

-- the same of the levels below an end
abbrev pub HasHitsIn : FinMap nat_cmp Bounds → ℕ → Bounds → Query → List ℕ → Type 0
HasHitsIn bodies end region query = HasWhere bodies (λ b. (level_of b < end) × ((meets region b ≡ true) × (query_meets query b ≡ true)))

-- the slots of the levels below an end whose boxes meet a query are in a list
abbrev pub HasHitsBelow : FinMap nat_cmp Bounds → ℕ → Query → List ℕ → Type 0
HasHitsBelow bodies end query = HasWhere bodies (λ b. (level_of b < end) × (query_meets query b ≡ true))

-- a level has no box
abbrev pub IsBare : FinMap nat_cmp Bounds → ℕ → Type 0
IsBare bodies level = (q : ℕ) (b : Bounds) → get bodies q ≡ Some b → level_of b ≡ level → ⊥

-- a level above those of all boxes
abbrev pub IsAbove : FinMap nat_cmp Bounds → ℕ → Type 0
IsAbove bodies end = (q : ℕ) (b : Bounds) → get bodies q ≡ Some b → level_of b < end

-- such a level, or the number of levels
pub record IsEnd (bodies : FinMap nat_cmp Bounds) (end : ℕ) : Type 0 where
  pub bound : end ≤ LEVELS
  pub above : IsAbove bodies end
