-- What a table of cells means: the slots of a cell and of a level, of a map from slot to key.
use Rattle.std.specs.Prelude.{◌≡◌, ℕ, ◌+◌, ◌*◌, ◌%◌, ℤ, ◌≤ℤ◌, ◌<ℤ◌, Bool, true, false, ◌&&◌, ◌||◌, ◌==◌, List, [], ◌∷◌, ◌++◌, map, filter, Some, refl}
use Rattle.std.specs.Int.{cast_unsigned, w32}
use Rattle.std.specs.Coded.{Coded, code_by, coded×, coded_ℤ, coded_ℕ}
use Rattle.std.specs.Ordering.{nat_cmp, int_eq}
use Rattle.std.specs.FinMap.{FinMap, entries, get, contains_key}
use Rattle.cell_table.specs.declared.TheConstants.{BUCKETS}
use Rattle.cell_table.specs.declared.cell_key.CellKey.{CellKey}

-- a key is stored as the tuple of its fields
abbrev pub coded_key : Coded CellKey
coded_key =
    code_by (ℕ × (ℤ × (ℤ × ℤ))) (coded× coded_ℕ (coded× coded_ℤ (coded× coded_ℤ coded_ℤ))) (λ k. (k.level, (k.x, (k.y, k.z))))
    (λ t. record { level = t.0; x = t.1.0; y = t.1.1.0; z = t.1.1.1 }) (λ _. refl)

-- two keys are one
abbrev pub same_cell : CellKey → CellKey → Bool
same_cell a b = a.level == b.level && int_eq a.x b.x && int_eq a.y b.y && int_eq a.z b.z

-- the bucket that a key is hashed into
abbrev pub bucket_of : CellKey → ℕ
bucket_of k = (cast_unsigned w32 k.x * 7539 + cast_unsigned w32 k.y * 2395 + cast_unsigned w32 k.z + k.level * 5003) % BUCKETS

-- the slots with exactly this key, rising as the entries of a map do
abbrev pub slots_in : FinMap nat_cmp CellKey → CellKey → List ℕ
slots_in cells key = map (λ e. e.0) (filter (λ e. same_cell e.1 key) (entries cells))

-- the slots whose keys have a level, rising
abbrev pub slots_at : FinMap nat_cmp CellKey → ℕ → List ℕ
slots_at cells level = map (λ e. e.0) (filter (λ e. e.1.level == level) (entries cells))

-- whether a slot is among these
abbrev pub has : List ℕ → ℕ → Bool
has [] slot = false
has (x ∷ xs) slot = (x == slot) || has xs slot

-- each is there at most once
abbrev pub IsDistinct : List ℕ → Type 0
IsDistinct [] = Unit {0}
IsDistinct (x ∷ xs) = (has xs x ≡ false) × IsDistinct xs

-- Slots that have keys are appended, among them all with keys in a row of cells, from that of a key on and below an end of z.
pub record VisitsRow (cells : FinMap nat_cmp CellKey) (key : CellKey) (end : ℤ) (old new : List ℕ) : Type 0 where
  pub slots : List ℕ
  pub appended : new ≡ old ++ slots
  pub members : (z : ℤ) (slot : ℕ) → key.z ≤ℤ z → z <ℤ end → get cells slot ≡ Some (record key { z = z }) → has slots slot ≡ true
  pub present : (slot : ℕ) → has slots slot ≡ true → contains_key cells slot ≡ true
