-- What a table of counts means: a list for each slot, with its counts with lower slots.
use Rattle.std.specs.Prelude.{◌≢◌, ℕ, ◌<◌, ◌≤◌, nat_lt, if◌then◌else◌, List, [], slice_index, slice_index_or}
use Rattle.fixed_box.specs.declared.TheConstants.{SLOTS}

-- the count of a pair of slots, and 0 where a isn't below b
abbrev pub count_of : List (List ℕ) → ℕ → ℕ → ℕ
count_of by_slot a b = if nat_lt a b then slice_index (slice_index_or by_slot b []) a else 0

-- what holds of every table
pub record IsCounts (by_slot : List (List ℕ)) : Type 0 where
  pub small : (a b : ℕ) → count_of by_slot a b ≤ 3
  pub known : (a b : ℕ) → count_of by_slot a b ≢ 0 → (a < b) × (b < SLOTS)
