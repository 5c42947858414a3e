-- Definitions: searches of slots, where a search is a slot with what it gave.
use Rattle.std.specs.Prelude.{◌≡◌, ℕ, true, List, All}
use Rattle.std.specs.Ordering.{nat_cmp}
use Rattle.std.specs.FinMap.{FinMap, contains_key}
use Rattle.fixed_box.specs.Bounds.{Bounds}
use Rattle.broad_index.specs.Members.{has_slot, is_reached}

-- each search gave what its slot reaches
abbrev pub AreReached : FinMap nat_cmp Bounds → List (ℕ × List ℕ) → Type 0
AreReached bodies rs = All (λ r. (k : ℕ) → has_slot r.1 k ≡ is_reached bodies r.0 k) rs

-- every present slot is in a list
abbrev pub AreAllIn : FinMap nat_cmp Bounds → List ℕ → Type 0
AreAllIn bodies slots = (k : ℕ) → contains_key bodies k ≡ true → has_slot slots k ≡ true
