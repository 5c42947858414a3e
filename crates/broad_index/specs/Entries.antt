-- Serves proofs alone: slots in order, and beside each its box.
use Rattle.std.specs.Prelude.{◌≡◌, ℕ, ◌<◌, ◌≤◌, Bool, true, false, nat_lt, T, IsTrue, List, length, map, zip, slice_get, slice_index_or, All}
use Rattle.std.specs.List.{AllWithin}
use Rattle.std.specs.Ordering.{nat_cmp}
use Rattle.std.specs.FinMap.{is_sorted}
use Rattle.fixed_box.specs.Bounds.{Bounds, meets}
use Rattle.fixed_box.specs.declared.TheConstants.{SLOTS}
use Rattle.broad_index.specs.declared.pair.Pair.{Pair}
use Rattle.broad_index.specs.declared.query.Query.{Query}
use Rattle.broad_index.specs.Members.{meets_query}
use Rattle.fixed_box.specs.Space.{space}

-- the slots rise, and are slots, and the boxes lie in space
pub record AreEntries (slots : List ℕ) (boxes : List Bounds) : Type 0 where
  pub same : length slots ≡ length boxes
  pub sorted : T (is_sorted nat_cmp (zip slots boxes))
  pub small : All (λ slot. slot < SLOTS) slots
  pub in_space : All (λ b. IsTrue (meets space b)) boxes

-- a slot with those at places of a list
abbrev pub pairs_at : ℕ → List ℕ → List ℕ → List Pair
pairs_at slot slots places = map (λ k. record { a = slot; b = slice_index_or slots k 0 }) places

-- whether the box at a place meets a query
abbrev pub is_met_at : List Bounds → Query → ℕ → Bool
is_met_at boxes query k = meets_query query (slice_get boxes k)

-- where the entries below a slot end
pub record Placed (es : List (ℕ × Bounds)) (slot at : ℕ) : Type 0 where
  pub bound : at ≤ length es
  pub below : AllWithin (λ e. nat_lt e.0 slot ≡ true) es 0 at
  pub above : AllWithin (λ e. nat_lt e.0 slot ≡ false) es at (length es)
