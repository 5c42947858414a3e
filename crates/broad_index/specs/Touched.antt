-- Definitions: pairs that are kept, and those that are sought anew for marked slots.
use Rattle.std.specs.Prelude.{◌≡◌, ℕ, Bool, true, false, not, if◌then◌else◌, ◌&&◌, nat_lt, List, [], ◌∷◌, ◌++◌, map, slice_index_or}
use Rattle.std.specs.Ordering.{nat_cmp}
use Rattle.std.specs.FinMap.{FinMap, contains_key}
use Rattle.fixed_box.specs.Bounds.{Bounds}
use Rattle.broad_index.specs.declared.pair.Pair.{Pair}
use Rattle.broad_index.specs.Members.{has_pair, has_slot, is_near}

-- two slots, the lower one first
abbrev pub ordered : ℕ → ℕ → Pair
ordered s k = if nat_lt s k then record { a = s; b = k } else record { a = k; b = s }

-- a slot with each slot of a list
abbrev pub ordered_pairs : ℕ → List ℕ → List Pair
ordered_pairs slot slots = map (ordered slot) slots

-- each slot with those that its search gave
abbrev pub gathered_with : List (ℕ × List ℕ) → List Pair
gathered_with [] = []
gathered_with (r ∷ rs) = ordered_pairs r.0 r.1 ++ gathered_with rs

-- neither slot of a pair is marked
abbrev pub stays : List Bool → Pair → Bool
stays marks p = not (slice_index_or marks p.a false) && not (slice_index_or marks p.b false)

-- whether a list of kept pairs is right but for marked slots
abbrev pub AreKept : FinMap nat_cmp Bounds → List Bool → List Pair → Type 0
AreKept bodies marks kept = (p : Pair) → stays marks p ≡ true → has_pair kept p ≡ is_near bodies p

-- the marked slots among the present ones are those of a list
abbrev pub AreMarked : FinMap nat_cmp Bounds → List Bool → List ℕ → Type 0
AreMarked bodies marks slots = (k : ℕ) → contains_key bodies k ≡ true → slice_index_or marks k false ≡ has_slot slots k

-- Kept pairs are right but for marked slots, and those with a marked slot were found.
pub record Renewed (bodies : FinMap nat_cmp Bounds) (marks : List Bool) (kept found : List Pair) : Type 0 where
  pub kept_is : AreKept bodies marks kept
  pub found_is : (p : Pair) → has_pair found p ≡ (is_near bodies p && not (stays marks p))
