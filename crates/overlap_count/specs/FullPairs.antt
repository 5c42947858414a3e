-- The pairs that overlap on all three axes.
use Rattle.std.specs.Prelude.{ℕ, zero, suc, Bool, ◌==◌, if◌then◌else◌, List, [], ◌∷◌, ◌++◌}
use Rattle.fixed_box.specs.declared.TheConstants.{SLOTS}
use Rattle.broad_index.specs.declared.pair.Pair.{Pair}
use Rattle.overlap_count.specs.Counts.{count_of}

-- of slot a, with those of the first n slots that pass a test
unfoldable pub pairs_with : ℕ → (ℕ → Bool) → ℕ → List Pair
pairs_with a passes zero = []
pairs_with a passes (suc n) = pairs_with a passes n ++ (if passes n then record { a = a; b = n } ∷ [] else [])

-- of the first n slots, with all slots that pass a test with them
unfoldable pub pairs_below : (ℕ → ℕ → Bool) → ℕ → List Pair
pairs_below passes zero = []
pairs_below passes (suc n) = pairs_below passes n ++ pairs_with n (passes n) SLOTS

-- all pairs whose count is 3, by a and then by b
abbrev pub full_pairs : List (List ℕ) → List Pair
full_pairs by_slot = pairs_below (λ a b. count_of by_slot a b == 3) SLOTS
