-- Serves proofs alone: slots that are shown one after another, each with its box.
use Rattle.std.specs.Prelude.{◌≡◌, ℕ, List, [], ◌∷◌, ◌++◌, Option, None, Some}
use Rattle.std.specs.Ordering.{nat_cmp}
use Rattle.std.specs.FinMap.{FinMap, get}
use Rattle.fixed_box.specs.Bounds.{Bounds}

-- the entry of a slot, where it has a box
abbrev pub entry_of : ℕ → Option Bounds → List (ℕ × Bounds)
entry_of slot None = []
entry_of slot (Some b) = (slot, b) ∷ []

-- the entries of slots, in their order
abbrev pub entries_at : FinMap nat_cmp Bounds → List ℕ → List (ℕ × Bounds)
entries_at bodies [] = []
entries_at bodies (slot ∷ slots) = entry_of slot (get bodies slot) ++ entries_at bodies slots

-- The entries of the slots before the rest were shown: what had seen some has seen these besides.
pub record HasShown (bodies : FinMap nat_cmp Bounds) (before now : List (ℕ × Bounds) → Type 0) (slots rest : List ℕ) : Type 0 where
  pub shown : List (ℕ × Bounds)
  pub all : shown ++ entries_at bodies rest ≡ entries_at bodies slots
  pub saw : (seen : List (ℕ × Bounds)) → before seen → now (seen ++ shown)
