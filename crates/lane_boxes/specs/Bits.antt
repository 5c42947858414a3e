-- Serves proofs alone: the places of the bits of a number.
use Rattle.std.specs.Prelude.{ℕ, zero, suc, ◌+◌, ◌/◌, ◌%◌, ◌==◌, List, [], ◌∷◌, if◌then◌else◌}

-- the places of the bits that are set among the lowest, counted from a number on
unfoldable pub set_places : ℕ → ℕ → ℕ → List ℕ
set_places zero from bits = []
set_places (suc n) from bits = let later = set_places n (from + 1) (bits / 2) in if bits % 2 == 1 then from ∷ later else later
