-- Definitions: boxes under slots, as the owner of an index has them.
use Rattle.std.specs.Prelude.{◌≡◌, ℕ, IsTrue, Some}
use Rattle.std.specs.Ordering.{nat_cmp}
use Rattle.std.specs.FinMap.{FinMap, get}
use Rattle.fixed_box.specs.Bounds.{Bounds, meets}
use Rattle.fixed_box.specs.Space.{space}

-- the boxes lie in space
abbrev pub AreInSpace : FinMap nat_cmp Bounds → Type 0
AreInSpace bodies = (slot : ℕ) (b : Bounds) → get bodies slot ≡ Some b → IsTrue (meets space b)

-- each slot of one map is in the other with the same box
abbrev pub AreAmong : FinMap nat_cmp Bounds → FinMap nat_cmp Bounds → Type 0
AreAmong bodies index = (slot : ℕ) (b : Bounds) → get bodies slot ≡ Some b → get index slot ≡ Some b
