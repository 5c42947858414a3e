-- Definitions: an index at the outset.
use Rattle.std.specs.Prelude.{◌≡◌, ℕ, Bool, false}
use Rattle.std.specs.Ordering.{nat_cmp}
use Rattle.std.specs.FinMap.{FinMap, empty}
use Rattle.fixed_box.specs.Bounds.{Bounds}

-- of its boxes, its mark of want of memory and its number of exchanges: as a play may begin with
pub record IsFresh (bodies : FinMap nat_cmp Bounds) (spent : Bool) (exchanges : ℕ) : Type 0 where
  pub none : bodies ≡ empty
  pub sound : spent ≡ false
  pub uncounted : exchanges ≡ 0
