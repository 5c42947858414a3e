-- What rounding to raw numbers and boxes around floats owe, in whole numbers.
use Rattle.std.specs.Prelude.{◌≡◌, ℕ, ℤ, pos, ◌+ℤ◌, ◌-ℤ◌, ◌*ℤ◌, ◌<ℤ◌, ◌≤ℤ◌, Ok, List, slice_index}
use Rattle.fixed_box.specs.Bounds.{Bounds}
use Rattle.float_bounds.specs.declared.format.Format.{Format}
use Rattle.float_bounds.specs.Format.{raw_step}
use Rattle.float_bounds.specs.Value.{value}

-- r is the greatest raw number at most v least numbers, where a raw unit has so many of them
pub record IsGreatestBelow (step : ℕ) (v r : ℤ) : Type 0 where
  pub at_most : (r *ℤ pos step) ≤ℤ v
  pub next : v <ℤ ((r +ℤ pos 1) *ℤ pos step)

-- r is the least raw number at least v least numbers
pub record IsLeastAbove (step : ℕ) (v r : ℤ) : Type 0 where
  pub at_least : v ≤ℤ (r *ℤ pos step)
  pub before : ((r -ℤ pos 1) *ℤ pos step) <ℤ v

-- a raw interval holds an interval of floats, as values
abbrev pub HoldsInterval : Format → ℤ → ℤ → ℕ → ℕ → Type 0
HoldsInterval f low high lo hi = (v w : ℤ) → value f lo ≡ Ok v → value f hi ≡ Ok w
    → ((low *ℤ pos (raw_step f)) ≤ℤ v) × (w ≤ℤ (high *ℤ pos (raw_step f)))

-- a box of fixed point holds a box of floats: on each axis its interval does
pub record HoldsFloats (f : Format) (b : Bounds) (lo hi : List ℕ) : Type 0 where
  pub x : HoldsInterval f b.lo.x b.hi.x (slice_index lo 0) (slice_index hi 0)
  pub y : HoldsInterval f b.lo.y b.hi.y (slice_index lo 1) (slice_index hi 1)
  pub z : HoldsInterval f b.lo.z b.hi.z (slice_index lo 2) (slice_index hi 2)
