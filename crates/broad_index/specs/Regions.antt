-- Serves proofs alone: where in space the region of a ray or a segment lies.
use Rattle.std.specs.Prelude.{◌≡◌, ◌⊎◌, ℤ, pos, negsuc, ◌≤ℤ◌, ◌<ℤ◌}
use Rattle.fixed_box.specs.Bounds.{Bounds}
use Rattle.fixed_box.specs.declared.point.Point.{Point}

-- n is the number of 32 bits nearest to x, so what bounds x from above or from below, and is in reach of 32 bits, bounds n as well.
pub record IsNearest (x n : ℤ) : Type 0 where
  pub below : (end : ℤ) → x ≤ℤ end → negsuc 2147483647 ≤ℤ end → n ≤ℤ end
  pub above : (end : ℤ) → end ≤ℤ x → end ≤ℤ pos 2147483647 → end ≤ℤ n

-- n is the end of space in a direction that isn't 0
pub record IsFar (dir n : ℤ) : Type 0 where
  pub up : pos 0 <ℤ dir → n ≡ pos 2147483647
  pub down : dir <ℤ pos 0 → n ≡ negsuc 2147483647

-- on an axis an interval from lo to hi has a place that lies between p and r
pub record IsTouched (p r lo hi : ℤ) : Type 0 where
  pub below : (p ≤ℤ hi) ⊎ (r ≤ℤ hi)
  pub above : (lo ≤ℤ p) ⊎ (lo ≤ℤ r)

-- the same on each axis
pub record AreTouched (p r : Point) (b : Bounds) : Type 0 where
  pub x : IsTouched p.x r.x b.lo.x b.hi.x
  pub y : IsTouched p.y r.y b.lo.y b.hi.y
  pub z : IsTouched p.z r.z b.lo.z b.hi.z
