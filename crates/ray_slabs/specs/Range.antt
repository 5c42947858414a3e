-- Serves proofs alone: ranges in which differences fit 64 bits, and the range of an entry.
use Rattle.std.specs.Prelude.{ℤ, pos, neg_ℤ, ◌^◌, ◌≤ℤ◌}
use Rattle.ray_slabs.specs.Crossing.{Fraction}

-- The start and the faces are at most 2^34 from 0, and the direction is at most 2^35.
pub record IsInRange (from dir lo hi : ℤ) : Type 0 where
  pub from_low : neg_ℤ (pos (2 ^ 34)) ≤ℤ from
  pub from_high : from ≤ℤ pos (2 ^ 34)
  pub dir_low : neg_ℤ (pos (2 ^ 35)) ≤ℤ dir
  pub dir_high : dir ≤ℤ pos (2 ^ 35)
  pub lo_low : neg_ℤ (pos (2 ^ 34)) ≤ℤ lo
  pub lo_high : lo ≤ℤ pos (2 ^ 34)
  pub hi_low : neg_ℤ (pos (2 ^ 34)) ≤ℤ hi
  pub hi_high : hi ≤ℤ pos (2 ^ 34)

-- Their differences are at most 2^35, and the way is none below 0.
pub record IsShort (way near far : ℤ) : Type 0 where
  pub way_low : pos 0 ≤ℤ way
  pub way_high : way ≤ℤ pos (2 ^ 35)
  pub near_low : neg_ℤ (pos (2 ^ 35)) ≤ℤ near
  pub near_high : near ≤ℤ pos (2 ^ 35)
  pub far_low : neg_ℤ (pos (2 ^ 35)) ≤ℤ far
  pub far_high : far ≤ℤ pos (2 ^ 35)

-- From 0 on, of numbers that a ray and a box can give.
pub record IsEntry (t : Fraction) : Type 0 where
  pub num_low : pos 0 ≤ℤ t.num
  pub num_high : t.num ≤ℤ pos (2 ^ 35)
  pub den_low : pos 1 ≤ℤ t.den
  pub den_high : t.den ≤ℤ pos (2 ^ 34)
