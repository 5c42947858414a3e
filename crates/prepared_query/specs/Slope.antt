-- Serves proofs alone: a line seen along an axis, on the plane of the other two, and the rectangles that it passes through.
use Rattle.std.specs.Prelude.{suc, ℤ, pos, negsuc, neg_ℤ, ◌^◌, ◌-ℤ◌, ◌*ℤ◌, ◌≤ℤ◌, ◌<ℤ◌, Bool, cond, ◌&&◌, int_le}

-- The way on the first axis and on the second, turned about where it falls on the second.
pub record Course : Type 0 where
  pub run : ℤ
  pub rise : ℤ

abbrev pub course : ℤ → ℤ → Course
course run (pos n) = record { run = run; rise = pos n }
course run (negsuc n) = record { run = neg_ℤ run; rise = pos (suc n) }

-- A side of a rectangle, from the line's start on.
pub record Side : Type 0 where
  pub lo : ℤ
  pub hi : ℤ

abbrev pub side : ℤ → ℤ → ℤ → Side
side from lo hi = record { lo = lo -ℤ from; hi = hi -ℤ from }

-- a side grown by the one from near to far of a moved box, from near on
abbrev pub grown : ℤ → ℤ → ℤ → ℤ → Side
grown near far lo hi = record { lo = lo -ℤ far; hi = hi -ℤ near }

-- The endless line passes through the rectangle of two sides, whose border belongs to it. Where it rises from the left to the right, the upper left
-- corner is not below it, and the lower right one not above. Where it falls, the lower left one is not above it, and the upper right one not below.
abbrev pub passes : Course → Side → Side → Bool
passes c x y = cond (int_le (pos 0) c.run)
    (int_le (x.lo *ℤ c.rise) (y.hi *ℤ c.run) && int_le (y.lo *ℤ c.run) (x.hi *ℤ c.rise))
    (int_le (x.lo *ℤ c.rise) (y.lo *ℤ c.run) && int_le (y.hi *ℤ c.run) (x.hi *ℤ c.rise))

-- A way is at most 2^31, so that its product with a difference of two numbers of 32 bits fits 64.
pub record IsWay (way : ℤ) : Type 0 where
  pub low : neg_ℤ (pos (2 ^ 31)) ≤ℤ way
  pub high : way ≤ℤ pos (2 ^ 31)

pub record IsGap (gap : ℤ) : Type 0 where
  pub low : neg_ℤ (pos (2 ^ 32)) <ℤ gap
  pub high : gap <ℤ pos (2 ^ 32)
