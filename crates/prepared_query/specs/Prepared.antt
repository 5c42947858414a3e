-- Serves proofs alone: a line by its start and its way, and what is kept of it.
use Rattle.std.specs.Prelude.{◌≡◌, zero, suc, ℤ, pos, negsuc, ◌+ℤ◌, Bool, true, false, ◌&&◌, IsTrue}
use Rattle.std.specs.Int.{saturate_signed, w32}
use Rattle.fixed_box.specs.declared.point.Point.{Point}
use Rattle.fixed_box.specs.Bounds.{Bounds, hull}
use Rattle.ray_slabs.specs.Vector.{Vector, widened}
use Rattle.broad_index.specs.declared.query.Query.{Query}
use Rattle.broad_index.specs.declared.query.Query.TheVariants.{Along, Between}
use Rattle.prepared_query.specs.NarrowLine.{is_narrow_vector}
use Rattle.prepared_query.specs.Slope.{Side, course, side, passes}
use Rattle.prepared_query.specs.declared.slopes.Slopes.{Slopes}

-- where a way leads from a point
abbrev pub arrival : Vector → Vector → Vector
arrival from way = record { x = from.x +ℤ way.x; y = from.y +ℤ way.y; z = from.z +ℤ way.z }

-- the segment that ends where it is at the fraction 1, or the ray
abbrev pub line_of : Bool → Vector → Vector → Query
line_of true from dir = Between (record { a = from; b = arrival from dir })
line_of false from dir = Along (record { from = from; dir = dir })

-- the last place of a line on an axis, as far as 32 bits go: a segment's end, or the end of space where a ray moves
abbrev pub end_on : Bool → ℤ → ℤ → ℤ
end_on true from dir = saturate_signed w32 (from +ℤ dir)
end_on false from (pos zero) = from
end_on false from (pos (suc n)) = pos 2147483647
end_on false from (negsuc n) = negsuc 2147483647

abbrev pub end_of : Bool → Point → Point → Point
end_of ends from dir = record { x = end_on ends from.x dir.x; y = end_on ends from.y dir.y; z = end_on ends from.z dir.z }

-- the flat box at a point
abbrev pub flat : Point → Bounds
flat at = record { lo = at; hi = at }

-- the least box of space around a line
abbrev pub line_hull : Bool → Point → Point → Bounds
line_hull ends from dir = hull (flat from) (flat (end_of ends from dir))

-- a box's sides, from a point on
abbrev pub side_x : Point → Bounds → Side
side_x from b = side from.x b.lo.x b.hi.x

abbrev pub side_y : Point → Bounds → Side
side_y from b = side from.y b.lo.y b.hi.y

abbrev pub side_z : Point → Bounds → Side
side_z from b = side from.z b.lo.z b.hi.z

-- The endless line passes through the box of three sides, as it is seen along each axis.
abbrev pub pass_sides : Slopes → Side → Side → Side → Bool
pass_sides s x y z = passes s.xy x y && passes s.xz x z && passes s.yz y z

abbrev pub pass : Slopes → Bounds → Bool
pass s b = pass_sides s (side_x s.from b) (side_y s.from b) (side_z s.from b)

-- a line that starts at a point and goes so far at the fraction 1
abbrev pub slopes_of : Point → Point → Slopes
slopes_of from dir = record { from = from; xy = course dir.x dir.y; xz = course dir.x dir.z; yz = course dir.y dir.z }

-- What is kept is that of one line, which is the query.
pub record IsPrepared (query : Query) (around : Bounds) (seen : Slopes) : Type 0 where
  pub ends : Bool
  pub dir : Point
  pub line : line_of ends (widened seen.from) (widened dir) ≡ query
  pub start : IsTrue (is_narrow_vector (widened seen.from))
  pub hull : around ≡ line_hull ends seen.from dir
  pub slopes : seen ≡ slopes_of seen.from dir
