-- What a box sweeps over while it is moved along a line.
use Rattle.std.specs.Prelude.{◌+ℤ◌}
use Rattle.std.specs.Int.{saturate_signed, w32}
use Rattle.fixed_box.specs.Bounds.{Bounds, hull}
use Rattle.fixed_box.specs.declared.point.Point.{Point}

-- the point moved, each coordinate stopped at the ends of 32 bits
abbrev pub moved_point : Point → Point → Point
moved_point p v = record { x = saturate_signed w32 (p.x +ℤ v.x); y = saturate_signed w32 (p.y +ℤ v.y); z = saturate_signed w32 (p.z +ℤ v.z) }

-- a box displaced, as far as 32 bits go
abbrev pub displaced : Bounds → Point → Bounds
displaced c v = record { lo = moved_point c.lo v; hi = moved_point c.hi v }

-- the least box that encloses the box before it is moved and after
abbrev pub cast_hull : Bounds → Point → Bounds
cast_hull c v = hull c (displaced c v)
