-- Points against each other, and corners made of them.
use Rattle.std.specs.Prelude.{ℕ, ℤ, pos, ◌+ℤ◌, ◌-ℤ◌, Bool, ◌&&◌, int_le}
use Rattle.std.specs.Int.{int_min, int_max, saturate_signed, w32}
use Rattle.fixed_box.specs.declared.point.Point.{Point}

-- each coordinate of p is at most that of q
abbrev pub is_at_most : Point → Point → Bool
is_at_most p q = int_le p.x q.x && int_le p.y q.y && int_le p.z q.z

-- the lesser coordinate on each axis
abbrev pub lower_corner : Point → Point → Point
lower_corner p q = record { x = int_min p.x q.x; y = int_min p.y q.y; z = int_min p.z q.z }

-- the greater coordinate on each axis
abbrev pub upper_corner : Point → Point → Point
upper_corner p q = record { x = int_max p.x q.x; y = int_max p.y q.y; z = int_max p.z q.z }

-- a coordinate moved down, stopped at the least number of 32 bits
abbrev pub lowered : ℤ → ℕ → ℤ
lowered x by = saturate_signed w32 (x -ℤ pos by)

-- a coordinate moved up, stopped at the greatest number of 32 bits
abbrev pub raised : ℤ → ℕ → ℤ
raised x by = saturate_signed w32 (x +ℤ pos by)

-- each coordinate moved down
abbrev pub lowered_corner : Point → ℕ → Point
lowered_corner p by = record { x = lowered p.x by; y = lowered p.y by; z = lowered p.z by }

-- each coordinate moved up
abbrev pub raised_corner : Point → ℕ → Point
raised_corner p by = record { x = raised p.x by; y = raised p.y by; z = raised p.z by }
