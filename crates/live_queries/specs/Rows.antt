-- Serves worked examples alone: a few live boxes, a ray and boxes that are cast, in raw units of 1/65,536.
use Rattle.std.specs.Prelude.{ℕ, ◌*◌, ℤ, pos, false, List, [], ◌∷◌, map}
use Rattle.fixed_box.specs.declared.point.Point.{Point}
use Rattle.fixed_box.specs.Bounds.{Bounds}
use Rattle.ray_slabs.specs.declared.ray.Ray.{Ray}
use Rattle.box_cast.specs.declared.cast.Cast.{Cast}
use Rattle.live_table.specs.declared.live.Live.{Live}
use Rattle.live_table.specs.Example.{under}

-- live boxes of the groups `is`, each the first under its slot
abbrev pub lives : ℕ → List (ℕ × Bounds) → List Live
lives is es = map (λ e. record { handle = under e.0 0; body = e.1; masks = record { is = is; sees = 1 }; group = record { owner = 0; fixed = false } }) es

abbrev pub at : ℤ → ℤ → ℤ → Point
at x y z = record { x = x; y = y; z = z }

-- a box between two whole units on the x axis, and one unit wide on the others
abbrev pub between : ℕ → ℕ → Bounds
between a b = record { lo = at (pos (a * 65536)) (pos 0) (pos 0); hi = at (pos (b * 65536)) (pos 65536) (pos 65536) }

-- a flat box on the x axis
abbrev pub flat : ℕ → Bounds
flat x = record { lo = at (pos x) (pos 0) (pos 0); hi = at (pos x) (pos 0) (pos 0) }

-- a ray along the x axis, in the middle of such boxes
abbrev pub ray_from : ℕ → Ray
ray_from x = record { from = record { x = pos x; y = pos 32768; z = pos 32768 }; dir = record { x = pos 65536; y = pos 0; z = pos 0 } }

-- a box that is cast along the x axis
abbrev pub moved_by : Bounds → ℤ → Cast
moved_by body x = record { body = body; by = at x (pos 0) (pos 0) }

-- one box behind two that begin at one place, the nearer end of which stands under the lower slot
abbrev pub three_ahead : List (ℕ × Bounds)
three_ahead = (0, between 5 6) ∷ (1, between 2 3) ∷ (2, between 2 9) ∷ []

abbrev pub two_ahead : List (ℕ × Bounds)
two_ahead = (0, between 10 11) ∷ (1, between 5 6) ∷ []

abbrev pub at_the_end : List (ℕ × Bounds)
at_the_end = (0, flat 2147418112) ∷ []
