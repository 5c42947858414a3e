-- What the moves of a tick make of the bodies.
use Rattle.std.specs.Prelude.{ℕ, List, [], ◌∷◌}
use Rattle.std.specs.Ordering.{nat_cmp}
use Rattle.std.specs.FinMap.{FinMap, insert}
use Rattle.fixed_box.specs.Bounds.{Bounds}

-- each move gives its slot another box, one after the other
abbrev pub moved_all : FinMap nat_cmp Bounds → List (ℕ × Bounds) → FinMap nat_cmp Bounds
moved_all bodies [] = bodies
moved_all bodies (m ∷ later) = moved_all (insert bodies m.0 m.1) later
