-- Definitions: columns, as clauses see them.
use Rattle.std.specs.Prelude.{ℕ, List}
use Rattle.fixed_box.specs.Bounds.{Bounds}

-- The boxes in their order, and for how many more there is room.
pub record Boxes : Type 0 where
  pub boxes : List Bounds
  pub spare : ℕ
