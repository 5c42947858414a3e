-- Definitions: the slots of a map.
use Rattle.std.specs.Prelude.{ℕ, List, map}
use Rattle.std.specs.Ordering.{nat_cmp}
use Rattle.std.specs.FinMap.{FinMap, entries}
use Rattle.fixed_box.specs.Bounds.{Bounds}

-- all present slots, rising
abbrev pub present : FinMap nat_cmp Bounds → List ℕ
present bodies = map (λ e. e.0) (entries bodies)
