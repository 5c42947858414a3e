-- What a reader shares with others.
use Rattle.std.specs.Prelude.{Option, Some, None}
use Rattle.std.specs.Arc.{arc_value}
use Rattle.std.specs.declared.boxed.Box.{Box}
use Rattle.std.specs.declared.sync.Arc.{Arc}

-- the value in a box that several own, if there is one
abbrev pub shared_value : {A Y Z : Type 0} → Option (Arc (Box A Y) Z) → Option A
shared_value None = None
shared_value (Some shared) = Some (arc_value shared).value
