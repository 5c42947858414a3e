-- Definitions: lists in rising order, whatever their elements and whichever the order.
use Rattle.std.specs.Prelude.{Bool, true, ◌&&◌, List, [], ◌∷◌}
use Rattle.std.specs.List.{list_all}

-- each element stands before all later ones
abbrev pub rises_by : {X : Type 0} → (X → X → Bool) → List X → Bool
rises_by lt [] = true
rises_by lt (x ∷ later) = list_all (lt x) later && rises_by lt later
