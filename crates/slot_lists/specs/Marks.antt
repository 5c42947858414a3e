-- Definitions: marks of slots.
use Rattle.std.specs.Prelude.{Bool, false, List, replicate}
use Rattle.fixed_box.specs.declared.TheConstants.{SLOTS}

-- no slot is marked
abbrev pub unmarked : List Bool
unmarked = replicate SLOTS false
