-- What the structures are known by.
use Rattle.std.specs.Prelude.{Bool, true, false}
use Rattle.named_index.specs.declared.structure.Structure.{Structure}
use Rattle.named_index.specs.declared.structure.Structure.TheVariants.{Sap}

-- whether a structure counts exchanges
abbrev pub counts : Structure → Bool
counts Sap = true
counts other = false
