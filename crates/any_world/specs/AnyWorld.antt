-- What a world is, whatever its structure is.
use Rattle.std.specs.Prelude.{Bool, true, false}
use Rattle.box_world.specs.Answers.{State}
use Rattle.named_index.specs.declared.structure.Structure.{Structure}
use Rattle.named_index.specs.declared.structure.Structure.TheVariants.{Plain as PlainName, Sap as SapName, Tree as TreeName}
use Rattle.named_index.specs.declared.structure.Structure.TheVariants.{Grid as GridName, Skin as SkinName}
use Rattle.named_index.specs.Structures.{counts}
use Rattle.any_world.specs.declared.any_world.AnyWorld.{AnyWorld}
use Rattle.any_world.specs.declared.any_world.AnyWorld.TheVariants.{Plain, Sap, Tree, Grid, Skin}

-- what a world stands for, whatever its structure is
abbrev pub state_of : AnyWorld → State
state_of (Plain w) = w
state_of (Sap w) = w
state_of (Tree w) = w
state_of (Grid w) = w
state_of (Skin w) = w

-- the structure that keeps the boxes
abbrev pub structure_of : AnyWorld → Structure
structure_of (Plain w) = PlainName
structure_of (Sap w) = SapName
structure_of (Tree w) = TreeName
structure_of (Grid w) = GridName
structure_of (Skin w) = SkinName

-- whether a change may run out of memory over a structure: the tree, the grid and skins have all that they need from the outset
abbrev pub runs_out : Structure → Bool
runs_out TreeName = false
runs_out GridName = false
runs_out SkinName = false
runs_out other = true

-- whether it counts exchanges: as its structure does
abbrev pub counts_of : AnyWorld → Bool
counts_of world = counts (structure_of world)
