-- What a pointer owns that C holds.
use Rattle.std.specs.Prelude.{Option, Some, None}
use base.Fml.{Fml, ftrue}
use denote.RawPtr.{Ptr, null_ptr}
use Rattle.std.specs.Box.Ownership.{box_owns}
use Rattle.std_heap.specs.declared.Global.{Global}
use Rattle.std_heap.specs.contracts.GlobalAllocator.TheImpl.{ghosts}
use Rattle.held_world.specs.declared.held.HeldWorld.{HeldWorld}
use Rattle.held_world.specs.contracts.held.HeldWorld.{the_row}

-- the heap of the program
abbrev pub home : Global
home = record { memory = record { seal = tt } }

-- nothing, or the world with the right to free its block
abbrev pub held : Ptr → Option HeldWorld → Fml
held p None = ftrue
held p (Some w) = box_owns (ghosts.dealloc_token home) the_row p w

-- the zero word
abbrev pub nowhere : Ptr
nowhere = null_ptr
