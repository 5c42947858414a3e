-- What a pointer to a reader owns.
use Rattle.std.specs.Prelude.{Option, Some, None}
use base.Fml.{Fml, ftrue}
use denote.RawPtr.{Ptr}
use Rattle.std.specs.Box.Ownership.{box_owns}
use Rattle.std_heap.specs.declared.Global.{Global}
use Rattle.std_heap.specs.contracts.GlobalAllocator.TheImpl.{ghosts}
use Rattle.held_world.specs.declared.held.HeldWorld.{HeldWorld}
use Rattle.world_reader.specs.contracts.reader.WorldReader.{the_row}

-- the heap of the program
abbrev pub home : Global
home = record { memory = record { seal = tt } }

-- nothing, or the reader with the right to free its block
abbrev pub held_reader : Ptr → Option (Option HeldWorld) → Fml
held_reader p None = ftrue
held_reader p (Some reads) = box_owns (ghosts.dealloc_token home) the_row p reads
