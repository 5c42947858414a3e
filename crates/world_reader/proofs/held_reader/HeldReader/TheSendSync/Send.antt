-- What a pointer to a reader owns may go to another thread, since a reader may.
use base.Fraction.{full_share}
use mir.Raw.{raw}
use base.Shift.{Keyless}
use denote.Memory.{lone}
use denote.RawPtr.{Ptr, block_ptr, null_ptr}
use denote.Param.Send.{IsSend, owning_send, sendable, part_keyless}
use Rattle.std.specs.Prelude.{Option, Some, None}
use Rattle.std.proofs.Crossing.{frees}
use Rattle.held_world.specs.declared.held.HeldWorld.{HeldWorld}
use Rattle.world_reader.proofs.reader.WorldReader.TheSendSync.{the_send as reader_send}
use Rattle.world_reader.specs.contracts.reader.WorldReader as reader
use Rattle.world_reader.specs.HeldReader.{held_reader, home}
use Rattle.world_reader.specs.contracts.held_reader.HeldReader.{the_row, the_type}

owned_keyless : (p : Ptr) (x : Option (Option HeldWorld)) → Keyless (held_reader p x)
owned_keyless p None = tt
owned_keyless null_ptr (Some reads) = (tt, frees.frees home (raw (lone reader.the_row.mir)) null_ptr)
owned_keyless (block_ptr b o) (Some reads) =
    (part_keyless reader.the_row reader_send full_share reads b o, frees.frees home (raw (lone reader.the_row.mir)) (block_ptr b o))

pub send : IsSend the_row
send = owning_send the_type (search sendable, tt) (λ d. owned_keyless d.at d.inner) (λ k x w. tt)
