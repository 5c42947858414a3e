-- The items are copied one after another, up to the end of either list.
use Rattle.std.proofs.Common.{length}
use Rattle.held_world.specs.Plain.{handle_out}
use Rattle.held_world.proofs.RoomFilled.{IsCopying}
use Rattle.held_world.proofs.copying.copy_handles.Given as goal

abbrev pub invariant-copies : goal.invariant-copies
invariant-copies l = IsCopying handle_out l.items l.rest l.count l.fn.out l.out

abbrev pub decreases-copies : goal.decreases-copies
decreases-copies l = length l.rest
