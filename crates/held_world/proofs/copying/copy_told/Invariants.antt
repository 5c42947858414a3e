-- The events are copied one after another, up to the end of the room or until none is left.
use Rattle.std.proofs.Common.{◌-◌, length, drop}
use Rattle.held_world.specs.Plain.{told_out}
use Rattle.held_world.proofs.RoomFilled.{IsCopying}
use Rattle.held_world.proofs.copying.copy_told.Given as goal

abbrev pub invariant-copies : goal.invariant-copies
invariant-copies l = IsCopying told_out (drop l.from l.fn.events) l.rest l.count l.fn.out l.out

abbrev pub decreases-copies : goal.decreases-copies
decreases-copies l = length l.out - l.count
