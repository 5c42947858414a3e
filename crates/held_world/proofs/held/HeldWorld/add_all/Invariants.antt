-- The boxes come one after another, and the handles of those that came are written.
use Rattle.std.proofs.Common.{◌≡◌, length}
use Rattle.any_world.specs.AnyWorld.{state_of, structure_of, counts_of}
use Rattle.held_world.specs.Changes.{adds, handles_given}
use Rattle.held_world.specs.Plain.{handle_out}
use Rattle.held_world.proofs.BatchUnderWay.{IsUnderWay}
use Rattle.held_world.proofs.RoomFilled.{IsCopying}
use Rattle.held_world.proofs.held.HeldWorld.add_all.Given as goal

abbrev pub invariant-adds : goal.invariant-adds
invariant-adds l = record {
  batch : IsUnderWay (adds (counts_of l.fn.self.world) l.masks l.group) l.boxes l.rest l.count (state_of l.fn.self.world) (state_of l.self.world);
  handles : let counts = counts_of l.fn.self.world in
      IsCopying handle_out (handles_given counts l.masks l.group (state_of l.fn.self.world).time.now l.boxes)
      (handles_given counts l.masks l.group (state_of l.self.world).time.now l.rest) l.count l.fn.out l.out;
  structure : structure_of l.self.world ≡ structure_of l.fn.self.world;
  room : l.self.room ≡ l.fn.self.room;
}

abbrev pub decreases-adds : goal.decreases-adds
decreases-adds l = length l.rest
