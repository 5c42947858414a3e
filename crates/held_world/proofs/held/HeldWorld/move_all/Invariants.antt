-- The boxes move one after another.
use Rattle.std.proofs.Common.{◌≡◌, ◌+◌, length, drop, zip}
use Rattle.any_world.specs.AnyWorld.{state_of, structure_of, counts_of}
use Rattle.held_world.specs.Changes.{moves}
use Rattle.held_world.proofs.BatchUnderWay.{IsUnderWay}
use Rattle.held_world.proofs.held.HeldWorld.move_all.Given as goal

abbrev pub invariant-moves : goal.invariant-moves
invariant-moves l = record {
  batch : IsUnderWay (moves (counts_of l.fn.self.world)) (zip l.handles l.boxes) (zip l.rest (drop l.count l.boxes)) l.count
      (state_of l.fn.self.world) (state_of l.self.world);
  left : l.count + length l.rest ≡ length l.handles;
  structure : structure_of l.self.world ≡ structure_of l.fn.self.world;
  room : l.self.room ≡ l.fn.self.room;
}

abbrev pub decreases-moves : goal.decreases-moves
decreases-moves l = length l.rest
