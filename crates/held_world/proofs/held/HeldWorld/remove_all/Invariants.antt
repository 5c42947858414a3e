-- The boxes go one after another.
use Rattle.std.proofs.Common.{◌≡◌, length}
use Rattle.any_world.specs.AnyWorld.{state_of, structure_of}
use Rattle.held_world.specs.Changes.{removes}
use Rattle.held_world.proofs.BatchUnderWay.{IsUnderWay}
use Rattle.held_world.proofs.held.HeldWorld.remove_all.Given as goal

abbrev pub invariant-removes : goal.invariant-removes
invariant-removes l = record {
  batch : IsUnderWay removes l.handles l.rest l.count (state_of l.fn.self.world) (state_of l.self.world);
  spent : (state_of l.self.world).spent ≡ (state_of l.fn.self.world).spent;
  structure : structure_of l.self.world ≡ structure_of l.fn.self.world;
  room : l.self.room ≡ l.fn.self.room;
}

abbrev pub decreases-removes : goal.decreases-removes
decreases-removes l = length l.rest
