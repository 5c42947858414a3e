-- The questions so far are answered, or the one at hand is none.
use Rattle.std.proofs.Common.{◌≡◌, ◌-◌, length}
use Rattle.any_world.specs.AnyWorld.{state_of}
use Rattle.held_world.specs.declared.TheConstants.{OK}
use Rattle.held_world.proofs.EachAnswered.{AreFound}
use Rattle.held_world.proofs.room.HeldRoom.hits_each.Given as goal

abbrev pub invariant-queries : goal.invariant-queries
invariant-queries l = record {
  found : let state = state_of l.world in
      AreFound state.time.now.table.entries state.spent l.queries l.count l.self.found.items l.fn.ends l.ends;
  ok : l.status ≡ OK;
}

abbrev pub decreases-queries : goal.decreases-queries
decreases-queries l = length l.queries - l.count
