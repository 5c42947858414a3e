-- The casts so far are answered.
use Rattle.std.proofs.Common.{◌≡◌, ◌-◌, length}
use Rattle.any_world.specs.AnyWorld.{state_of}
use Rattle.held_world.specs.Firsts.{AsksFirstCast}
use Rattle.held_world.specs.Plain.{cast_in}
use Rattle.held_world.proofs.EachAnswered.{AreAnswered}
use Rattle.held_world.proofs.room.HeldRoom.first_cast_each.Given as goal

abbrev pub invariant-casts : goal.invariant-casts
invariant-casts l = record {
  answered : let state = state_of l.world in
      AreAnswered (λ cast. AsksFirstCast (cast_in cast) state.time.now.table.entries cast.mask state.spent) l.casts l.count l.fn.out l.out;
  same : l.self ≡ l.fn.self;
}

abbrev pub decreases-casts : goal.decreases-casts
decreases-casts l = length l.casts - l.count
