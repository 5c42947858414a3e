-- The rays so far are answered.
use Rattle.std.proofs.Common.{◌≡◌, ◌-◌, length}
use Rattle.live_queries.specs.First.{IsFirstEntered}
use Rattle.any_world.specs.AnyWorld.{state_of}
use Rattle.held_world.specs.Firsts.{AsksFirst}
use Rattle.held_world.specs.Plain.{groups_in, ray_in}
use Rattle.held_world.proofs.EachAnswered.{AreAnswered}
use Rattle.held_world.proofs.room.HeldRoom.first_entered_each.Given as goal

abbrev pub invariant-rays : goal.invariant-rays
invariant-rays l = record {
  answered : let state = state_of l.world in
      AreAnswered (λ ray. AsksFirst (IsFirstEntered state.time.now.table.entries (ray_in ray) (groups_in ray.mask)) state.spent) l.rays l.count l.fn.out l.out;
  same : l.self ≡ l.fn.self;
}

abbrev pub decreases-rays : goal.decreases-rays
decreases-rays l = length l.rays - l.count
