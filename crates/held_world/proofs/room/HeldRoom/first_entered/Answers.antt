-- The ray as the world knows it, and what it meets first.
use Rattle.std.proofs.Common.{subst}
use Rattle.ray_slabs.specs.declared.ray.Ray.{Ray}
use Rattle.live_queries.specs.declared.groups.Groups.{Groups}
use Rattle.live_queries.specs.First.{IsFirstEntered}
use Rattle.any_world.specs.AnyWorld.{state_of}
use Rattle.held_world.specs.Firsts.{AsksFirst}
use Rattle.held_world.specs.Plain.{groups_in}
use Rattle.held_world.proofs.FirstTold.{first_told}
use Rattle.held_world.proofs.room.HeldRoom.first_entered.Goals as goal

pub returns-clause-answer : goal.returns-clause-answer
returns-clause-answer c =
    let old = state_of c.args.world.now in let entries = old.time.now.table.entries in let groups = groups_in c.args.ray.now.mask in
    subst (λ (ray : Ray). AsksFirst (IsFirstEntered entries ray groups) old.spent c.told.result c.args.out.now c.told.new.out) c.ray_of.ensures
    (subst (λ (g : Groups). AsksFirst (IsFirstEntered entries c.ray_of.result g) old.spent c.told.result c.args.out.now c.told.new.out) c.groups_of-groups.ensures
    (first_told (IsFirstEntered entries c.ray_of.result c.groups_of-groups.result) c.first_entered-first.result old.spent c.told.result c.args.out.now c.told.new.out
    c.first_entered-first.ensures.sound c.first_entered-first.ensures.first c.told.ensures.ok c.told.ensures.err))
