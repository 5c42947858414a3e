-- The ray as the world knows it, and what it meets.
use Rattle.std.proofs.Common.{Some, subst}
use Rattle.ray_slabs.specs.declared.ray.Ray.{Ray}
use Rattle.live_queries.specs.declared.groups.Groups.{Groups}
use Rattle.live_queries.specs.Queries.{entered_of}
use Rattle.any_world.specs.AnyWorld.{state_of}
use Rattle.held_world.specs.declared.TheConstants.{ARGUMENT}
use Rattle.held_world.specs.Asks.{Asks}
use Rattle.held_world.specs.Plain.{groups_in}
use Rattle.held_world.proofs.Asked.{answered}
use Rattle.held_world.proofs.room.HeldRoom.entered.Goals as goal

pub returns : goal.returns
returns c =
    let old = state_of c.args.world.now in let entries = old.time.now.table.entries in let groups = groups_in c.args.ray.now.mask in
    subst (λ (ray : Ray). Asks ARGUMENT (Some (entered_of entries ray groups)) old.spent c.answered.result c.args.out.now c.answered.new.out)
    c.ray_of.ensures
    (subst (λ (g : Groups). Asks ARGUMENT (Some (entered_of entries c.ray_of.result g)) old.spent c.answered.result c.args.out.now c.answered.new.out)
    c.groups_of-groups.ensures
    (answered c.entered-answer.result old.spent (entered_of entries c.ray_of.result c.groups_of-groups.result) c.clear.new.self.items c.entered-answer.new.out.items
    c.answered.result c.args.out.now c.answered.new.out c.clear.ensures.items c.entered-answer.ensures.sound c.entered-answer.ensures.ok
    c.answered.ensures.ok c.answered.ensures.err))
