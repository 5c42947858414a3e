-- The question as the world knows it, and what is nearest.
use Rattle.std.proofs.Common.{min, Some, subst}
use Rattle.fixed_box.specs.declared.TheConstants.{SLOTS}
use Rattle.live_queries.specs.declared.nearest.NearQuery.{NearQuery}
use Rattle.live_queries.specs.Queries.{nearest_to}
use Rattle.any_world.specs.AnyWorld.{state_of}
use Rattle.held_world.specs.declared.TheConstants.{ARGUMENT}
use Rattle.held_world.specs.Asks.{Asks}
use Rattle.held_world.proofs.Asked.{answered}
use Rattle.held_world.proofs.room.HeldRoom.nearest.Goals as goal

pub returns : goal.returns
returns c =
    let old = state_of c.args.world.now in let entries = old.time.now.table.entries in let asked = c.near_of.result in
    subst (λ (near : NearQuery). Asks ARGUMENT (Some (nearest_to entries near.at (min near.want SLOTS) near.groups)) old.spent c.answered.result
    c.args.out.now c.answered.new.out) c.near_of.ensures
    (answered c.nearest-answer.result old.spent (nearest_to entries asked.at (min asked.want SLOTS) asked.groups) c.clear.new.self.items
    c.nearest-answer.new.out.items c.answered.result c.args.out.now c.answered.new.out c.clear.ensures.items c.nearest-answer.ensures.sound
    c.nearest-answer.ensures.ok c.answered.ensures.ok c.answered.ensures.err)
