-- What is said of the table that the world has is said of the world.
use Rattle.std.proofs.Common.{IfOk, subst}
use Rattle.live_queries.specs.First.{HasFirst}
use Rattle.live_queries.specs.Queries.{entered_of}
use Rattle.box_world.proofs.world.BoxWorld.first_entered.Goals as goal

pub returns-clause-handle : goal.returns-clause-handle
returns-clause-handle g c =
    subst (λ w. IfOk c.first_entered.result (HasFirst (entered_of w.time.now.table.entries c.args.ray.now c.args.groups))) c.self.view_is c.first_entered.ensures.handle
