-- What is said of the table that the world has is said of the world.
use Rattle.std.proofs.Common.{IfOk, subst}
use Rattle.live_queries.specs.First.{HasFirst}
use Rattle.live_queries.specs.Queries.{cast_of}
use Rattle.box_world.proofs.world.BoxWorld.first_cast.Goals as goal

pub returns-clause-handle : goal.returns-clause-handle
returns-clause-handle g c =
    subst (λ w. IfOk c.first_cast.result (HasFirst (cast_of w.time.now.table.entries c.args.cast.now c.args.groups))) c.self.view_is c.first_cast.ensures.handle
