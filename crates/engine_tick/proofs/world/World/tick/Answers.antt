-- the index lists the pairs of the bodies that touch
use Rattle.std.proofs.lemmas.Result.{on_ok_weaker}
use Rattle.engine_tick.proofs.NearTouches.{listed_touch}
use Rattle.engine_tick.proofs.world.World.tick.Goals as goal

pub returns-clause-touching : goal.returns-clause-touching
returns-clause-touching g c =
    let old = g.B.BroadPhase.bodies c.move_all.new.self.index in
    let new = g.B.BroadPhase.bodies c.pairs.new.self in
    let touch =
    listed_touch c.order_laws.ensures.same c.member_laws.ensures.near old new c.clear.new.self.items c.pairs.new.out.items c.clear.ensures.items
    c.pairs.ensures.bodies in
    on_ok_weaker c.pairs.result touch c.pairs.ensures.ok
