-- of the pairs that touch, those are kept whose kinds let them collide
use Rattle.std.proofs.Common.{ap, ◌∙◌}
use Rattle.std.proofs.lemmas.Result.{on_ok_weaker}
use Rattle.broad_index.specs.Near.{rises}
use Rattle.engine_tick.proofs.Collisions.{let_collide}
use Rattle.engine_tick.proofs.world.World.frame.Goals as goal

pub returns-clause-colliding : goal.returns-clause-colliding
returns-clause-colliding g c =
    let bodies = g.B.BroadPhase.bodies c.tick.new.self.index in
    let up = ap rises c.in_ok-tick.ensures.in_order ∙ c.member_laws.ensures.near_rises bodies in
    on_ok_weaker c.turn.result
    (let_collide bodies c.args.kinds.now c.tick.new.touching.items c.turn.new.self.now.items c.in_ok-tick.ensures.touching up) c.turn.ensures.now
