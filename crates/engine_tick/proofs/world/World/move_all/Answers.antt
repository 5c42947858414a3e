-- a body that moved is there still, and so are the others
use Rattle.std.proofs.Common.{◌≡◌, ap, ◌∙◌}
use Rattle.std.specs.FinMap.{insert}
use Rattle.engine_tick.proofs.Moving.{still_there, one_more}
use Rattle.engine_tick.proofs.world.World.move_all.Goals as goal

pub loop-one-preserved : goal.loop-one-preserved
loop-one-preserved g c =
    let now = g.B.BroadPhase.bodies c.loop-one.self.index in
    let next = g.B.BroadPhase.bodies c.shift.new.self in
    let moved = c.args.moved.now in
    let m = c.one-item.result in
    let put : next ≡ insert now m.0 m.1 = c.in_ok-shift.ensures.ok ∙ ap (λ bodies. insert bodies m.0 m.1) c.clear_exchanges.ensures.bodies in
    record {
      ahead = one_more now next moved c.loop-one.one-index m c.loop-one-test.true c.one-item.is put ∙ c.loop-one.invariant.ahead;
      sound = c.in_ok-shift.ensures.sound;
      present = still_there now next m moved put c.loop-one.invariant.present;
    }
