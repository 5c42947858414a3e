-- What changes on one axis leaves the other two.
use Rattle.std.proofs.Common.{ap, sym, subst, ◌∙◌}
use Rattle.sweep_prune.specs.declared.axis.Axis.TheVariants.{Y, Z}
use Rattle.sweep_prune.specs.Keyed.{coord}
use Rattle.sweep_prune.specs.Sweep.{AxisKeeps}
use Rattle.sweep_prune.proofs.SweepLemmas.{swept_moved}
use Rattle.sweep_prune.proofs.WalkLemmas.{on_ok_three}
use Rattle.sweep_prune.proofs.moves.move_box.Goals as goal

pub move_axis-requires-2-clause-ready : goal.move_axis-requires-2-clause-ready
move_axis-requires-2-clause-ready c =
    let r = c.requires.ready in
    (r.0, subst (AxisKeeps r.0 (coord Y) c.args.keys.now.y.items) (sym (ap (λ l. l.y) c.in_ok-move_axis.ensures.others)) r.1.on_y, r.2)

pub move_axis-requires-3-clause-ready : goal.move_axis-requires-3-clause-ready
move_axis-requires-3-clause-ready c =
    let r = c.requires.ready in (
      r.0,
      subst (AxisKeeps r.0 (coord Z) c.args.keys.now.z.items) (sym (ap (λ l. l.z) c.in_ok-move_axis-2.ensures.others
          ∙ ap (λ l. l.z) c.in_ok-move_axis.ensures.others)) r.1.on_z,
      r.2,
    )

pub returns : goal.returns
returns c =
    on_ok_three c.move_axis-3.result
    (λ up others moved bodies was k g.
    swept_moved bodies c.args.slot was c.args.body c.args.keys.now.x.items c.args.keys.now.y.items c.args.keys.now.z.items c.move_axis.new.keys.items
    c.move_axis-2.new.keys.items c.move_axis-3.new.keys.items
    c.args.core.now c.move_axis.new.core c.move_axis-2.new.core c.move_axis-3.new.core k
    c.in_ok-move_axis.ensures.counted c.in_ok-move_axis-2.ensures.counted up
    c.in_ok-move_axis.ensures.others c.in_ok-move_axis-2.ensures.others others
    (λ a. c.in_ok-move_axis.ensures.moved bodies was a g) (λ a. c.in_ok-move_axis-2.ensures.moved bodies was a g) (λ a. moved bodies was a g))
    c.move_axis-3.ensures.counted c.move_axis-3.ensures.others c.move_axis-3.ensures.moved
