-- Each axis gets another interval at the place.
use Rattle.std.proofs.Common.{arith}
use Rattle.lane_boxes.specs.Spans.{x_of, y_of, z_of}
use Rattle.lane_boxes.proofs.BoxLists.{axes_long, boxes_set}
use Rattle.lane_boxes.proofs.columns.Columns.set.Goals as goal

pub set-requires-clause-within : goal.set-requires-clause-within
set-requires-clause-within c =
    let axes = axes_long c.self.inside.x c.self.inside.y c.self.inside.z c.self.inside.spare c.args.self.now c.self.invariant c.self.view_is in
    omega (arith, axes.x)

pub set-requires-2-clause-within : goal.set-requires-2-clause-within
set-requires-2-clause-within c =
    let axes = axes_long c.self.inside.x c.self.inside.y c.self.inside.z c.self.inside.spare c.args.self.now c.self.invariant c.self.view_is in
    omega (arith, axes.y)

pub set-requires-3-clause-within : goal.set-requires-3-clause-within
set-requires-3-clause-within c =
    let axes = axes_long c.self.inside.x c.self.inside.y c.self.inside.z c.self.inside.spare c.args.self.now c.self.invariant c.self.view_is in
    omega (arith, axes.z)

pub returns-clause-boxes : goal.returns-clause-boxes
returns-clause-boxes c =
    rw (c.set.ensures.spans, c.set-2.ensures.spans, c.set-3.ensures.spans, c.on_x.ensures.span, c.on_y.ensures.span, c.on_z.ensures.span, ← c.self.view_is)
    (boxes_set c.self.inside.x.spans c.self.inside.y.spans c.self.inside.z.spans c.args.at (x_of c.args.body) (y_of c.args.body) (z_of c.args.body))
