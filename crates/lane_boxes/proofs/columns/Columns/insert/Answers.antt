-- Each axis gets an interval at the place.
use Rattle.std.proofs.Common.{length, arith, ap}
use Rattle.lane_boxes.specs.Spans.{x_of, y_of, z_of}
use Rattle.lane_boxes.proofs.BoxLists.{axes_long, boxes_inserted}
use Rattle.lane_boxes.proofs.columns.Columns.insert.Goals as goal

pub insert_reserved-requires-clause-within : goal.insert_reserved-requires-clause-within
insert_reserved-requires-clause-within c =
    let axes = axes_long c.self.inside.x c.self.inside.y c.self.inside.z c.self.inside.spare c.reserve.new.self c.self.invariant c.self.view_is in
    omega (arith, axes.x, ap length c.reserve.ensures.boxes)

pub insert_reserved-requires-2-clause-within : goal.insert_reserved-requires-2-clause-within
insert_reserved-requires-2-clause-within c =
    let axes = axes_long c.self.inside.x c.self.inside.y c.self.inside.z c.self.inside.spare c.reserve.new.self c.self.invariant c.self.view_is in
    omega (arith, axes.y, ap length c.reserve.ensures.boxes)

pub insert_reserved-requires-3-clause-within : goal.insert_reserved-requires-3-clause-within
insert_reserved-requires-3-clause-within c =
    let axes = axes_long c.self.inside.x c.self.inside.y c.self.inside.z c.self.inside.spare c.reserve.new.self c.self.invariant c.self.view_is in
    omega (arith, axes.z, ap length c.reserve.ensures.boxes)

pub returns-clause-ok : goal.returns-clause-ok
returns-clause-ok c =
    let kept = c.reserve.ensures.boxes in
    rw (
      c.insert_reserved.ensures.spans,
      c.insert_reserved-2.ensures.spans,
      c.insert_reserved-3.ensures.spans,
      c.on_x.ensures.span,
      c.on_y.ensures.span,
      c.on_z.ensures.span,
      ← kept,
      ← c.self.view_is,
    )
    (boxes_inserted c.self.inside.x c.self.inside.y c.self.inside.z c.self.inside.spare c.self.invariant c.args.at (x_of c.args.body) (y_of c.args.body)
    (z_of c.args.body))
